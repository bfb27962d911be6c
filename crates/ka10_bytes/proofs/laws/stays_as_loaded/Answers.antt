use Rattle.word36.specs.Bytes.{position, size, loaded, deposited}
use Rattle.ka10_bytes.proofs.Placing.{stays}
use Rattle.ka10_bytes.proofs.laws.stays_as_loaded.Goals as goal

pub returns : goal.returns
unfolding loaded deposited
returns c = λ h. stays (position c.args.p) (size c.args.p) c.args.w h
