use Rattle.word36.specs.Bytes.{position, size, loaded, deposited}
use Rattle.ka10_bytes.proofs.Placing.{loads}
use Rattle.ka10_bytes.proofs.laws.loads_what_is_deposited.Goals as goal

pub returns : goal.returns
unfolding loaded deposited
returns c = loads (position c.args.p) (size c.args.p) c.args.w c.args.byte
