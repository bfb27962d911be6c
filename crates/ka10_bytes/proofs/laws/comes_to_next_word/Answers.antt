use Rattle.ka10_bytes.proofs.Stepping.{comes}
use Rattle.ka10_bytes.proofs.laws.comes_to_next_word.Goals as goal

pub returns : goal.returns
returns c = comes c.args.p
