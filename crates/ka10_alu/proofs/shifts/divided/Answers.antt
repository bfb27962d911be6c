use Rattle.ka10_alu.proofs.Shifting.{right_same}
use Rattle.ka10_alu.proofs.shifts.divided.Goals as goal

pub returns-clause-value : goal.returns-clause-value
returns-clause-value c = rw c.min.ensures (right_same c.args.d c.args.n c.args.width c.requires.d)
