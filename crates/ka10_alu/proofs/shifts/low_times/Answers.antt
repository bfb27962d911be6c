use Rattle.std.proofs.Common.{◌∙◌, arith}
use Rattle.ka10_alu.proofs.Shifting.{left_same}
use Rattle.ka10_alu.proofs.shifts.low_times.Goals as goal

pub returns-clause-value : goal.returns-clause-value
returns-clause-value c = c.low.ensures.value ∙ rw c.min.ensures (left_same c.args.d c.args.n c.args.width (omega arith))
