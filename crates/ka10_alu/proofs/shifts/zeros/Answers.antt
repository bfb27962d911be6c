use Rattle.std.proofs.Common.{arith}
use Rattle.std.proofs.lemmas.Nat.{leading_le}
use Rattle.ka10_alu.proofs.Shifting.{zeros_of_36}
use Rattle.ka10_alu.proofs.shifts.zeros.Goals as goal

pub overflow_sub-result : goal.overflow_sub-result
overflow_sub-result c = omega (arith, zeros_of_36 c.args.n c.requires)

pub returns-clause-value : goal.returns-clause-value
returns-clause-value c = omega (arith, zeros_of_36 c.args.n c.requires)

pub returns-clause-below : goal.returns-clause-below
returns-clause-below c = omega (arith, zeros_of_36 c.args.n c.requires, leading_le 36 c.args.n)
