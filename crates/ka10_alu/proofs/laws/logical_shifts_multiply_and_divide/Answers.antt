use Rattle.ka10_alu.proofs.LogicalShifts.{divides, divides_both, multiplies, multiplies_both}
use Rattle.ka10_alu.proofs.laws.logical_shifts_multiply_and_divide.Goals as goal

pub returns-clause-left : goal.returns-clause-left
returns-clause-left c = multiplies

pub returns-clause-right : goal.returns-clause-right
returns-clause-right c = divides

pub returns-clause-both_left : goal.returns-clause-both_left
returns-clause-both_left c = multiplies_both

pub returns-clause-both_right : goal.returns-clause-both_right
returns-clause-both_right c = divides_both
