use Rattle.ka10_alu.proofs.LogicalShifts.{moves_left, moves_right}
use Rattle.ka10_alu.proofs.laws.logical_shifts_move_bits.Goals as goal

pub returns-clause-left : goal.returns-clause-left
returns-clause-left c = moves_left

pub returns-clause-right : goal.returns-clause-right
returns-clause-right c = moves_right
