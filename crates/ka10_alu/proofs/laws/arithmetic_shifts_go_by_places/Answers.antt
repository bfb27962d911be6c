use Rattle.ka10_alu.proofs.Places.{left_places, lost_places, right_places}
use Rattle.ka10_alu.proofs.laws.arithmetic_shifts_go_by_places.Goals as goal

pub returns-clause-left : goal.returns-clause-left
returns-clause-left c = left_places

pub returns-clause-lost : goal.returns-clause-lost
returns-clause-lost c = lost_places

pub returns-clause-right : goal.returns-clause-right
returns-clause-right c = right_places
