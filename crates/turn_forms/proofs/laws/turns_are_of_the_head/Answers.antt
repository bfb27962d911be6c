use Rattle.turn_forms.proofs.Turns.{moved_listed, silent_listed, turns_join}
use Rattle.turn_forms.proofs.laws.turns_are_of_the_head.Goals as goal

pub returns-clause-head : goal.returns-clause-head
returns-clause-head c = λ c c' s f xs turns. (turns.0, turns.2)

pub returns-clause-listed : goal.returns-clause-listed
returns-clause-listed c = moved_listed

pub returns-clause-waits : goal.returns-clause-waits
returns-clause-waits c = silent_listed

pub returns-clause-joins : goal.returns-clause-joins
returns-clause-joins c = turns_join
