use Rattle.paged_events.proofs.Taking.{turns_join}
use Rattle.paged_events.proofs.laws.turns_over_frames_are_of_the_head.Goals as goal

pub returns-clause-head : goal.returns-clause-head
returns-clause-head c = λ c c' s f xs turns. (turns.0, turns.2, turns.4)

pub returns-clause-joins : goal.returns-clause-joins
returns-clause-joins c = turns_join
