use Rattle.plain_laws.proofs.Moving.{starts_told, stops_told}
use Rattle.plain_laws.proofs.fork_laws.moves_are_who_can_run.Goals as goal

pub returns-clause-starts : goal.returns-clause-starts
returns-clause-starts c = λ before after f w. starts_told f before.forks after.forks w.machine.tree.slotted

pub returns-clause-stops : goal.returns-clause-stops
returns-clause-stops c = λ before after f w. stops_told f before.forks after.forks w.machine.tree.slotted
