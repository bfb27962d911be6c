use Rattle.plain_refusals.proofs.EventsRefused.{event_granted, event_refused}
use Rattle.plain_refusals.proofs.laws.refused_events_change_nothing.Goals as goal

pub returns-clause-refused : goal.returns-clause-refused
returns-clause-refused c = λ s e cause is. event_refused s e cause is

pub returns-clause-granted : goal.returns-clause-granted
returns-clause-granted c = λ s e is. event_granted s e is
