use Rattle.plain_laws.proofs.InterruptUnits.{assigned_goes, assigned_stops}
use Rattle.plain_laws.proofs.interrupt_laws.assigned_characters_reach_their_fork.Goals as goal

pub returns-clause-posted : goal.returns-clause-posted
returns-clause-posted c = λ s t j code channel f is mode other assigned lives goes. assigned_goes s t j code channel f is mode other assigned lives goes

pub returns-clause-forced : goal.returns-clause-forced
returns-clause-forced c = λ s t j code channel f is mode other assigned lives stops. assigned_stops s t j code channel f is mode other assigned lives stops
