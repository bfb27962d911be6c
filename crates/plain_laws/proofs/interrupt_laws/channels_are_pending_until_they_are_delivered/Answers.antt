use Rattle.std.proofs.Common.{◌∙◌, ap}
use Rattle.plain_model.specs.declared.fork.Fork.{Fork}
use Rattle.plain_model.specs.Interrupts.{has_channel}
use Rattle.plain_laws.proofs.InterruptUnits.{posted_pending}
use Rattle.plain_laws.proofs.PostedNext.{less_told, more_told}
use Rattle.plain_laws.proofs.interrupt_laws.channels_are_pending_until_they_are_delivered.Goals as goal

pub returns-clause-posted : goal.returns-clause-posted
returns-clause-posted c = λ f channel other fits below takes. ap (λ (g : Fork). has_channel g.body.psi.pending other) (posted_pending f channel takes) ∙ more_told f.body.psi.pending channel fits other below

pub returns-clause-delivered : goal.returns-clause-delivered
returns-clause-delivered c = λ f d other fits below. less_told f.body.psi.pending d.found.channel fits other below
