use Rattle.plain_laws.proofs.PostedNext.{delivered_next, looks_then}
use Rattle.plain_laws.proofs.interrupt_laws.posted_channels_are_delivered_next.Goals as goal

pub returns-clause-looks : goal.returns-clause-looks
returns-clause-looks c = λ f channel fits takes. looks_then f channel fits takes

pub returns-clause-delivered : goal.returns-clause-delivered
returns-clause-delivered c = λ s f channel d q fits takes ease lives finds. delivered_next f channel fits takes ease s d q lives finds
