use Rattle.plain_laws.proofs.InterruptUnits.{posted_dropped, posted_forced, posted_pending}
use Rattle.plain_laws.proofs.interrupt_laws.panic_channels_force_who_does_not_take_them.Goals as goal

pub returns-clause-forced : goal.returns-clause-forced
returns-clause-forced c = λ f channel misses panics. posted_forced f channel misses panics

pub returns-clause-dropped : goal.returns-clause-dropped
returns-clause-dropped c = λ f channel misses drops. posted_dropped f channel misses drops

pub returns-clause-pending : goal.returns-clause-pending
returns-clause-pending c = λ f channel takes. posted_pending f channel takes
