use Rattle.job_sched.proofs.Ties.{enters}
use Rattle.job_sched.proofs.sched.Sched.start.Goals as goal

pub returns-clause-listed : goal.returns-clause-listed
returns-clause-listed c = λ runs listed. rw (c.admit.ensures, c.wake.ensures) (enters runs c.args.self.now c.args.f listed)
