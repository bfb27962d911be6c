use Rattle.job_sched.proofs.Ties.{leaves}
use Rattle.job_sched.proofs.sched.Sched.stop.Goals as goal

pub returns-clause-listed : goal.returns-clause-listed
returns-clause-listed c = λ runs listed. rw (c.admit.ensures, c.leave.ensures) (leaves runs c.args.self.now c.args.f listed)
