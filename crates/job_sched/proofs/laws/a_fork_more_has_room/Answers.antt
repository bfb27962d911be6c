use Rattle.job_sched.proofs.Apart.{one_listed, one_more}
use Rattle.job_sched.proofs.laws.a_fork_more_has_room.Goals as goal

pub returns-clause-stands : goal.returns-clause-stands
returns-clause-stands c = one_more

pub returns-clause-listed : goal.returns-clause-listed
returns-clause-listed c = one_listed
