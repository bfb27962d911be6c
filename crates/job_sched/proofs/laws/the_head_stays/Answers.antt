use Rattle.job_sched.proofs.Heads.{starts, stops}
use Rattle.job_sched.proofs.laws.the_head_stays.Goals as goal

pub returns-clause-starts : goal.returns-clause-starts
returns-clause-starts c = starts

pub returns-clause-stops : goal.returns-clause-stops
returns-clause-stops c = stops
