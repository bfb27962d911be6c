use Rattle.job_sched.proofs.Alone.{fewer, one_head, one_row, runs_on}
use Rattle.job_sched.proofs.Units.{rows_join}
use Rattle.job_sched.proofs.laws.a_row_is_of_one_fork.Goals as goal

pub returns-clause-head : goal.returns-clause-head
returns-clause-head c = one_head

pub returns-clause-joins : goal.returns-clause-joins
returns-clause-joins c = rows_join

pub returns-clause-alone : goal.returns-clause-alone
returns-clause-alone c = runs_on

pub returns-clause-one : goal.returns-clause-one
returns-clause-one c = one_row

pub returns-clause-fewer : goal.returns-clause-fewer
returns-clause-fewer c = fewer
