use Rattle.job_sched.proofs.Ties.{arrived_listed, chosen_runs, enters, filled, leaves, none_runs, waits_filled, waits_listed}
use Rattle.job_sched.specs.Schedules.{left, woken}
use Rattle.job_sched.proofs.Units.{rows_filled, rows_listed}
use Rattle.job_sched.proofs.laws.lists_follow_the_forks.Goals as goal

pub returns-clause-enters : goal.returns-clause-enters
returns-clause-enters c = enters

pub returns-clause-leaves : goal.returns-clause-leaves
returns-clause-leaves c = leaves

pub returns-clause-filled : goal.returns-clause-filled
returns-clause-filled c = λ s f. (filled (woken s f), filled (left s f))

pub returns-clause-rows : goal.returns-clause-rows
returns-clause-rows c = rows_listed

pub returns-clause-waits : goal.returns-clause-waits
returns-clause-waits c = waits_listed

pub returns-clause-arrives : goal.returns-clause-arrives
returns-clause-arrives c = arrived_listed

pub returns-clause-stays_filled : goal.returns-clause-stays_filled
returns-clause-stays_filled c = λ s n need is. (rows_filled s n is, waits_filled s need is, is)

pub returns-clause-chosen : goal.returns-clause-chosen
returns-clause-chosen c = chosen_runs

pub returns-clause-idle : goal.returns-clause-idle
returns-clause-idle c = none_runs
