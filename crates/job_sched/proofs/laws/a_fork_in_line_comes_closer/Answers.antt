use Rattle.job_sched.proofs.Lines.{arrives, begins, due, few, gives, joins, passed, placed, rows, starts, stops, waits}
use Rattle.job_sched.proofs.laws.a_fork_in_line_comes_closer.Goals as goal

pub returns-clause-rows : goal.returns-clause-rows
returns-clause-rows c = rows

pub returns-clause-waits : goal.returns-clause-waits
returns-clause-waits c = waits

pub returns-clause-starts : goal.returns-clause-starts
returns-clause-starts c = starts

pub returns-clause-stops : goal.returns-clause-stops
returns-clause-stops c = stops

pub returns-clause-gives : goal.returns-clause-gives
returns-clause-gives c = gives

pub returns-clause-arrives : goal.returns-clause-arrives
returns-clause-arrives c = arrives

pub returns-clause-begins : goal.returns-clause-begins
returns-clause-begins c = begins

pub returns-clause-joins : goal.returns-clause-joins
returns-clause-joins c = joins

pub returns-clause-due : goal.returns-clause-due
returns-clause-due c = due

pub returns-clause-few : goal.returns-clause-few
returns-clause-few c = few

pub returns-clause-placed : goal.returns-clause-placed
returns-clause-placed c = placed

pub returns-clause-passed : goal.returns-clause-passed
returns-clause-passed c = passed
