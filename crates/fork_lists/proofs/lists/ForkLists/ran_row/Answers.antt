use Rattle.std.proofs.Common.{refl, ◌∙◌, ap}
use Rattle.job_sched.specs.Schedules.{Schedule, size}
use Rattle.job_sched.proofs.Waits.{size_ran}
use Rattle.job_sched.proofs.Units.{rows_waiting}
use Rattle.fork_lists.proofs.Chosen.{ran_tied}
use Rattle.fork_lists.proofs.lists.ForkLists.ran_row.Goals as goal

pub returns-clause-tied : goal.returns-clause-tied
returns-clause-tied c = λ forks tied. ran_tied forks c.args.self.now _ c.args.count tied c.ran_row.ensures.ran refl

pub returns-clause-waits : goal.returns-clause-waits
returns-clause-waits c = ap (λ (s : Schedule). s.waiting) c.ran_row.ensures.ran ∙ rows_waiting c.args.count c.args.self.now.sched

pub returns-clause-set : goal.returns-clause-set
returns-clause-set c = ap size c.ran_row.ensures.ran ∙ size_ran c.args.count c.args.self.now.sched
