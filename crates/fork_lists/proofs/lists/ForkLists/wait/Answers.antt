use Rattle.std.proofs.Common.{refl, ◌∙◌, ap}
use Rattle.job_sched.specs.Schedules.{size}
use Rattle.job_sched.proofs.Waits.{size_waited}
use Rattle.fork_lists.proofs.Chosen.{waited_tied}
use Rattle.fork_lists.proofs.lists.ForkLists.wait.Goals as goal

pub returns-clause-tied : goal.returns-clause-tied
returns-clause-tied c = λ forks tied. waited_tied forks c.args.self.now _ c.args.need tied c.wait.ensures refl

pub returns-clause-set : goal.returns-clause-set
returns-clause-set c = ap size c.wait.ensures ∙ size_waited c.args.self.now.sched c.args.need
