use Rattle.std.proofs.Common.{refl, ◌∙◌, ap}
use Rattle.job_sched.specs.Schedules.{size}
use Rattle.job_sched.proofs.Waits.{size_arrived}
use Rattle.fork_lists.proofs.Chosen.{arrived_tied}
use Rattle.fork_lists.proofs.lists.ForkLists.arrived.Goals as goal

pub returns-clause-tied : goal.returns-clause-tied
returns-clause-tied c = λ forks tied. arrived_tied forks c.args.self.now _ c.args.done tied c.arrived.ensures refl

pub returns-clause-set : goal.returns-clause-set
returns-clause-set c = ap size c.arrived.ensures ∙ size_arrived c.args.self.now.sched c.args.done
