use Rattle.std.proofs.Common.{◌∙◌, sym}
use Rattle.fork_lists.specs.Seeing.{job_slots}
use Rattle.fork_lists.proofs.Folds.{none_waited}
use Rattle.fork_lists.proofs.lists.ForkLists.start_waiters.Goals as goal

pub returns-else-has_waiters-clause-schedule : goal.returns-else-has_waiters-clause-schedule
returns-else-has_waiters-clause-schedule c =
    none_waited c.args.tree.now.forks c.args.self.now.seen.items c.args.t job_slots c.args.self.now.sched (sym c.has_waiters.ensures ∙ c.if-has_waiters.false)
