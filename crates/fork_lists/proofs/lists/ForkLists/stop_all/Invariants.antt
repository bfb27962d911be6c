use Rattle.std.proofs.Common.{◌≡◌}
use Rattle.fork_lists.specs.Following.{lost_stopped}
use Rattle.fork_lists.specs.Seeing.{job_slots}
use Rattle.fork_lists.proofs.Folds.{slots_from}
use Rattle.fork_lists.proofs.lists.ForkLists.stop_all.Given as goal

abbrev pub invariant-loop-slot : goal.invariant-loop-slot
invariant-loop-slot l = record {
  schedule : lost_stopped l.tree.forks l.fn.self.seen.items l.t l.self.sched (slots_from l.slot) ≡ lost_stopped l.tree.forks l.fn.self.seen.items l.t l.fn.self.sched job_slots;
  seen : l.self.seen ≡ l.fn.self.seen;
}
