use Rattle.std.proofs.Common.{◌≡◌}
use Rattle.fork_lists.specs.Choices.{picked}
use Rattle.fork_lists.specs.Following.{picks_started}
use Rattle.fork_lists.specs.Seeing.{job_slots}
use Rattle.fork_lists.specs.Ties.{Living}
use Rattle.fork_lists.proofs.Folds.{slots_from}
use Rattle.fork_lists.proofs.lists.ForkLists.start_all.Given as goal

abbrev pub invariant-loop-slot : goal.invariant-loop-slot
invariant-loop-slot l = record {
  schedule : picks_started l.tree.forks (picked l.fn.self.seen.items l.t l.choice) l.t l.self.sched (slots_from l.slot) ≡ picks_started l.tree.forks (picked l.fn.self.seen.items l.t l.choice) l.t l.fn.self.sched job_slots;
  living : Living l.tree.forks l.self.sched;
  seen : l.self.seen ≡ l.fn.self.seen;
}
