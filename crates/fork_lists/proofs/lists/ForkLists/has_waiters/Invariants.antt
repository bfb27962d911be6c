use Rattle.std.proofs.Common.{◌≡◌}
use Rattle.std.specs.List.{list_any}
use Rattle.fork_lists.specs.Seeing.{job_slots, seen_in}
use Rattle.fork_lists.proofs.Folds.{slots_from}
use Rattle.fork_lists.proofs.lists.ForkLists.has_waiters.Given as goal

abbrev pub invariant-loop-slot : goal.invariant-loop-slot
invariant-loop-slot l = list_any (λ slot. (seen_in l.self.seen.items l.t slot).waits) (slots_from l.slot) ≡ list_any (λ slot. (seen_in l.self.seen.items l.t slot).waits) job_slots
