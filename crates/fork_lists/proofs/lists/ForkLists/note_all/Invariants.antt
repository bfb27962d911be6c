use Rattle.std.proofs.Common.{◌≡◌, ◌≢◌, ◌≤◌, ◌<◌, ℕ}
use Rattle.machine_names.specs.declared.names.Tty.{Tty as ATty}
use Rattle.machine_names.specs.declared.names.TheConstants.{MOST_FORKS}
use Rattle.plain_model.specs.Forks.{fork_in}
use Rattle.fork_lists.specs.Seeing.{seen_in, seen_of as seen_of_fork}
use Rattle.fork_lists.proofs.lists.ForkLists.note_all.Given as goal

abbrev pub invariant-loop-slot : goal.invariant-loop-slot
invariant-loop-slot l = record {
  schedule : l.self.sched ≡ l.fn.self.sched;
  mine : (slot : ℕ) → 1 ≤ slot → slot < l.slot → slot ≤ MOST_FORKS → seen_in l.self.seen.items l.t slot ≡ seen_of_fork (fork_in l.tree.forks l.t slot);
  others : (u : ATty) (slot : ℕ) → u.0 ≢ l.t.0 → 1 ≤ slot → slot ≤ MOST_FORKS → seen_in l.self.seen.items u slot ≡ seen_in l.fn.self.seen.items u slot;
}
