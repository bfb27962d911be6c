use Rattle.std.proofs.Common.{◌≡◌, ℕ, ◌≤◌, ◌<◌, None, get_or}
use Rattle.fork_tree.specs.Places.{place_in}
use Rattle.fork_tree.proofs.fork_table.last_used.Given as goal

abbrev pub invariant-loop-below : goal.invariant-loop-below
invariant-loop-below l = (slot : ℕ) → l.below < slot → slot ≤ l.last → get_or l.places (place_in l.tty slot) None ≡ None
