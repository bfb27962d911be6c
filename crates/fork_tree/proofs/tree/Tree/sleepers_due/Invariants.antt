use Rattle.std.proofs.Common.{◌≡◌, ◌<◌, ◌≤◌, ℕ, false}
use Rattle.fork_tree.specs.Waking.{NoneSleepsIn, is_by}
use Rattle.fork_tree.proofs.tree.Tree.sleepers_due.Given as goal

abbrev pub invariant-loop-slot : goal.invariant-loop-slot
invariant-loop-slot l = (clock : ℕ) → is_by l.due clock ≡ false → (slot : ℕ) → 1 ≤ slot → slot < l.slot → NoneSleepsIn clock l.self.forks l.tty slot
