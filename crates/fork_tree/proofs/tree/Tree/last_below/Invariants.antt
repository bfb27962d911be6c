use Rattle.std.proofs.Common.{ℕ, ◌<◌}
use Rattle.plain_model.specs.declared.fork.Fork.{Fork}
use Rattle.fork_tree.specs.Inferiors.{IsLeafBelow}
use Rattle.fork_tree.specs.Trees.{IsIn}
use Rattle.fork_tree.proofs.tree.Tree.last_below.Given as goal

abbrev pub invariant-loop-below : goal.invariant-loop-below
invariant-loop-below l = (slot : ℕ) (f : Fork) → l.below < slot → IsIn l.self.forks l.who.tty slot f → IsLeafBelow l.self.forks l.who f → ⊥
