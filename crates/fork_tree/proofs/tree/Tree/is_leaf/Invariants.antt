use Rattle.std.proofs.Common.{◌≡◌, ◌<◌, Some}
use Rattle.plain_model.specs.declared.fork.Fork.{Fork}
use Rattle.fork_tree.specs.Trees.{Lives}
use Rattle.fork_tree.proofs.tree.Tree.is_leaf.Given as goal

abbrev pub invariant-loop-slot : goal.invariant-loop-slot
invariant-loop-slot l = (g : Fork) → Lives l.self.forks g → g.name.tty.0 ≡ l.fork.name.tty.0 → g.slot < l.slot → g.superior ≡ Some l.fork.slot → ⊥
