use Rattle.std.proofs.Common.{◌≡◌, ◌-◌}
use Rattle.std.specs.List.{range_with_len}
use Rattle.fork_tree.specs.Trees.{IsTree}
use Rattle.fork_tree.proofs.Waking.{changed_in}
use Rattle.fork_tree.specs.Waking.{freed_of}
use Rattle.fork_tree.proofs.tree.Tree.wake_all.Given as goal

abbrev pub invariant-loop-slot : goal.invariant-loop-slot
invariant-loop-slot l = record {
  tree : IsTree l.initial.self;
  forks : changed_in (freed_of l.awaited) l.self.forks l.tty (range_with_len l.slot (31 - l.slot)) ≡ changed_in (freed_of l.awaited) l.initial.self.forks l.tty (range_with_len 1 30);
  serials : l.self.serials ≡ l.initial.self.serials;
}
