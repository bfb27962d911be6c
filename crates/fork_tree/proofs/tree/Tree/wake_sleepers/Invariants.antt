use Rattle.std.proofs.Common.{◌≡◌, ◌-◌}
use Rattle.std.specs.List.{range_with_len}
use Rattle.machine_names.specs.declared.names.TheConstants.{TERMINALS}
use Rattle.fork_tree.specs.Trees.{IsTree}
use Rattle.fork_tree.proofs.Sleepers.{awoken_at}
use Rattle.fork_tree.proofs.tree.Tree.wake_sleepers.Given as goal

abbrev pub invariant-loop-tty : goal.invariant-loop-tty
invariant-loop-tty l = record {
  tree : IsTree l.initial.self;
  forks : awoken_at l.clock l.self.forks (range_with_len l.tty (TERMINALS - l.tty)) ≡ awoken_at l.clock l.initial.self.forks (range_with_len 0 TERMINALS);
  serials : l.self.serials ≡ l.initial.self.serials;
}
