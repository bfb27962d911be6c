use Rattle.std.proofs.Common.{◌≡◌, ◌-◌, Some}
use Rattle.std.specs.Option.{option_copied}
use Rattle.machine_names.specs.declared.names.TheConstants.{MOST_FORKS}
use Rattle.plain_model.specs.Forks.{any_upward}
use Rattle.fork_tree.proofs.tree.Tree.is_frozen.Given as goal

abbrev pub invariant-loop-ancestor : goal.invariant-loop-ancestor
invariant-loop-ancestor l = any_upward (λ k. k.frozen) MOST_FORKS l.self.forks (Some l.fork) ≡ any_upward (λ k. k.frozen) (MOST_FORKS - l._ancestor) l.self.forks (option_copied l.next)
