use Rattle.std.proofs.Common.{◌≡◌, ◌-◌}
use Rattle.std.specs.Option.{option_copied}
use Rattle.plain_model.specs.Forks.{superior_of}
use Rattle.machine_names.specs.declared.names.TheConstants.{MOST_FORKS}
use Rattle.plain_model.specs.Inferiors.{is_within}
use Rattle.fork_tree.proofs.tree.Tree.has_superior.Given as goal

abbrev pub invariant-loop-superior : goal.invariant-loop-superior
invariant-loop-superior l = is_within MOST_FORKS l.self.forks l.who (superior_of l.self.forks l.fork) ≡ is_within (MOST_FORKS - l._superior) l.self.forks l.who (option_copied l.next)
