-- Forks of a tree that can run, as the machine chooses them.
use Rattle.std.specs.Prelude.{◌≡◌, Bool, if◌then◌else◌}
use Rattle.std.specs.FinMap as map
use Rattle.std.specs.Option.{option_map_or}
use Rattle.machine_names.specs.declared.names.ForkName.{ForkName}
use Rattle.plain_model.specs.declared.fork.Fork.{Fork}
use Rattle.plain_model.specs.Forks.{ForkMap, IsRunnable}
use Rattle.plain_model.specs.Trees.{PlainTree, end_told}
use Rattle.fork_tree.specs.Trees.{IsIn, IsTree}
use Rattle.step_shown.specs.declared.runner.Runner.{Runner}

-- a fork of trees is in this slot, under this name, and can run
pub record IsRunner (tree : PlainTree) (who : Runner) : Type 0 where
  pub trees : IsTree tree
  pub fork : Fork
  pub there : IsIn tree.forks who.fork.tty who.slot fork
  pub named : fork.name ≡ who.fork
  pub runs : IsRunnable tree.forks who.fork

-- the forks once it is told that one of them has ended, where it has stopped
abbrev pub told_where : ForkMap → Fork → Bool → ForkMap
told_where forks f stops = if stops then end_told forks f else forks

-- so of the fork of a name
abbrev pub told_at : PlainTree → ForkName → Bool → PlainTree
told_at tree name stops = record tree { forks = option_map_or (λ f. told_where tree.forks f stops) (map.get tree.forks name) tree.forks }
