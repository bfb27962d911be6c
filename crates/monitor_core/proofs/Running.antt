-- A fork that can run, in its slot of a tree.
use Rattle.std.proofs.Common.{◌≡◌, false, Some, sym, ◌∙◌, ap, subst}
use Rattle.plain_model.specs.declared.fork.Fork.{Fork}
use Rattle.script_texts.specs.declared.status.ForkStatus.TheVariants.{Run}
use Rattle.machine_names.specs.declared.names.TheConstants.{MOST_FORKS}
use Rattle.plain_model.specs.Forks.{fork_in, is_frozen}
use Rattle.plain_model.specs.Trees.{PlainTree}
use Rattle.fork_tree.specs.Trees.{Lives}
use Rattle.fork_tree.proofs.CanRun.{can_runs, runs_named}
use Rattle.fork_tree.proofs.Slots.{in_found}
use Rattle.step_shown.specs.declared.runner.Runner.{Runner}
use Rattle.monitor_calls.specs.ForkUnit.{Place, fork_of}
use Rattle.step_shown.specs.Runners.{IsRunner}

-- where a fork stands
abbrev pub place_of : Fork → Place
place_of f = record { slot = f.slot; superior = f.superior; frozen = f.frozen }

module _ (tree : PlainTree) (who : Runner) (r : IsRunner tree who) where
  -- the fork, by its name
  abbrev pub runner : Fork
  runner = fork_of who.fork (place_of r.fork) r.fork.body

  pub runner_is : r.fork ≡ runner
  runner_is = λ i. record r.fork { name = r.named i }

  pub runner_lives : Lives tree.forks runner
  runner_lives = subst (Lives tree.forks) runner_is r.there.0

  -- it is in its slot, and no other is
  pub runner_there : fork_in tree.forks who.fork.tty who.slot ≡ Some runner
  runner_there = in_found tree.forks r.trees.slotted who.fork.tty who.slot r.fork r.there ∙ ap Some runner_is

  pub runner_only : (f : Fork) → fork_in tree.forks who.fork.tty who.slot ≡ Some f → runner ≡ f
  runner_only f found = let both : Some runner ≡ Some f = sym runner_there ∙ found in cc both

  -- it runs, and is not frozen
  pub runner_runs : (runner.body.status ≡ Run) × (is_frozen MOST_FORKS tree.forks (Some runner) ≡ false)
  runner_runs =
      can_runs tree.forks runner (runs_named tree.forks runner runner_lives r.runs)
