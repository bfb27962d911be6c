use Rattle.std.proofs.Common.{◌∙◌, ap, sym}
use Rattle.std.specs.Prelude.{◌&&◌}
use Rattle.plain_model.specs.Forks.{runs_in}
use Rattle.fork_lists.proofs.Folds.{does_run}
use Rattle.fork_lists.proofs.lists.ForkLists.is_started.Goals as goal

pub returns-then-is_picked : goal.returns-then-is_picked
returns-then-is_picked c =
    does_run c.args.tree.now.forks c.args.name c.runnable.result c.runnable.ensures
    ∙ ap (λ b. b && runs_in c.args.tree.now.forks c.args.name) (sym c.if-is_picked.true ∙ c.is_picked.ensures)

pub returns-else-is_picked : goal.returns-else-is_picked
returns-else-is_picked c = c.if-is_picked.false ∙ ap (λ b. b && runs_in c.args.tree.now.forks c.args.name) (sym c.if-is_picked.false ∙ c.is_picked.ensures)
