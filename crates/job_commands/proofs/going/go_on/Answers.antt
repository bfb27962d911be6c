use Rattle.std.proofs.Common.{sym, subst}
use Rattle.plain_model.specs.Commands.{resumed}
use Rattle.plain_model.specs.Forks.{OthersStay}
use Rattle.plain_model.specs.Trees.{PlainTree}
use Rattle.plain_model.proofs.OtherJobs.{named_others}
use Rattle.job_commands.proofs.going.go_on.Goals as goal

pub returns-clause-others : goal.returns-clause-others
returns-clause-others c =
    let top = c.args.top in
    let tree = c.args.tree.now in
    subst (λ (t : PlainTree). OthersStay top.tty tree.forks t.forks) (sym c.resume.ensures) (named_others tree c.are_trees.ensures.slotted.own top resumed)
