use Rattle.std.proofs.Common.{sym, subst}
use Rattle.plain_model.specs.Forks.{OthersStay}
use Rattle.plain_model.specs.Trees.{PlainTree, with_body}
use Rattle.plain_model.proofs.OtherJobs.{named_others}
use Rattle.job_forks.specs.Holding.{ComeFrom, SamePlaces}
use Rattle.job_forks.proofs.Bodies.{body_changes, body_keeps}
use Rattle.fork_calls.proofs.changing.set_body.Goals as goal

pub returns : goal.returns
returns c =
    let tree = c.args.tree.now in
    let own = c.are_trees.ensures.slotted.own in
    let keep = body_keeps tree own c.args.name c.args.body c.requires in
    record {
      told = body_changes tree own c.args.name c.args.body c.set_body.new.self c.set_body.ensures;
      same = subst (λ (t : PlainTree). SamePlaces tree.forks t.forks) (sym c.set_body.ensures) keep.same;
      kept = subst (λ (t : PlainTree). ComeFrom tree.forks t.forks) (sym c.set_body.ensures) keep.come;
      others = subst (λ (t : PlainTree). OthersStay c.args.name.tty tree.forks t.forks) (sym c.set_body.ensures) (named_others tree own c.args.name (with_body c.args.body));
      trees = c.are_trees-2.ensures;
    }
