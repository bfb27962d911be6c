use Rattle.std.proofs.Common.{refl, sym, subst}
use Rattle.std.specs.Prelude.{IsSome}
use Rattle.plain_model.specs.Forks.{OthersStay}
use Rattle.plain_model.specs.Trees.{PlainTree, with_mark}
use Rattle.plain_model.proofs.OtherJobs.{named_others}
use Rattle.fork_tree.proofs.Leaves.{inferior_lives}
use Rattle.job_forks.specs.Holding.{ComeFrom, SamePlaces}
use Rattle.job_forks.proofs.Bodies.{mark_changes, mark_keeps}
use Rattle.fork_calls.proofs.changing.set_mark.Goals as goal

pub freeze-requires : goal.freeze-requires
freeze-requires c = let f = inferior_lives c.args.tree.now c.are_trees.ensures c.args.who c.args.name c.requires in subst IsSome (sym f.1) refl

pub returns : goal.returns
returns c =
    let tree = c.args.tree.now in
    let own = c.are_trees.ensures.slotted.own in
    let keep = mark_keeps tree own c.args.name c.args.on in
    record {
      told = mark_changes tree own c.args.name c.args.on c.freeze.new.self c.freeze.ensures;
      same = subst (λ (t : PlainTree). SamePlaces tree.forks t.forks) (sym c.freeze.ensures) keep.same;
      kept = subst (λ (t : PlainTree). ComeFrom tree.forks t.forks) (sym c.freeze.ensures) keep.come;
      others = subst (λ (t : PlainTree). OthersStay c.args.name.tty tree.forks t.forks) (sym c.freeze.ensures) (named_others tree own c.args.name (with_mark c.args.on));
      trees = c.are_trees-2.ensures;
    }
