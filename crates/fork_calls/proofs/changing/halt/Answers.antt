use Rattle.std.proofs.Common.{refl, sym, ◌∙◌, ap, subst}
use Rattle.std.specs.Prelude.{IsSome}
use Rattle.std.specs.Option.{option_map_or}
use Rattle.std.specs.FinMap as map
use Rattle.plain_model.specs.Forks.{OthersStay}
use Rattle.plain_model.specs.Trees.{PlainTree, end_told}
use Rattle.fork_tree.proofs.Leaves.{inferior_lives}
use Rattle.job_forks.specs.Holding.{ComeFrom, SamePlaces, parts}
use Rattle.fork_calls.proofs.Halting.{halt_changes, halt_is, halt_keeps, halt_others}
use Rattle.fork_calls.proofs.changing.halt.Goals as goal

pub set_halted-requires : goal.set_halted-requires
set_halted-requires c =
    let f = inferior_lives c.args.tree.now c.are_trees.ensures c.args.who c.args.name c.requires in
    subst IsSome (sym f.1) refl

pub returns : goal.returns
returns c =
    let tree = c.args.tree.now in
    let own = c.are_trees.ensures.slotted.own in
    let name = c.args.name in
    let f = inferior_lives tree c.are_trees.ensures c.args.who name c.requires in
    let is = halt_is tree own name f.0 f.1 c.tell_end.new.self
    (c.tell_end.ensures ∙ ap (λ (t : PlainTree). record t { forks = option_map_or (end_told t.forks) (map.get t.forks name) t.forks }) c.set_halted.ensures) in
    let keep = halt_keeps tree own name f.0 f.1 in
    record {
      told = λ p. ap (λ (t : PlainTree). parts t p) is ∙ halt_changes tree own name f.0 f.1 p;
      same = subst (λ (t : PlainTree). SamePlaces tree.forks t.forks) (sym is) keep.same;
      kept = subst (λ (t : PlainTree). ComeFrom tree.forks t.forks) (sym is) keep.come;
      others = subst (λ (t : PlainTree). OthersStay name.tty tree.forks t.forks) (sym is) (halt_others tree own name f.0 f.1);
      trees = c.are_trees-2.ensures;
    }
