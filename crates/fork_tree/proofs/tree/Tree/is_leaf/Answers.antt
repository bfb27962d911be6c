use Rattle.std.proofs.Common.{◌≡◌, ◌≤◌, sym, refl, subst, arith, true, inl, inr}
use Rattle.std.proofs.lemmas.Bool.{cases_lt}
use Rattle.plain_model.specs.Trees.{PlainTree}
use Rattle.fork_tree.specs.Trees.{IsTree, Lives}
use Rattle.fork_tree.proofs.Leaves.{nobodys_superior, nobody_below, slot_superior, superior_slot}
use Rattle.fork_tree.proofs.tree.Tree.is_leaf.Goals as goal

pub returns-then-is_superior_in : goal.returns-then-is_superior_in
returns-then-is_superior_in c =
    let is : IsTree c.args.self.now = subst IsTree c.self.view_is c.self.invariant.tree in
    let g = c.is_superior_in.ensures.0 c.if-is_superior_in.true in
    (λ e. absurd (cc e), λ leaf. absurd (nobodys_superior c.args.self.now is c.args.fork.now c.requires leaf g.0 g.1.0 (slot_superior c.args.self.now is c.args.fork.now g.0 c.requires g.1.1 g.2)))

pub returns-else-is_superior_in : goal.returns-else-is_superior_in
returns-else-is_superior_in c =
    let is : IsTree c.args.self.now = subst IsTree c.self.view_is c.self.invariant.tree in (
      λ e. nobody_below c.args.self.now is c.args.fork.now c.requires (λ g lives over.
          let s = superior_slot c.args.self.now is c.args.fork.now g c.requires over in
          elim (cases_lt g.slot c.loop-slot.slot) [
            | inl before ↦ c.loop-slot.invariant g lives s.0 before s.1
            | inr at ↦
                let most : g.slot ≤ c.last-slot-end.result = c.last-slot-end.ensures.above g (subst (λ (t : PlainTree). Lives t.forks g) (sym c.self.view_is) lives) s.0 in
                let here : g.slot ≡ c.loop-slot.slot = omega arith in
                let yes : c.is_superior_in.result ≡ true = c.is_superior_in.ensures.1 (g, (lives, s.0, here), s.1) in
                absurd (cc (yes, c.if-is_superior_in.false))
          ]),
      λ leaf. refl,
    )
