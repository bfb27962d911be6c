use Rattle.std.proofs.Common.{◌≡◌, ◌<◌, ◌∙◌, sym, subst, refl, arith, true, false, inl, inr, Option, Some, None}
use Rattle.std.proofs.lemmas.Bool.{cases_lt}
use Rattle.std.specs.Prelude.{is_some}
use Rattle.std.specs.Option.{option_copied}
use Rattle.std.specs.Borrow.{Bor}
use Rattle.std.specs.FinMap as map
use Rattle.plain_model.specs.declared.fork.Fork.{Fork}
use Rattle.machine_names.specs.declared.names.ForkName.{ForkName}
use Rattle.machine_names.specs.declared.names.TheConstants.{TERMINALS}
use Rattle.fork_tree.specs.Trees.{IsTree}
use Rattle.fork_tree.proofs.Leaves.{inferior_over, leafless, none_below}
use Rattle.fork_tree.proofs.Slots.{held_lives}
use Rattle.fork_tree.proofs.tree.Tree.last_below.Goals as goal

pub returns-in-Some : goal.returns-in-Some
returns-in-Some c =
    let is : IsTree c.args.self.now = subst IsTree c.self.view_is c.self.invariant.tree in
    let here = c.in-Some.ensures in
    let f = c.in-Some.fork.now in
    record {
      fork = f;
      named = refl;
      leaf = here.1;
      last = λ g leaf. elim (cases_lt f.slot g.slot) [
        | inl above ↦ absurd (c.loop-below.invariant g.slot g (omega (arith, here.0.2, above)) (leaf.lives, (inferior_over c.args.self.now is c.args.who g leaf.lives leaf.below).2, refl) leaf)
        | inr upto ↦ upto
      ];
    }

pub returns : goal.returns
returns c =
    let is : IsTree c.args.self.now = subst IsTree c.self.view_is c.self.invariant.tree in
    leafless c.args.self.now is c.args.who (λ g tty leaf. c.loop-below.invariant g.slot g (omega (arith, is.slotted.first g leaf.lives)) (leaf.lives, tty, refl) leaf)

copied_some : (r : Option (Bor Fork)) → is_some r ≡ true → (f : Fork) × (option_copied r ≡ Some f)
copied_some None e = absurd (cc e)
copied_some (Some f) e = (f.now, refl)

copied_none : (r : Option (Bor Fork)) → is_some r ≡ false → option_copied r ≡ None
copied_none None e = refl
copied_none (Some f) e = absurd (cc e)

pub last-below-requires : goal.last-below-requires
last-below-requires c =
    let f = copied_some c.fork.result c.if-is_none.ensures in
    let there : map.get c.args.self.now.forks c.args.who ≡ Some f.0 = sym c.fork.ensures.found ∙ f.1 in
    let s = c.fork.ensures.tree.slotted in
    subst (λ (n : ForkName). n.tty.0 < TERMINALS) (s.own c.args.who f.0 there) (s.named f.0 (held_lives c.args.self.now.forks s c.args.who f.0 there)).0

pub returns-then-is_none : goal.returns-then-is_none
returns-then-is_none c = λ name. none_below c.args.self.now c.fork.ensures.tree c.args.who name (sym c.fork.ensures.found ∙ copied_none c.fork.result c.if-is_none.ensures)
