use Rattle.std.proofs.Common.{◌≡◌, ◌∙◌, sym, ap, subst, inl, refl, Some}
use Rattle.std.specs.Prelude.{IsSome}
use Rattle.std.specs.Option.{option_map}
use Rattle.std.specs.FinMap as map
use Rattle.machine_names.specs.declared.names.ForkName.{ForkName}
use Rattle.plain_model.specs.Trees.{changed, with_body}
use Rattle.fork_tree.specs.Changes.{body_in}
use Rattle.fork_tree.proofs.Slots.{held_lives, in_found}
use Rattle.fork_tree.proofs.tree.Tree.body_mut.Goals as goal

pub body_at-requires : goal.body_at-requires
body_at-requires c =
    let m = c.args.self.now.forks in
    let s = c.in-Some.ensures.tree.slotted in
    let f = c.in-Some.fork.now in
    let e : map.get m c.args.name ≡ Some f = sym c.in-Some.ensures.found in
    let there = in_found m s c.args.name.tty f.slot f (held_lives m s c.args.name f e, ap (λ (n : ForkName). n.tty.0) (s.own c.args.name f e), refl) in
    subst IsSome (sym there) refl

pub returns-in-Some : goal.returns-in-Some
returns-in-Some c =
    let m = c.args.self.now.forks in
    let s = c.in-Some.ensures.tree.slotted in
    let f = c.in-Some.fork.now in
    let e : map.get m c.args.name ≡ Some f = sym c.in-Some.ensures.found in
    let there = in_found m s c.args.name.tty f.slot f (held_lives m s c.args.name f e, ap (λ (n : ForkName). n.tty.0) (s.own c.args.name f e), refl) in (
      ap (λ o. inl (c.body_at.result.ghost_name, λ b. record c.args.self.now { forks = changed m (with_body b) o })) (there ∙ sym e),
      record { writes_back = tt; body = ap Some (c.body_at.ensures.body ∙ ap body_in there) ∙ ap (option_map (λ k. k.body)) (sym e) },
    )
