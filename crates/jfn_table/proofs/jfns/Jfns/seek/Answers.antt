use Rattle.std.proofs.Common.{◌≡◌, Some, sym, ◌∙◌, refl, subst}
use Rattle.std.specs.Option.{IsSomeAnd}
use Rattle.std.specs.Prelude.{IsSome, ◌≤◌}
use Rattle.std.specs.FinMap as map
use Rattle.plain_files.specs.declared.jfn.Jfn.{Jfn}
use Rattle.plain_files.specs.Bytes.{most_bytes}
use Rattle.jfn_table.proofs.Changes.{counts_replaced, held_number, jfns_put}
use Rattle.jfn_table.proofs.jfns.Jfns.seek.Goals as goal

pub invariant_of-self : goal.invariant_of-self
invariant_of-self c =
    let held = c.self.inside.held in
    let there : map.get held c.args.n ≡ Some c.in-Some.jfn = sym c.get.ensures.found ∙ c.in-Some.is in
    let number = held_number held c.args.n c.in-Some.jfn c.self.invariant.0 there in
    let can : IsSome c.in-Some.jfn.mode × (c.args.at ≤ most_bytes c.in-Some.jfn.size) =
    subst (λ o. IsSomeAnd o (λ jfn. IsSome jfn.mode × (c.args.at ≤ most_bytes jfn.size))) there
    (subst (λ m. IsSomeAnd (map.get m c.args.n) (λ jfn. IsSome jfn.mode × (c.args.at ≤ most_bytes jfn.size))) (sym c.self.view_is) c.requires) in
    let new : Jfn = record c.in-Some.jfn { at = c.args.at } in
    rw c.insert.ensures.put (
      jfns_put held c.args.n new c.self.invariant.0 number.0 number.1 (number.2.0, number.2.1, can.1),
      counts_replaced held c.args.n c.self.inside.names.items c.self.invariant.1 c.in-Some.jfn new there refl,
    )
