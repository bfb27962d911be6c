use Rattle.std.proofs.Common.{◌≡◌, Some, sym, ◌∙◌, refl, arith}
use Rattle.std.specs.FinMap as map
use Rattle.plain_files.specs.declared.jfn.Jfn.{Jfn}
use Rattle.jfn_table.proofs.Changes.{counts_replaced, held_number, jfns_put}
use Rattle.jfn_table.proofs.jfns.Jfns.open_file.Goals as goal

pub invariant_of-self : goal.invariant_of-self
invariant_of-self c =
    let held = c.self.inside.held in
    let there : map.get held c.args.n ≡ Some c.in-Some.jfn = sym c.get.ensures.found ∙ c.in-Some.is in
    let number = held_number held c.args.n c.in-Some.jfn c.self.invariant.0 there in
    let new : Jfn = record { file = c.in-Some.jfn.file; mode = Some c.args.mode; at = 0; size = c.args.size } in
    rw c.insert.ensures.put (
      jfns_put held c.args.n new c.self.invariant.0 number.0 number.1 (number.2.0, c.requires.size, omega arith),
      counts_replaced held c.args.n c.self.inside.names.items c.self.invariant.1 c.in-Some.jfn new there refl,
    )
