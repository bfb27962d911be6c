use Rattle.std.proofs.Common.{◌≡◌, Some, sym, ◌∙◌, arith}
use Rattle.std.specs.FinMap as map
use Rattle.jfn_table.proofs.Changes.{count_at, counts_gone, held_number, jfns_gone, names_gone_some}
use Rattle.jfn_table.proofs.jfns.Jfns.release.Goals as goal

pub overflow_sub-index_mut : goal.overflow_sub-index_mut
overflow_sub-index_mut c =
    let inside = c.self.inside in
    let there : map.get inside.held c.args.n ≡ Some c.in-Some.jfn = sym c.remove.ensures.taken ∙ c.in-Some.is in
    let number = held_number inside.held c.args.n c.in-Some.jfn c.self.invariant.0 there in
    omega (
      arith,
      names_gone_some inside.held c.args.n c.in-Some.jfn there,
      count_at inside.names.items inside.held c.in-Some.jfn.file.0 c.index_mut.result.now c.self.invariant.1 number.2.0 c.index_mut.ensures.value,
    )

pub invariant_of-self : goal.invariant_of-self
invariant_of-self c =
    let inside = c.self.inside in
    let there : map.get inside.held c.args.n ≡ Some c.in-Some.jfn = sym c.remove.ensures.taken ∙ c.in-Some.is in
    let number = held_number inside.held c.args.n c.in-Some.jfn c.self.invariant.0 there in
    let count = count_at inside.names.items inside.held c.in-Some.jfn.file.0 c.index_mut.result.now c.self.invariant.1 number.2.0 c.index_mut.ensures.value in
    rw c.remove.ensures.gone (
      jfns_gone inside.held c.args.n c.self.invariant.0,
      counts_gone inside.held c.args.n inside.names.items c.self.invariant.1 c.in-Some.jfn c.index_mut.result.now there number.2.0 count,
    )
