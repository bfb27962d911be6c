use Rattle.std.proofs.Common.{◌+◌, ◌<◌, sym, ◌∙◌, refl, ap, subst, arith, lit≤}
use Rattle.std.specs.FinMap as map
use Rattle.number_map.specs.Numbers.{AreTaken, IsLeastFree}
use Rattle.number_map.proofs.Full.{len_full, len_free}
use Rattle.plain_files.specs.declared.bounds.TheConstants.{MOST_JFNS}
use Rattle.plain_files.specs.JobFiles.{taken}
use Rattle.jfn_table.proofs.Changes.{count_at, counts_put, jfns_put, names_most, within}
use Rattle.jfn_table.proofs.jfns.Jfns.take.Goals as goal

pub returns-in_default : goal.returns-in_default
returns-in_default c =
    let held = c.self.inside.held in
    let least : AreTaken held 1 (1 + MOST_JFNS) = c.in_default.ensures.least in
    (ap map.len (sym c.self.view_is) ∙ len_full held 1 MOST_JFNS (within held c.self.invariant.0) least, refl)

pub overflow_add-index_mut : goal.overflow_add-index_mut
overflow_add-index_mut c =
    let inside = c.self.inside in
    omega (
      arith,
      names_most inside.held c.args.f.0 c.self.invariant.0,
      count_at inside.names.items inside.held c.args.f.0 c.index_mut.result.now c.self.invariant.1 c.requires c.index_mut.ensures.value,
    )

pub invariant_of-self : goal.invariant_of-self
invariant_of-self c =
    let inside = c.self.inside in
    let least = c.in-Some.ensures.least in
    let count = count_at inside.names.items inside.held c.args.f.0 c.index_mut.result.now c.self.invariant.1 c.requires c.index_mut.ensures.value in
    rw c.insert.ensures.put (
      jfns_put inside.held c.in-Some.n (taken c.args.f.0) c.self.invariant.0 least.1.after (omega (arith, least.0)) (c.requires, (lit≤ tt, lit≤ tt), omega arith),
      counts_put inside.held c.in-Some.n inside.names.items c.self.invariant.1 (taken c.args.f.0) c.index_mut.result.now least.1.free c.requires count,
    )

pub returns : goal.returns
returns c =
    let held = c.self.inside.held in
    let least = c.in-Some.ensures.least in
    record {
      room = subst (λ m. map.len m < MOST_JFNS) c.self.view_is
          (len_free held 1 MOST_JFNS c.in-Some.n (taken c.args.f.0) (within held c.self.invariant.0) least.1.after (omega (arith, least.0)) least.1.free);
      least = subst (λ m. IsLeastFree m 1 c.in-Some.n) c.self.view_is least.1;
      most = omega (arith, least.0);
      put = c.insert.ensures.put ∙ ap (λ m. map.insert m c.in-Some.n (taken c.args.f.0)) c.self.view_is;
    }
