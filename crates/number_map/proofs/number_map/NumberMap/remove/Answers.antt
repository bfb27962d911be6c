use Rattle.std.proofs.Common.{sym, ◌∙◌, ap, arith, None}
use Rattle.std.specs.FinMap as map
use Rattle.std.proofs.lemmas.List.{get_or_read}
use Rattle.number_map.proofs.Kept.{kept_gone}
use Rattle.number_map.proofs.Places.{get_held, held_beyond, held_gone, gone_already}
use Rattle.number_map.proofs.number_map.NumberMap.remove.Goals as goal

pub invariant_of-self : goal.invariant_of-self
invariant_of-self g c =
    rw (c.take.ensures.after, c.remove.ensures) (kept_gone c.self.inside.places.items c.self.inside.taken g.row.N c.args.n c.self.invariant c.if-n.true)

pub returns-then-n-clause-gone : goal.returns-then-n-clause-gone
returns-then-n-clause-gone g c =
    rw c.take.ensures.after (held_gone c.self.inside.places.items c.args.n (omega arith) ∙ ap (λ m. map.remove m c.args.n) c.self.view_is)

pub returns-then-n-clause-taken : goal.returns-then-n-clause-taken
returns-then-n-clause-taken g c =
    c.take.ensures.value ∙ get_or_read c.self.inside.places.items c.args.n c.index_mut.result.now (omega arith) c.index_mut.ensures.value None
    ∙ (sym (get_held c.self.inside.places.items c.args.n) ∙ ap (λ m. map.get m c.args.n) c.self.view_is)

pub returns-else-n-clause-gone : goal.returns-else-n-clause-gone
returns-else-n-clause-gone g c =
    gone_already c.args.self.now c.args.n (ap (λ m. map.get m c.args.n) (sym c.self.view_is) ∙ held_beyond c.self.inside.places.items c.args.n (omega arith))

pub returns-else-n-clause-taken : goal.returns-else-n-clause-taken
returns-else-n-clause-taken g c =
    sym (ap (λ m. map.get m c.args.n) (sym c.self.view_is) ∙ held_beyond c.self.inside.places.items c.args.n (omega arith))
