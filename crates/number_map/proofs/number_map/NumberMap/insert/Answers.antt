use Rattle.std.proofs.Common.{sym, ◌∙◌, ap, arith, None}
use Rattle.std.specs.FinMap as map
use Rattle.std.proofs.lemmas.List.{get_or_read}
use Rattle.number_map.proofs.Kept.{kept_put}
use Rattle.number_map.proofs.Places.{get_held, held_put}
use Rattle.number_map.proofs.number_map.NumberMap.insert.Goals as goal

pub invariant_of-self : goal.invariant_of-self
invariant_of-self g c =
    rw (c.replace.ensures.after, c.insert.ensures) (kept_put c.self.inside.places.items c.self.inside.taken g.row.N c.args.n c.args.value c.self.invariant c.requires)

pub returns-clause-put : goal.returns-clause-put
returns-clause-put g c =
    rw c.replace.ensures.after (held_put c.self.inside.places.items c.args.n c.args.value (omega arith) ∙ ap (λ m. map.insert m c.args.n c.args.value) c.self.view_is)

pub returns-clause-replaced : goal.returns-clause-replaced
returns-clause-replaced g c =
    c.replace.ensures.value ∙ get_or_read c.self.inside.places.items c.args.n c.index_mut.result.now (omega arith) c.index_mut.ensures.value None
    ∙ (sym (get_held c.self.inside.places.items c.args.n) ∙ ap (λ m. map.get m c.args.n) c.self.view_is)
