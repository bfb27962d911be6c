use Rattle.std.proofs.Common.{sym, ◌∙◌, ap, arith, None}
use Rattle.std.specs.FinMap as map
use Rattle.std.proofs.lemmas.List.{get_or_read}
use Rattle.number_map.proofs.Places.{get_held, held_beyond}
use Rattle.number_map.proofs.number_map.NumberMap.get.Goals as goal

pub returns-then-n-clause-found : goal.returns-then-n-clause-found
returns-then-n-clause-found g c =
    let places = c.self.inside.places.items in
    get_or_read places c.args.n c.index.result.now (omega arith) c.index.ensures None
    ∙ (sym (get_held places c.args.n) ∙ ap (λ m. map.get m c.args.n) c.self.view_is)

pub returns-then-n-clause-bounded : goal.returns-then-n-clause-bounded
returns-then-n-clause-bounded g c = λ k far.
    ap (λ m. map.get m k) (sym c.self.view_is) ∙ held_beyond c.self.inside.places.items k (omega arith)

pub returns-else-n-clause-found : goal.returns-else-n-clause-found
returns-else-n-clause-found g c =
    sym (ap (λ m. map.get m c.args.n) (sym c.self.view_is) ∙ held_beyond c.self.inside.places.items c.args.n (omega arith))

pub returns-else-n-clause-bounded : goal.returns-else-n-clause-bounded
returns-else-n-clause-bounded g c = λ k far.
    ap (λ m. map.get m k) (sym c.self.view_is) ∙ held_beyond c.self.inside.places.items k (omega arith)
