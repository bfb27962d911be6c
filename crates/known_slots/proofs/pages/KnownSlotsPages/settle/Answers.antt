use Rattle.std.proofs.Common.{◌≡◌, inl, inr, ◌∙◌, None, Some, sym, subst}
use Rattle.slot_paged.specs.declared.slot_paged.SlotPaged.{SlotPaged}
use Rattle.paged_tables.specs.KnownPages.{known_over}
use Rattle.paged_tables.specs.PagedTables.{beside_of}
use Rattle.paged_tables.specs.PagedTouches.{touched_over}
use Rattle.paged_tables.specs.PlacesSettled.{SettlesPlace}
use Rattle.known_slots.proofs.PagesSettled.{page_settled}
use Rattle.known_slots.proofs.pages.KnownSlotsPages.settle.Goals as goal

pub invariant_of-self : goal.invariant_of-self
invariant_of-self g c =
    let mid = c.forget_unless_ready.new.self in
    let forgot = c.forget_unless_ready.ensures in
    let store = g.S.Store.means in
    record {
      known = λ space page k below is. elim forgot.known [
        | inl ready ↦ (let still = c.settle.ensures.still ((λ i. touched_over (beside_of (forgot.pages i).tables) (store.homes (forgot.pages i).store) (store.spare (forgot.pages i).store) c.args.at c.args.kind) ∙ ready) in
            (λ i. known_over (still.0 i) (still.1 i) (record { 0 = space }) page) ∙ mid.known space page k below is)
        | inr none ↦ absurd (let z : None ≡ Some k = sym (none space page) ∙ is in cc z)
      ];
    }

pub returns : goal.returns
returns g c =
    let s = c.args.self.now in
    let store = g.S.Store.means in
    let new = c.settle.new.self in
    let settles = subst (λ (p : SlotPaged g.row.S.Denot g.S.Store). SettlesPlace store p.store new.store (beside_of p.tables) (beside_of new.tables) c.args.at c.args.kind c.args.owner) c.forget_unless_ready.ensures.pages c.settle.ensures in
    page_settled store (λ p. p.pages.store) (λ p. beside_of p.pages.tables) s _ s.pages.kept new.kept g.met.S.Store.sound c.args.at c.args.kind c.args.owner c.requires.place settles
