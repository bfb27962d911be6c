use Rattle.std.proofs.Common.{◌≡◌, sym, ◌∙◌, ap, subst}
use Rattle.std.proofs.Props.{props}
use Rattle.page_contracts.specs.declared.store.Completed.TheVariants.{Done, Nothing}
use Rattle.paged_tables.specs.declared.paged_tables.PagedTables.{PagedTables}
use Rattle.paged_tables.specs.PagedTables.{AreKept, beside_of}
use Rattle.paged_tables.proofs.AskedOfStore.{stays_same}
use Rattle.known_slots.specs.KnownNow.{AreKnown}
use Rattle.known_slots.proofs.Completing.{completed_within}
use Rattle.known_slots.proofs.pages.KnownSlotsPages.complete.Goals as goal

pub returns-in-Done-clause-ends : goal.returns-in-Done-clause-ends
returns-in-Done-clause-ends g c =
    completed_within g.S.Store.means (λ p. p.pages.store) _ _ _ _ c.complete-completed.result c.args.self.now _ c.args.drum.now c.complete-completed.new.drum
    (λ none. absurd (let z : Done c.in-Done.field-0 ≡ Nothing = sym c.in-Done.is ∙ none in cc z)) c.complete-completed.ensures.ends

pub returns-in_default-clause-ends : goal.returns-in_default-clause-ends
returns-in_default-clause-ends g c =
    let s = c.args.self.now in
    let old = s.pages in
    let new = c.complete-completed.new.self in
    let homes = g.S.Store.means.homes in
    let one_kept : IsProp (AreKept (beside_of old.tables) (homes old.store)) = hlevel props in
    let one_known : IsProp (AreKnown (beside_of old.tables) (homes old.store) s.walks) = hlevel props in
    completed_within g.S.Store.means (λ p. p.pages.store) _ _ _ _ c.complete-completed.result s _ c.args.drum.now c.complete-completed.new.drum
    (λ none store. (let same : new ≡ old = subst
    (λ (z : g.row.S.Denot × PagedTables). (k : AreKept (beside_of z.1) (homes z.0)) → ◌≡◌ {A = _} (record { store = z.0; tables = z.1; kept = k }) old)
    (sym (λ i. (store i, c.complete-completed.ensures.tables i))) (λ k. λ i. record { store = old.store; tables = old.tables; kept = one_kept k old.kept i }) new.kept in
    subst
    (λ x. (k : AreKnown (beside_of x.tables) (homes x.store) s.walks) → ◌≡◌ {A = _} (record { pages = x; walks = s.walks; known = k }) s)
    (sym same) (λ k. λ i. record { pages = old; walks = s.walks; known = one_known k s.known i }) _))
    c.complete-completed.ensures.ends

pub returns-in_default-clause-failed : goal.returns-in_default-clause-failed
returns-in_default-clause-failed g c fault =
    let there = (c.complete-completed.ensures.ends.failed fault).there in
    stays_same g.S.Store.means (λ p. p.pages.store) (λ p. beside_of p.pages.tables) c.args.self.now _ (ap beside_of c.complete-completed.ensures.tables) there.homes there.framed.spare there.framed.found
