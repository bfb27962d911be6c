use Rattle.std.proofs.Common.{◌≡◌, sym, subst, ap}
use Rattle.std.proofs.Props.{props}
use Rattle.flat_pages.specs.SlotMeaning.{AreTold}
use Rattle.flat_tables.specs.SlotTables.{AreTables}
use Rattle.flat_tables.specs.TableSteps.{tables_of}
use Rattle.flat_pages.proofs.HandedOn.{completes_within}
use Rattle.flat_pages.proofs.Putting.{moved_tables}
use Rattle.flat_pages.proofs.Telling.{tables_told}
use Rattle.flat_pages.proofs.HandedOn.{stays_same}
use Rattle.flat_pages.proofs.flat_slots.FlatSlotsPages.complete.Goals as goal

pub invariant_of-self : goal.invariant_of-self
invariant_of-self g c =
    let s = c.args.self.now in
    let t = tables_of (g.S.Store.means.homes s.store) s.tables in
    let agree = moved_tables t s.agree (g.S.Store.means.homes c.complete.new.self) c.complete.ensures.taken in
    record { agree = agree; told = tables_told (tables_of (g.S.Store.means.homes c.complete.new.self) s.tables) agree (g.met.S.Store.sound c.complete.new.self).pages }

pub returns-clause-ends : goal.returns-clause-ends
returns-clause-ends g c =
    let s = c.args.self.now in
    let one_agree : IsProp (AreTables (tables_of (g.S.Store.means.homes s.store) s.tables)) = hlevel props in
    let one_told : IsProp (AreTold (tables_of (g.S.Store.means.homes s.store) s.tables)) = hlevel props in
    completes_within g.S.Store.means (λ p. p.store) _ _ _ _ c.complete.result s _ c.args.drum.now c.complete.new.drum
    (λ e. subst
    (λ x. (a : AreTables (tables_of (g.S.Store.means.homes x) s.tables)) (t : AreTold (tables_of (g.S.Store.means.homes x) s.tables)) → ◌≡◌ {A = _} (record { store = x; tables = s.tables; agree = a; told = t }) s)
    (sym e) (λ a t. λ i. record { store = s.store; tables = s.tables; agree = one_agree a s.agree i; told = one_told t s.told i }) _ _)
    c.complete.ensures.ends

pub returns-clause-failed : goal.returns-clause-failed
returns-clause-failed g c is =
    let s = c.args.self.now in
    let there = (c.complete.ensures.ends.failed is).there in
    stays_same g.S.Store.means (λ p. p.store) (λ p. tables_of (g.S.Store.means.homes p.store) p.tables) s _ (ap (λ places. tables_of places s.tables) there.homes) there.framed.spare there.framed.found
