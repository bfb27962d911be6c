use Rattle.std.proofs.Common.{◌∙◌, List, sym, ap, subst, refl}
use Rattle.page_contracts.specs.Stores.{HomePlace, place, with_word_in, FitsHomes}
use Rattle.machine_names.specs.declared.names.Kind.TheVariants.{Write}
use Rattle.flat_tables.specs.SlotTables.{plain_of, AreTables}
use Rattle.page_contracts.specs.Stores.{away_at}
use Rattle.flat_tables.specs.TableSteps.{tables_of}
use Rattle.flat_pages.proofs.Settling.{sized_of}
use Rattle.flat_pages.proofs.Settling.{fits_set}
use Rattle.flat_pages.proofs.Telling.{tables_told}
use Rattle.flat_pages.proofs.Meeting.{reached, reached_taken, ready_words}
use Rattle.flat_pages.proofs.HandedOn.{stays_through}
use Rattle.flat_pages.proofs.Putting.{replaced, put_away, put_tables, stored_at}
use Rattle.flat_tables.specs.SlotTables.{AreSized}
use Rattle.page_contracts.proofs.Losing.{loses_used}
use Rattle.flat_pages.proofs.Using.{place_used}
use Rattle.flat_pages.proofs.flat_slots.FlatSlotsPages.put.Goals as goal

pub put-is_put-requires-clause-taken : goal.put-is_put-requires-clause-taken
put-is_put-requires-clause-taken g c =
    let s = c.args.self.now in
    let t = tables_of (g.S.Store.means.homes s.store) s.tables in
    reached_taken t s.agree c.args.at c.in-Some.home (reached t s.agree c.args.at c.in-Some.home c.requires.place c.in-Some.ensures)

pub invariant_of-self : goal.invariant_of-self
invariant_of-self g c =
    let s = c.args.self.now in
    let t = tables_of (g.S.Store.means.homes s.store) s.tables in
    let r = reached t s.agree c.args.at c.in-Some.home c.requires.place c.in-Some.ensures in
    let x = ready_words t s.agree c.args.at c.in-Some.home r (g.S.Store.means.spare s.store) Write c.requires.ready in
    let agree = subst (λ (places : List HomePlace). AreTables (replaced t places)) (sym c.put-is_put.ensures.homes) (put_tables t s.agree c.in-Some.home.0 x.0 x.1 c.args.offset c.args.word) in
    record { agree = agree; told = tables_told (tables_of (g.S.Store.means.homes c.put-is_put.new.self) s.tables) agree (g.met.S.Store.sound c.put-is_put.new.self).pages }

pub returns-in-Some-clause-told : goal.returns-in-Some-clause-told
returns-in-Some-clause-told g c d fits =
    let s = c.args.self.now in
    let t = tables_of (g.S.Store.means.homes s.store) s.tables in
    let homes' = g.S.Store.means.homes c.put-is_put.new.self in
    let h = c.in-Some.home in
    let r = reached t s.agree c.args.at h c.requires.place c.in-Some.ensures in
    let x = ready_words t s.agree c.args.at h r (g.S.Store.means.spare s.store) Write c.requires.ready in
    let same = c.put-is_put.ensures.homes in
    let fits' = subst (λ (places : List HomePlace). FitsHomes places d) (sym same) (fits_set t.places d h.0 (with_word_in (place t.places h.0) c.args.offset c.args.word) fits) in
    let sized' = subst (λ (places : List HomePlace). AreSized places d) same (sized_of homes' d fits' (g.met.S.Store.sound c.put-is_put.new.self).pages) in
    (fits', ap (λ places. plain_of (replaced t places) d) same ∙ stored_at t s.agree c.args.at h r x.0 x.1 c.args.offset c.args.word d (sized_of t.places d fits (g.met.S.Store.sound s.store).pages) sized')

pub returns-in-Some-clause-stays : goal.returns-in-Some-clause-stays
returns-in-Some-clause-stays g c =
    let s = c.args.self.now in
    let t = tables_of (g.S.Store.means.homes s.store) s.tables in
    let h = c.in-Some.home in
    let r = reached t s.agree c.args.at h c.requires.place c.in-Some.ensures in
    let x = ready_words t s.agree c.args.at h r (g.S.Store.means.spare s.store) Write c.requires.ready in
    let absent = ap away_at c.put-is_put.ensures.homes ∙ put_away t s.agree h.0 x.0 x.1 c.args.offset c.args.word in
    let framed = c.put-is_put.ensures.used.framed in
    stays_through g.S.Store.means (λ p. p.store) (λ p. p.tables) s _ refl absent framed.spare framed.found

pub returns-in-Some-clause-loses : goal.returns-in-Some-clause-loses
returns-in-Some-clause-loses g c = loses_used g.S.Store.means c.args.self.now.store c.put-is_put.new.self c.in-Some.home.0 c.put-is_put.ensures.used

pub returns-in-Some-clause-uses : goal.returns-in-Some-clause-uses
returns-in-Some-clause-uses g c home stands =
    let s = c.args.self.now in
    place_used g.S.Store.means (λ p. p.store) (λ p. tables_of (g.S.Store.means.homes p.store) p.tables) s s.agree c.args.at home c.in-Some.home stands (sym c.in-Some.ensures) _ (g.met.S.Store.sound s.store) c.put-is_put.ensures.used
