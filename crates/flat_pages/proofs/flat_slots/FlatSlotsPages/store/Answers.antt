use Rattle.std.proofs.Common.{◌∙◌, List, sym, ap, subst, refl}
use Rattle.machine_names.specs.declared.names.Place.TheVariants.{Fork}
use Rattle.page_contracts.specs.Stores.{HomePlace, place, with_word_in, FitsHomes}
use Rattle.flat_tables.specs.SlotTables.{plain_of, AreTables}
use Rattle.page_contracts.specs.Stores.{away_at}
use Rattle.flat_tables.specs.TableSteps.{tables_of}
use Rattle.flat_pages.proofs.Settling.{sized_of}
use Rattle.std.proofs.Common.{◌/◌, ◌%◌}
use Rattle.flat_tables.specs.SlotTables.{AreSized}
use Rattle.flat_pages.proofs.Settling.{fits_set}
use Rattle.flat_pages.proofs.Telling.{tables_told}
use Rattle.flat_pages.proofs.FoundPages.{stands}
use Rattle.flat_pages.proofs.Putting.{replaced, put_away, put_tables, stored_at}
use Rattle.page_contracts.proofs.Losing.{loses_used}
use Rattle.flat_pages.proofs.HandedOn.{stays_through, used_within}
use Rattle.flat_pages.proofs.flat_slots.FlatSlotsPages.store.Goals as goal

pub invariant_of-self : goal.invariant_of-self
invariant_of-self g c =
    let s = c.args.self.now in
    let t = tables_of (g.S.Store.means.homes s.store) s.tables in
    let x = stands g.S.Store.means (λ p. p.store) (λ p. p.tables) s s.agree (g.met.S.Store.sound s.store) c.args.space c.args.address c.args.found c.requires.place c.requires.space.fork c.requires.space.is in
    let agree = subst (λ (places : List HomePlace). AreTables (replaced t places)) (sym (c.store.ensures.homes x.home.0 x.spots)) (put_tables t s.agree x.home.0 x.words x.holds (c.args.address % 512) c.args.word) in
    record { agree = agree; told = tables_told (tables_of (g.S.Store.means.homes c.store.new.self) s.tables) agree (g.met.S.Store.sound c.store.new.self).pages }

pub returns-clause-told : goal.returns-clause-told
returns-clause-told g c d f fits is =
    let s = c.args.self.now in
    let t = tables_of (g.S.Store.means.homes s.store) s.tables in
    let homes' = g.S.Store.means.homes c.store.new.self in
    let page = c.args.address / 512 in
    let offset = c.args.address % 512 in
    let x = stands g.S.Store.means (λ p. p.store) (λ p. p.tables) s s.agree (g.met.S.Store.sound s.store) c.args.space c.args.address c.args.found c.requires.place f is in
    let h = x.home in
    let same = c.store.ensures.homes h.0 x.spots in
    let fits' = subst (λ (places : List HomePlace). FitsHomes places d) (sym same) (fits_set t.places d h.0 (with_word_in (place t.places h.0) offset c.args.word) fits) in
    let sized' = subst (λ (places : List HomePlace). AreSized places d) same (sized_of homes' d fits' (g.met.S.Store.sound c.store.new.self).pages) in
    (fits', ap (λ places. plain_of (replaced t places) d) same ∙ stored_at t s.agree (Fork (record { fork = f; page = page })) h x.reached x.words x.holds offset c.args.word d (sized_of t.places d fits (g.met.S.Store.sound s.store).pages) sized')

pub returns-clause-stays : goal.returns-clause-stays
returns-clause-stays g c =
    let s = c.args.self.now in
    let t = tables_of (g.S.Store.means.homes s.store) s.tables in
    let x = stands g.S.Store.means (λ p. p.store) (λ p. p.tables) s s.agree (g.met.S.Store.sound s.store) c.args.space c.args.address c.args.found c.requires.place c.requires.space.fork c.requires.space.is in
    let absent = ap away_at (c.store.ensures.homes x.home.0 x.spots) ∙ put_away t s.agree x.home.0 x.words x.holds (c.args.address % 512) c.args.word in
    let used = c.store.ensures.used x.home.0 x.spots in
    stays_through g.S.Store.means (λ p. p.store) (λ p. p.tables) s _ refl absent used.framed.spare used.framed.found

pub returns-clause-loses : goal.returns-clause-loses
returns-clause-loses g c =
    let s = c.args.self.now in
    let t = tables_of (g.S.Store.means.homes s.store) s.tables in
    let x = stands g.S.Store.means (λ p. p.store) (λ p. p.tables) s s.agree (g.met.S.Store.sound s.store) c.args.space c.args.address c.args.found c.requires.place c.requires.space.fork c.requires.space.is in
    loses_used g.S.Store.means s.store c.store.new.self x.home.0 (c.store.ensures.used x.home.0 x.spots)

pub returns-clause-uses : goal.returns-clause-uses
returns-clause-uses g c home is = used_within g.S.Store.means (λ p. p.store) home c.args.self.now _ (c.store.ensures.used home is)
