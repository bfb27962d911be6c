use Rattle.std.proofs.Common.{◌≡◌, ◌∙◌, ◌<◌, ◌/◌, ◌%◌, List, refl, sym, ap, subst, arith}
use Rattle.machine_names.specs.declared.names.Place.TheVariants.{Fork}
use Rattle.page_contracts.proofs.Losing.{loses_used}
use Rattle.page_contracts.specs.Pages.{spot_of}
use Rattle.page_contracts.specs.Stores.{HomePlace, place, with_word_in}
use Rattle.plain_pages.specs.References.{stored}
use Rattle.flat_pages.proofs.HandedOn.{used_within}
use Rattle.pager_walk.proofs.Looking.{ArePages}
use Rattle.paged_tables.specs.PagedTables.{AreKept, FitsPages, beside_of, plain_over}
use Rattle.paged_tables.proofs.Moved.{put_apart, put_kept, put_told}
use Rattle.paged_tables.proofs.Placed.{placed}
use Rattle.paged_tables.proofs.PutInto.{put_stays}
use Rattle.paged_tables.proofs.StillWalked.{knowns_same, put_roots}
use Rattle.paged_tables.specs.KnownPages.{known_over}
use Rattle.std.specs.Prelude.{slice_set}
use Rattle.slot_paged.proofs.slot_paged.SlotPaged.store.Goals as goal

pub invariant_of-self : goal.invariant_of-self
invariant_of-self g c =
    let s = c.args.self.now in
    let b = beside_of s.tables in
    let places = g.S.Store.means.homes s.store in
    let sound = g.met.S.Store.sound s.store in
    let below : c.args.address / 512 < 512 = omega (arith, c.requires.address) in
    let x = placed b places s.kept c.requires.space.fork c.args.space c.requires.space.is (c.args.address / 512) below (g.S.Store.means.found s.store) sound.finds c.args.found c.requires.place in
    let at = Fork (record { fork = c.requires.space.fork; page = c.args.address / 512 }) in
    record { kept = subst (λ (ps : List HomePlace). AreKept b ps) (sym (c.store.ensures.homes x.home.0 x.spots)) (put_kept b places s.kept sound.pages at x.there x.home x.is x.words x.holds (c.args.address % 512) c.args.word) }

pub returns-clause-told : goal.returns-clause-told
returns-clause-told g c d f fits is =
    let s = c.args.self.now in
    let b = beside_of s.tables in
    let places = g.S.Store.means.homes s.store in
    let sound = g.met.S.Store.sound s.store in
    let below : c.args.address / 512 < 512 = omega (arith, c.requires.address) in
    let x = placed b places s.kept f c.args.space is (c.args.address / 512) below (g.S.Store.means.found s.store) sound.finds c.args.found c.requires.place in
    let at = Fork (record { fork = f; page = c.args.address / 512 }) in
    let same = c.store.ensures.homes x.home.0 x.spots in
    let pages' = subst (λ (ps : List HomePlace). ArePages ps) same (g.met.S.Store.sound c.store.new.self).pages in
    subst (λ (ps : List HomePlace). FitsPages b ps d × (plain_over b ps d ≡ stored (plain_over b places d) (spot_of at) (c.args.address % 512) c.args.word)) (sym same)
    (put_told b places s.kept sound.pages at x.there x.home x.is x.words x.holds (c.args.address % 512) c.args.word d fits pages')

pub returns-clause-fits : goal.returns-clause-fits
returns-clause-fits g c d fits = (returns-clause-told g c d c.requires.space.fork fits c.requires.space.is).0

pub returns-clause-loses : goal.returns-clause-loses
returns-clause-loses g c =
    let s = c.args.self.now in
    let b = beside_of s.tables in
    let places = g.S.Store.means.homes s.store in
    let sound = g.met.S.Store.sound s.store in
    let below : c.args.address / 512 < 512 = omega (arith, c.requires.address) in
    let x = placed b places s.kept c.requires.space.fork c.args.space c.requires.space.is (c.args.address / 512) below (g.S.Store.means.found s.store) sound.finds c.args.found c.requires.place in
    loses_used g.S.Store.means s.store c.store.new.self x.home.0 (c.store.ensures.used x.home.0 x.spots)

pub returns-clause-stays : goal.returns-clause-stays
returns-clause-stays g c =
    let s = c.args.self.now in
    let b = beside_of s.tables in
    let places = g.S.Store.means.homes s.store in
    let sound = g.met.S.Store.sound s.store in
    let below : c.args.address / 512 < 512 = omega (arith, c.requires.address) in
    let x = placed b places s.kept c.requires.space.fork c.args.space c.requires.space.is (c.args.address / 512) below (g.S.Store.means.found s.store) sound.finds c.args.found c.requires.place in
    let at = Fork (record { fork = c.requires.space.fork; page = c.args.address / 512 }) in
    let used = c.store.ensures.used x.home.0 x.spots in
    put_stays g.S.Store.means (λ p. p.store) (λ p. beside_of p.tables) s _ refl x.home.0 (put_apart b places s.kept sound.pages at x.there x.home x.is x.words x.holds (c.args.address % 512) c.args.word)
    x.words x.holds (c.args.address % 512) c.args.word (c.store.ensures.homes x.home.0 x.spots) used.framed.spare used.framed.found

pub returns-clause-uses : goal.returns-clause-uses
returns-clause-uses g c home is = used_within g.S.Store.means (λ p. p.store) home c.args.self.now _ (c.store.ensures.used home is)

pub returns-clause-known : goal.returns-clause-known
returns-clause-known g c =
    let s = c.args.self.now in
    let b = beside_of s.tables in
    let places = g.S.Store.means.homes s.store in
    let sound = g.met.S.Store.sound s.store in
    let below : c.args.address / 512 < 512 = omega (arith, c.requires.address) in
    let x = placed b places s.kept c.requires.space.fork c.args.space c.requires.space.is (c.args.address / 512) below (g.S.Store.means.found s.store) sound.finds c.args.found c.requires.place in
    let at = Fork (record { fork = c.requires.space.fork; page = c.args.address / 512 }) in
    let offset = c.args.address % 512 in
    let apart = put_apart b places s.kept sound.pages at x.there x.home x.is x.words x.holds offset c.args.word in
    ap (known_over b) (c.store.ensures.homes x.home.0 x.spots) ∙ knowns_same b places (slice_set places x.home.0 (with_word_in (place places x.home.0) offset c.args.word)) (put_roots b.tables places x.home.0 x.words x.holds offset c.args.word apart)

pub returns-clause-homes : goal.returns-clause-homes
returns-clause-homes g c = c.store.ensures.homes
