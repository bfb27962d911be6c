use Rattle.std.proofs.Common.{◌≡◌, ◌∙◌, ◌<◌, ◌/◌, ◌%◌, Some, sym, ap, arith}
use Rattle.std.specs.Prelude.{slice_index}
use Rattle.machine_names.specs.declared.names.Place.TheVariants.{Fork}
use Rattle.page_contracts.specs.Stores.{word_in}
use Rattle.paged_tables.specs.PagedTables.{beside_of}
use Rattle.paged_tables.proofs.Homed.{place_stands, place_tells, word_told}
use Rattle.paged_tables.proofs.Placed.{placed}
use Rattle.slot_paged.proofs.slot_paged.SlotPaged.look.Goals as goal

pub look-requires-clause-found : goal.look-requires-clause-found
look-requires-clause-found g c =
    let s = c.args.self.now in
    let below : c.args.address / 512 < 512 = omega (arith, c.requires.address) in
    let x = placed (beside_of s.tables) (g.S.Store.means.homes s.store) s.kept c.requires.space.fork c.args.space c.requires.space.is (c.args.address / 512) below (g.S.Store.means.found s.store) (g.met.S.Store.sound s.store).finds c.args.found c.requires.place in
    record { home = x.home.0; is = x.spots }

pub returns-clause-told : goal.returns-clause-told
returns-clause-told g c d f fits is =
    let s = c.args.self.now in
    let b = beside_of s.tables in
    let places = g.S.Store.means.homes s.store in
    let sound = g.met.S.Store.sound s.store in
    let below : c.args.address / 512 < 512 = omega (arith, c.requires.address) in
    let x = placed b places s.kept f c.args.space is (c.args.address / 512) below (g.S.Store.means.found s.store) sound.finds c.args.found c.requires.place in
    let at = Fork (record { fork = f; page = c.args.address / 512 }) in
    let read : Some (slice_index x.words (c.args.address % 512)) ≡ Some c.look.result = sym (ap (λ p. word_in p (c.args.address % 512)) x.holds) ∙ c.look.ensures x.home.0 x.spots in
    let is : c.look.result ≡ slice_index x.words (c.args.address % 512) = cc read in
    is ∙ sym (word_told b places s.kept sound.pages d fits at x.there (place_stands b places s.kept at x.there) (place_tells b places s.kept sound.pages d fits at x.there) x.home x.is (c.args.address % 512) x.words x.holds)

pub returns-clause-answer : goal.returns-clause-answer
returns-clause-answer g c = c.look.ensures
