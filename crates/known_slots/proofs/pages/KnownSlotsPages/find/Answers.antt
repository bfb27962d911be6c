use Rattle.paged_tables.specs.PagedTables.{beside_of}
use Rattle.paged_tables.proofs.KnownTouches.{found_exactly, touch_ready}
use Rattle.known_slots.proofs.pages.KnownSlotsPages.find.Goals as goal

pub returns-clause-ready : goal.returns-clause-ready
returns-clause-ready g c f is =
    let s = c.args.self.now.pages in
    found_exactly (beside_of s.tables) (g.S.Store.means.homes s.store) s.kept f c.args.space is c.args.page c.requires.page (g.S.Store.means.found s.store) (g.met.S.Store.sound s.store).finds (g.S.Store.means.spare s.store) c.args.kind c.found_for.result c.found_for.ensures

pub returns-clause-told : goal.returns-clause-told
returns-clause-told g c d f fits is some =
    let s = c.args.self.now.pages in
    let b = beside_of s.tables in
    let places = g.S.Store.means.homes s.store in
    let frames = g.S.Store.means.spare s.store in
    let sound = g.met.S.Store.sound s.store in
    let ready = (found_exactly b places s.kept f c.args.space is c.args.page c.requires.page (g.S.Store.means.found s.store) sound.finds frames c.args.kind c.found_for.result c.found_for.ensures).0 some in
    touch_ready b places s.kept f c.args.space is c.args.page c.requires.page (g.S.Store.means.found s.store) sound.finds frames c.args.kind sound.pages d fits ready
