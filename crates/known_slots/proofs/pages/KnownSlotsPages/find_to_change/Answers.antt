use Rattle.machine_names.specs.declared.names.Kind.TheVariants.{Read, Write}
use Rattle.paged_tables.specs.PagedTables.{beside_of}
use Rattle.paged_tables.proofs.KnownTouches.{change_exactly, touch_ready}
use Rattle.known_slots.proofs.pages.KnownSlotsPages.find_to_change.Goals as goal

pub returns-clause-ready : goal.returns-clause-ready
returns-clause-ready g c f is =
    let s = c.args.self.now.pages in
    change_exactly (beside_of s.tables) (g.S.Store.means.homes s.store) s.kept f c.args.space is c.args.page c.requires.page (g.S.Store.means.found s.store) (g.met.S.Store.sound s.store).finds (g.S.Store.means.spare s.store) c.found_to_change.result c.found_to_change.ensures

pub returns-clause-told : goal.returns-clause-told
returns-clause-told g c d f fits is some =
    let s = c.args.self.now.pages in
    let b = beside_of s.tables in
    let places = g.S.Store.means.homes s.store in
    let found = g.S.Store.means.found s.store in
    let frames = g.S.Store.means.spare s.store in
    let sound = g.met.S.Store.sound s.store in
    let ready = (change_exactly b places s.kept f c.args.space is c.args.page c.requires.page found sound.finds frames c.found_to_change.result c.found_to_change.ensures).0 some in (
      touch_ready b places s.kept f c.args.space is c.args.page c.requires.page found sound.finds frames Read sound.pages d fits ready.0,
      touch_ready b places s.kept f c.args.space is c.args.page c.requires.page found sound.finds frames Write sound.pages d fits ready.1,
    )
