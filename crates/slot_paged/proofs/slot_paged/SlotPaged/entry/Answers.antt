use Rattle.std.proofs.Common.{refl}
use Rattle.paged_tables.specs.PagedTables.{beside_of, plain_over}
use Rattle.paged_tables.specs.PagedTouches.{scene_over}
use Rattle.paged_tables.proofs.MapsTold.{maps_told}
use Rattle.slot_paged.proofs.slot_paged.SlotPaged.entry.Goals as goal

pub returns-clause-told : goal.returns-clause-told
returns-clause-told g c d fits =
    let s = c.args.self.now in
    let b = beside_of s.tables in
    let places = g.S.Store.means.homes s.store in
    c.seen.ensures.told d (plain_over b places d) (scene_over b places (g.S.Store.means.spare s.store)) fits.maps (maps_told b.tables places d) refl
