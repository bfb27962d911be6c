use Rattle.std.proofs.Common.{subst}
use Rattle.pager_walk.specs.PagedMaps.{look_at}
use Rattle.paged_tables.specs.PagedTables.{Beside, beside_of}
use Rattle.paged_tables.specs.SetEntries.{PutsPointer}
use Rattle.paged_tables.proofs.LeftOnce.{look_fits}
use Rattle.slot_paged.proofs.slot_paged.SlotPaged.put_left.Goals as goal

pub returns : goal.returns
returns g c =
    let s = c.args.self.now in
    let b = beside_of s.tables in
    let store = g.S.Store.means in
    let mid = beside_of c.leave.new.self.tables in
    let new = c.put_pointer.new.self in
    let moved = subst (λ x. PutsPointer store x new.store mid (beside_of new.tables) mid.tables.shares mid.shared c.args.at c.args.pointer) c.leave.ensures.store c.put_pointer.ensures in
    let puts = subst (λ (x : Beside). PutsPointer store s.store new.store x (beside_of new.tables) x.tables.shares x.shared c.args.at c.args.pointer) c.leave.ensures.beside moved in
    record { number = puts.number; numbered = puts.numbered; homes = puts.homes; used = puts.used; beside = puts.beside; fits = λ d fits. puts.fits d (look_fits b (store.homes s.store) s.kept (look_at b.tables (store.homes s.store) c.args.at) d fits) }
