use Rattle.std.proofs.Common.{ap, map}
use Rattle.page_contracts.specs.Stores.{is_taken}
use Rattle.paged_tables.specs.PagedTables.{beside_of}
use Rattle.paged_tables.proofs.Moved.{kept_moved}
use Rattle.slot_paged.proofs.slot_paged.SlotPaged.evict.Goals as goal

pub invariant_of-self : goal.invariant_of-self
invariant_of-self g c =
    let s = c.args.self.now in
    let homes = g.S.Store.means.homes in
    record { kept = kept_moved (beside_of s.tables) (homes s.store) (homes c.evict.new.self) s.kept (ap (map is_taken) c.evict.ensures.stays.homes) }
