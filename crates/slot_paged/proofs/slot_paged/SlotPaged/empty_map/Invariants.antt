use Rattle.paged_tables.specs.EndedForks.{EmptiesFork}
use Rattle.paged_tables.specs.FreedEntries.{FreesEntries}
use Rattle.paged_tables.specs.PagedTables.{beside_of}
use Rattle.slot_paged.proofs.slot_paged.SlotPaged.empty_map.Given as goal

abbrev pub invariant-loop-page : goal.invariant-loop-page
invariant-loop-page g l =
    EmptiesFork g.S.Store.means l.fn.self.store l.self.store (beside_of l.fn.self.tables) (beside_of l.self.tables) l.fork l.page × FreesEntries g.S.Store.means l.fn.self.store l.self.store (beside_of l.fn.self.tables) (beside_of l.self.tables) l.fork l.page
