use Rattle.paged_tables.specs.FiledSteps.{EmptiesFiled}
use Rattle.paged_tables.specs.PagedTables.{beside_of}
use Rattle.slot_paged.proofs.slot_paged.SlotPaged.drop_file.Given as goal

abbrev pub invariant-loop-page : goal.invariant-loop-page
invariant-loop-page g l = EmptiesFiled g.S.Store.means l.fn.self.store l.self.store (beside_of l.fn.self.tables) (beside_of l.self.tables) l.file.0 l.page
