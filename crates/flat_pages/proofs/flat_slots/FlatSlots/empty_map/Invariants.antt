use Rattle.flat_pages.specs.Emptying.{EmptiesMap}
use Rattle.flat_pages.proofs.flat_slots.FlatSlots.empty_map.Given as goal

abbrev pub invariant-loop-page : goal.invariant-loop-page
invariant-loop-page g l = EmptiesMap g.S.Store.means l.fn.self.store l.self.store l.fn.self.tables l.self.tables l.map l.page
