use Rattle.flat_pages.specs.FileSteps.{EmptiesFile}
use Rattle.flat_pages.proofs.flat_slots.FlatSlots.unfile_all.Given as goal

abbrev pub invariant-loop-page : goal.invariant-loop-page
invariant-loop-page g l = EmptiesFile g.S.Store.means l.fn.self.store l.self.store l.fn.self.tables l.self.tables l.file.0 l.page
