use Rattle.paged_tables.specs.PagedTables.{beside_of}
use Rattle.known_slots.proofs.FilesDropped.{file_dropped}
use Rattle.known_slots.proofs.pages.KnownSlotsPages.drop_file.Goals as goal

pub returns : goal.returns
returns g c =
    let s = c.args.self.now in
    file_dropped g.S.Store.means (λ p. p.pages.store) (λ p. beside_of p.pages.tables) s _ s.pages.kept c.drop_file.new.self.kept (g.met.S.Store.sound s.pages.store) c.args.file c.drop_file.ensures
