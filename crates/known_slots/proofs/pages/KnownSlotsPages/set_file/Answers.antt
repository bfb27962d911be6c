use Rattle.paged_tables.specs.PagedTables.{beside_of}
use Rattle.known_slots.proofs.FilesDropped.{file_set}
use Rattle.known_slots.proofs.pages.KnownSlotsPages.set_file.Goals as goal

pub returns : goal.returns
returns g c =
    let s = c.args.self.now in
    file_set g.S.Store.means (λ p. p.pages.store) (λ p. beside_of p.pages.tables) s _ s.pages.kept c.set_file.new.self.kept c.args.file c.args.page c.args.from c.set_file.ensures
