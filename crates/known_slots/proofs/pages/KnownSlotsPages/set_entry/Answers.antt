use Rattle.paged_tables.specs.PagedTables.{beside_of}
use Rattle.known_slots.proofs.PlacesKept.{entry_set}
use Rattle.known_slots.proofs.pages.KnownSlotsPages.set_entry.Goals as goal

pub returns : goal.returns
returns g c =
    let s = c.args.self.now in
    let changes = c.set_entry.ensures.changes in
    entry_set g.S.Store.means (λ p. p.pages.store) (λ p. beside_of p.pages.tables) s _ s.pages.kept c.set_entry.new.self.kept changes.maps c.args.slot c.set_entry.ensures.keeps c.args.new changes
