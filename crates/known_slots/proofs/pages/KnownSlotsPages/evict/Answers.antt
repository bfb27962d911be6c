use Rattle.std.proofs.Common.{ap}
use Rattle.paged_tables.specs.PagedTables.{beside_of}
use Rattle.paged_tables.proofs.AskedOfStore.{stays_same}
use Rattle.known_slots.proofs.pages.KnownSlotsPages.evict.Goals as goal

pub returns-clause-same : goal.returns-clause-same
returns-clause-same g c =
    let there = c.evict.ensures.evicts.stays in
    stays_same g.S.Store.means (λ p. p.pages.store) (λ p. beside_of p.pages.tables) c.args.self.now _ (ap beside_of c.evict.ensures.tables) there.homes there.framed.spare there.framed.found
