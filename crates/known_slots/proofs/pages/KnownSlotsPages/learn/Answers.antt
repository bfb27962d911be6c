use Rattle.known_slots.proofs.WithinPages.{alike_within}
use Rattle.paged_tables.specs.PagedTables.{beside_of}
use Rattle.known_slots.proofs.pages.KnownSlotsPages.learn.Goals as goal

pub returns : goal.returns
returns g c = alike_within g.S.Store.means (λ p. p.store) (λ p. beside_of p.tables) (λ p. p.pages) c.args.self.now _ c.know.ensures.pages
