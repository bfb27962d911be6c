use Rattle.paged_tables.specs.PagedTables.{beside_of}
use Rattle.paged_laws.proofs.Standing.{stands_apart, stands_below}
use Rattle.paged_laws.proofs.laws.pages_and_maps_stand_apart.Goals as goal

pub returns-clause-below : goal.returns-clause-below
returns-clause-below c = stands_below (λ p. p.pages.store) (λ p. beside_of p.pages.tables) c.args.pages.now c.args.pages.now.pages.kept

pub returns-clause-apart : goal.returns-clause-apart
returns-clause-apart c = stands_apart (λ p. p.pages.store) (λ p. beside_of p.pages.tables) c.args.pages.now c.args.pages.now.pages.kept
