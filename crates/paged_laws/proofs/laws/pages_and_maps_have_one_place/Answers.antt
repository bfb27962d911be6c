use Rattle.paged_tables.specs.PagedTables.{beside_of}
use Rattle.paged_laws.proofs.Standing.{stands}
use Rattle.paged_laws.proofs.laws.pages_and_maps_have_one_place.Goals as goal

pub returns : goal.returns
returns c = stands (λ p. p.pages.store) (λ p. beside_of p.pages.tables) c.args.pages.now c.args.pages.now.pages.kept
