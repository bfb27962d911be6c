use Rattle.std.proofs.Common.{refl}
use Rattle.plain_pages.specs.NewMaps.{empty_map}
use Rattle.plain_pages.proofs.bounds.page_bounds_hold.Goals as goal

pub returns-clause-pages : goal.returns-clause-pages
unfolding empty_map
returns-clause-pages c = refl
