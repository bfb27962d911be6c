use Rattle.std.proofs.Common.{ap}
use Rattle.std.proofs.lemmas.List.{get_or_read}
use Rattle.pager_walk.specs.declared.map_pages.MapPage.{MapPage}
use Rattle.pager_walk.specs.MapPages.{no_map}
use Rattle.pager_walk.proofs.map_pages.KeptMaps.root.Goals as goal

pub returns : goal.returns
returns c = ap (λ (m : MapPage). m.home) (get_or_read _ _ _ c.requires c.index.ensures no_map)
