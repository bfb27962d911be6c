use Rattle.std.proofs.Common.{◌≡◌, replicate}
use Rattle.pager_walk.specs.MapPages.{no_map}
use Rattle.pager_walk.proofs.map_pages.no_maps.Given as goal

abbrev pub invariant-loop-map : goal.invariant-loop-map
invariant-loop-map l = l.maps.items ≡ replicate l._map no_map
