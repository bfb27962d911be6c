use Rattle.std.proofs.Common.{◌≡◌, replicate}
use Rattle.flat_tables.specs.HeldMaps.{free_map}
use Rattle.flat_tables.proofs.held_map.free_maps.Given as goal

abbrev pub invariant-loop-map : goal.invariant-loop-map
invariant-loop-map l = l.maps.items ≡ replicate l._map free_map
