use Rattle.std.proofs.Common.{arith}
use Rattle.std.proofs.lemmas.Grind.{common_steps}
use Rattle.flat_tables.proofs.held_map.free_maps.Goals as goal

pub loop-map-preserved : goal.loop-map-preserved
loop-map-preserved c = grind (arith, common_steps)
