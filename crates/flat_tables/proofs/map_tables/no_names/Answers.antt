use Rattle.std.proofs.Common.{arith}
use Rattle.std.proofs.lemmas.Grind.{common_steps}
use Rattle.flat_tables.proofs.map_tables.no_names.Goals as goal

pub loop-home-preserved : goal.loop-home-preserved
loop-home-preserved c = grind (arith, common_steps)
