use Rattle.std.proofs.Common.{arith}
use Rattle.std.proofs.lemmas.Grind.{common_steps}
use Rattle.paged_tables.proofs.paged_tables.no_shares.Goals as goal

pub loop-home-preserved : goal.loop-home-preserved
loop-home-preserved c = grind (arith, common_steps)
