use Rattle.psi_system.proofs.Firsts.{comes_first}
use Rattle.psi_system.proofs.laws.the_least_level_is_delivered.Goals as goal

pub returns : goal.returns
returns c f p table d there ready delivered = comes_first f d p table ready there delivered
