use Rattle.psi_system.proofs.Ends.{level_ends}
use Rattle.psi_system.proofs.Levels.{level_within}
use Rattle.psi_system.proofs.laws.levels_nest.Goals as goal

pub returns : goal.returns
returns c f p d room delivered = let goes = level_ends f d p delivered in level_within f.body.psi d.found room goes.0 goes.1 goes.2
