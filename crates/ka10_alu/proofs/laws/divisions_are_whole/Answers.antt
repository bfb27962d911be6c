use Rattle.ka10_alu.proofs.Divisions.{divides}
use Rattle.ka10_alu.proofs.laws.divisions_are_whole.Goals as goal

pub returns : goal.returns
returns c = divides
