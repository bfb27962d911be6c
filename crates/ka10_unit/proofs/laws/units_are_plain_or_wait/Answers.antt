use Rattle.ka10_unit.proofs.Plainly.{runs_away, runs_plainly}
use Rattle.ka10_unit.proofs.laws.units_are_plain_or_wait.Goals as goal

pub returns : goal.returns
returns c = record { plain = runs_plainly; away = runs_away }
