use Rattle.ka10_unit.proofs.InARow.{gone_over}
use Rattle.ka10_unit.proofs.laws.vectors_are_gone_over.Goals as goal

pub returns : goal.returns
returns c n first any some fits = gone_over n first any some fits
