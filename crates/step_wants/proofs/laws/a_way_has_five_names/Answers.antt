use Rattle.step_wants.proofs.Few.{way_few}
use Rattle.step_wants.proofs.laws.a_way_has_five_names.Goals as goal

pub returns : goal.returns
returns c = way_few
