use Rattle.turn_forms.proofs.Passing.{short}
use Rattle.turn_forms.proofs.laws.calm_turns_pass_nobody_over.Goals as goal

pub returns : goal.returns
returns c = short
