use Rattle.step_wants.proofs.FewDeeds.{deed_few}
use Rattle.step_wants.proofs.laws.a_deed_refers_to_few.Goals as goal

pub returns : goal.returns
returns c key_of v d = deed_few key_of v d
