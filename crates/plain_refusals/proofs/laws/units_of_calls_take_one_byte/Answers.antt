use Rattle.plain_refusals.proofs.ByteSteps.{one_byte}
use Rattle.plain_refusals.proofs.laws.units_of_calls_take_one_byte.Goals as goal

pub returns : goal.returns
returns c = λ s f lives. one_byte s f lives
