use Rattle.std.proofs.Common.{refl}
use Rattle.asm_core.specs.Names.{calls}
use Rattle.number_laws.proofs.laws.names_of_calls_mean_their_numbers.Goals as goal

pub returns : goal.returns
unfolding calls
returns c = refl
