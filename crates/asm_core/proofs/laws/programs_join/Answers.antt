use Rattle.asm_core.proofs.Joining.{assembled_joined}
use Rattle.asm_core.proofs.laws.programs_join.Goals as goal

pub returns : goal.returns
returns c = assembled_joined
