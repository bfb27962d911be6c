use Rattle.ka10_alu.proofs.MaskedBits.{changes_masked}
use Rattle.ka10_alu.proofs.laws.tests_change_masked_bits.Goals as goal

pub returns : goal.returns
returns c = changes_masked
