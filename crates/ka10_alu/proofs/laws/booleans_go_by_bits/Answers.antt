use Rattle.ka10_alu.proofs.MaskedBits.{boolean_bit, boolean-below}
use Rattle.ka10_alu.proofs.laws.booleans_go_by_bits.Goals as goal

pub returns-clause-bits : goal.returns-clause-bits
returns-clause-bits c = boolean_bit

pub returns-clause-word : goal.returns-clause-word
returns-clause-word c = boolean-below
