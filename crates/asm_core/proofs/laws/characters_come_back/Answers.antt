use Rattle.std.proofs.Common.{arith}
use Rattle.asm_core.proofs.Packing.{length_packed, packed_back, packed_even}
use Rattle.asm_core.proofs.laws.characters_come_back.Goals as goal

pub returns-clause-count : goal.returns-clause-count
returns-clause-count c text n = length_packed n text

pub returns-clause-room : goal.returns-clause-room
returns-clause-room c text = (omega arith, omega arith)

pub returns-clause-back : goal.returns-clause-back
returns-clause-back c = packed_back

pub returns-clause-last : goal.returns-clause-last
returns-clause-last c = packed_even
