use Rattle.asm_core.proofs.Faulting.{fault_is, lines_are}
use Rattle.asm_core.proofs.laws.first_fault_decides.Goals as goal

pub returns-clause-lines : goal.returns-clause-lines
returns-clause-lines c = lines_are

pub returns-clause-fault : goal.returns-clause-fault
returns-clause-fault c = fault_is
