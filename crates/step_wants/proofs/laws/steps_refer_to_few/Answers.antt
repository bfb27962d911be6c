use Rattle.std.proofs.Common.{arith}
use Rattle.plain_units.specs.Instructions.{instruction}
use Rattle.plain_units.specs.Steps.{begun}
use Rattle.step_wants.proofs.Again.{instruction_last}
use Rattle.step_wants.proofs.Few.{steps_few}
use Rattle.step_wants.proofs.laws.steps_refer_to_few.Goals as goal

pub returns-clause-steps : goal.returns-clause-steps
returns-clause-steps c f steps t last low = steps_few f steps t last low

pub returns-clause-instructions : goal.returns-clause-instructions
returns-clause-instructions c f regs p = let few = steps_few f (instruction regs) (begun p regs.ac) (instruction_last regs) (omega arith) in omega (arith, few)
