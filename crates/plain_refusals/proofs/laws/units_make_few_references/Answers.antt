use Rattle.plain_units.specs.Instructions.{instruction}
use Rattle.plain_refusals.proofs.References.{few_asked}
use Rattle.plain_refusals.proofs.laws.units_make_few_references.Goals as goal

pub returns-clause-unit : goal.returns-clause-unit
returns-clause-unit c = λ p f regs. few_asked f p regs (instruction regs)

pub returns-clause-any : goal.returns-clause-any
returns-clause-any c = λ p f regs steps. few_asked f p regs steps
