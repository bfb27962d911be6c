use Rattle.plain_model.specs.declared.interrupt.Inspected.TheVariants.{Nothing, Delivers, Forces}
use Rattle.plain_laws.proofs.InterruptUnits.{looks_so, looks_tells, unit_found}
use Rattle.plain_laws.proofs.interrupt_laws.interrupts_come_before_instructions.Goals as goal

pub returns-clause-looks : goal.returns-clause-looks
returns-clause-looks c = λ psi. (λ h. looks_tells psi h, λ h. looks_so psi h.0 h.1 h.2)

pub returns-clause-delivers : goal.returns-clause-delivers
returns-clause-delivers c = λ s f d there on is. unit_found s f there (Delivers d) on is

pub returns-clause-forces : goal.returns-clause-forces
returns-clause-forces c = λ s f channel there on is. unit_found s f there (Forces channel) on is

pub returns-clause-nothing : goal.returns-clause-nothing
returns-clause-nothing c = λ s f there on is. unit_found s f there Nothing on is
