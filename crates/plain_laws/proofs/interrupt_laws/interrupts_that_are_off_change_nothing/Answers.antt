use Rattle.std.proofs.Common.{◌≡◌, ap, false, sym, true, ◌∙◌}
use Rattle.std.specs.Prelude.{is_some}
use Rattle.plain_laws.proofs.InterruptUnits.{looks_not, unit_instruction}
use Rattle.plain_laws.proofs.interrupt_laws.interrupts_that_are_off_change_nothing.Goals as goal

pub returns-clause-instruction : goal.returns-clause-instruction
returns-clause-instruction c = λ s f there off. unit_instruction s f there off

pub returns-clause-off : goal.returns-clause-off
returns-clause-off c = λ psi off. looks_not psi (λ h. (let no : true ≡ false = sym h.0 ∙ off in cc no))

pub returns-clause-no_table : goal.returns-clause-no_table
returns-clause-no_table c = λ psi none. looks_not psi (λ h. (let no : true ≡ false = sym h.1 ∙ ap is_some none in cc no))

pub returns-clause-none_wanted : goal.returns-clause-none_wanted
returns-clause-none_wanted c = λ psi none. looks_not psi (λ h. none h.2)
