use Rattle.std.proofs.Common.{◌≡◌, refl, ◌∙◌, ap}
use Rattle.plain_units.specs.declared.registers.Regs.{Regs}
use Rattle.plain_model.specs.Calls.{fork_behind, with_wait}
use Rattle.plain_model.specs.declared.fork.Fork.{Fork}
use Rattle.script_texts.specs.declared.status.ForkStatus.TheVariants.{Wait}
use Rattle.script_texts.specs.declared.status.WaitOn.{WaitOn}
use Rattle.script_texts.specs.declared.status.WaitOn.TheVariants as on
use Rattle.plain_model.specs.Inspections.{interrupted_word}
use Rattle.plain_model.specs.InterruptCalls.{restored}
use Rattle.plain_laws.proofs.FlagsBack.{restored_back}
use Rattle.plain_laws.proofs.InterruptUnits.{posted_regs, posted_wakes}
use Rattle.plain_laws.proofs.interrupt_laws.waiting_calls_are_made_again.Goals as goal

-- who waits stays on the call
stays : (f : Fork) (what : WaitOn) → (with_wait f what ≡ with_wait f what) × ((with_wait f what).body.status ≡ Wait what) × ((with_wait f what).body.regs ≡ f.body.regs)
stays f on.Input = (refl, refl, refl)
stays f on.Fork = (refl, refl, refl)
stays f (on.Sleep moment) = (refl, refl, refl)

pub returns-clause-waits : goal.returns-clause-waits
unfolding fork_behind
returns-clause-waits c = stays

pub returns-clause-wakes : goal.returns-clause-wakes
returns-clause-wakes c = λ f on channel waits takes. (posted_wakes f channel on waits takes, posted_regs f channel)

pub returns-clause-again : goal.returns-clause-again
returns-clause-again c = λ f channel other low. ap (λ (regs : Regs). (restored other (interrupted_word regs)).pc) (posted_regs f channel) ∙ ap (λ (regs : Regs). regs.pc) (restored_back f.body.regs other low)
