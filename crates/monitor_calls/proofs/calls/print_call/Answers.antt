use Rattle.std.proofs.Common.{◌≡◌, ◌%◌, ℕ, cond, sym, ◌∙◌, ap, None, Some}
use Rattle.std.specs.Prelude.{slice_index}
use Rattle.std.proofs.lemmas.Bool.{ne_eqb}
use Rattle.plain_model.specs.declared.call.End.TheVariants.{Done, Trap}
use Rattle.plain_model.specs.declared.call.TheConstants.{PBOUT}
use Rattle.plain_units.specs.declared.channel.TheConstants.{ILLEGAL_INSTRUCTION}
use Rattle.plain_units.specs.declared.registers.Regs.{Regs}
use Rattle.plain_pages.specs.PlainPages.{NumberedPages}
use Rattle.plain_model.specs.Calls.{behind_call, ends, no_files, numbered, turn_on}
use Rattle.plain_model.specs.Families.{print_calls}
use Rattle.call_turns.specs.Answers.{answer_of}
use Rattle.monitor_calls.proofs.calls.print_call.Goals as goal

-- how a turn of a call that prints ends
module _ (number : ℕ) (regs : Regs) (p : NumberedPages) where
  printed : number ≡ PBOUT → (turn_on no_files p (numbered print_calls number regs)).end ≡ Done tt (behind_call regs) (Some (slice_index regs.ac 1 % 128)) None
  unfolding turn_on
  printed is = ap (λ n. (turn_on no_files p (numbered print_calls n regs)).end) is

  trapped : (PBOUT ≡ number → ⊥) → (turn_on no_files p (numbered print_calls number regs)).end ≡ Trap ILLEGAL_INSTRUCTION
  unfolding turn_on
  trapped other = ap (λ b. (turn_on no_files p (cond b (ends (Done tt (behind_call regs) (Some (slice_index regs.ac 1 % 128)) None)) (ends (Trap ILLEGAL_INSTRUCTION)))).end) (ne_eqb PBOUT number other)

pub returns-then-number-eq-PBOUT-clause-told : goal.returns-then-number-eq-PBOUT-clause-told
returns-then-number-eq-PBOUT-clause-told c p = c.pbout.ensures.told ∙ sym (ap answer_of (printed c.args.number c.args.regs.now p c.if-number-eq-PBOUT.true))

pub returns-clause-told : goal.returns-clause-told
returns-clause-told c p = sym (ap answer_of (trapped c.args.number c.args.regs.now p (λ same. c.if-number-eq-PBOUT.false (sym same))))
