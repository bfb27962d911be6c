-- How turns of calls on the clock come out.
use Rattle.std.proofs.Common.{◌≡◌, ℕ, Option, refl, sym, subst}
use Rattle.plain_units.specs.declared.registers.Regs.{Regs}
use Rattle.plain_model.specs.declared.call.End.{End}
use Rattle.plain_model.specs.declared.call.End.TheVariants.{Done, Waits, Halts, Refused, Failed, Trap}
use Rattle.plain_model.specs.declared.call.SleepChange.{SleepChange}
use Rattle.plain_model.specs.Calls.{parts_behind, turn_on}
use Rattle.plain_model.specs.ClockCalls.{clock_changed}
use Rattle.plain_model.specs.Trees.{PlainTree}
use Rattle.call_turns.specs.declared.answer.Answer.{Answer}
use Rattle.call_turns.specs.Answers.{answer_of}
use Rattle.clock_calls.specs.Turning.{Turned, ended}

module _ (tree tree' : PlainTree) where
  -- the forks are as the end leaves them
  abbrev pub Left : End SleepChange → Type 0
  Left e = tree' ≡ parts_behind clock_changed tree tree e

  -- one that is done leaves what its change does
  pub done_left : (e : End SleepChange) (what : SleepChange) (regs : Regs) (out post : Option ℕ) → e ≡ Done what regs out post → tree' ≡ clock_changed what tree → Left e
  unfolding parts_behind
  done_left e what regs out post is changes = subst Left (sym is) changes

  -- another leaves all as it was
  pub other_left : (e : End SleepChange) → ((what : SleepChange) (regs : Regs) (out post : Option ℕ) → e ≡ Done what regs out post → ⊥) → tree' ≡ tree → Left e
  unfolding parts_behind
  other_left (Done what regs out post) other same = absurd (other what regs out post refl)
  other_left (Waits on) other same = same
  other_left Halts other same = same
  other_left (Refused code) other same = same
  other_left (Failed code) other same = same
  other_left (Trap channel) other same = same

  -- a turn ends at once
  pub ends_turned : (result : Answer) (e : End SleepChange) → result ≡ answer_of e → Left e → Turned tree tree' result (ended e)
  unfolding turn_on
  ends_turned result e answered left p = (answered, left)
