-- What a unit keeps of its fork.
use Rattle.std.proofs.Common.{◌≡◌, ℕ, ◌+◌, ◌%◌, ◌<◌, ◌^◌, length, Bool, slice_set, true, false, cond, None, Some, refl, ◌∙◌, arith, length-set}
use Rattle.std.proofs.lemmas.Bool.Decides.{nat_tests}
use Rattle.plain_units.specs.declared.channel.TheConstants.{OVERFLOW, PUSHDOWN_OVERFLOW, ILLEGAL_INSTRUCTION}
use Rattle.machine_names.specs.declared.names.TheConstants.{ACCUMULATORS}
use Rattle.call_turns.specs.declared.answer.Answer.{Answer}
use Rattle.call_turns.specs.declared.answer.Answer.TheVariants as answer
use Rattle.plain_model.specs.declared.fork.Fork.{Fork}
use Rattle.plain_units.specs.declared.registers.Regs.{Regs}
use Rattle.script_texts.specs.declared.status.WaitOn.TheVariants.{Input, Fork as AFork, Sleep}
use Rattle.script_texts.specs.declared.status.ForkStatus.{ForkStatus}
use Rattle.script_texts.specs.declared.status.ForkStatus.TheVariants.{Forced as AForced, Halted as AHalted, Run, Wait}
use Rattle.plain_model.specs.Calls.{behind_call, posted_if, with_error, with_ac}
use Rattle.plain_model.specs.Forks.{with_regs, with_status, counted}
use Rattle.plain_model.specs.declared.interrupt.Delivery.{Delivery}
use Rattle.plain_model.specs.Inspections.{delivered, interrupted_word}
use Rattle.plain_model.specs.Interrupts.{is_panic, listens, pended, posted, woken}
use Rattle.plain_units.specs.Steps.{is_accumulator}
use Rattle.call_turns.specs.Answers.{HasRegs}
use Rattle.ka10_deeds.specs.declared.done.Post.{Post}
use Rattle.ka10_deeds.specs.declared.done.Post.TheVariants.{Nothing, Overflow, Pushdown}
use Rattle.ka10_deeds.specs.Done.{channel_of}
use Rattle.monitor_calls.specs.ForkUnit.{Kept, answered, ran_on}
use Rattle.monitor_calls.specs.Limits.{FitsForced, IsBody}

forced_fits : (channel : ℕ) → channel < 36 → FitsForced (AForced channel)
forced_fits channel few c h = let same : channel ≡ c = cc h in omega (arith, few, same)

-- the panic channels are among the 36
pub panic_fits : (channel : ℕ) → is_panic channel ≡ true → channel < 36
panic_fits channel panic = grind (arith, nat_tests)

-- a fork that goes on was forced by no other channel
woken_fits : (status : ForkStatus) → FitsForced status → FitsForced (woken status)
woken_fits (Wait on) fits = λ c h. absurd (cc h)
woken_fits Run fits = fits
woken_fits AHalted fits = fits
woken_fits (AForced channel) fits = fits

-- a fork behind a unit that left these registers
module _ (f : Fork) (regs : Regs) (pc : regs.pc < 2 ^ 18) (accumulators : length regs.ac ≡ ACCUMULATORS) where
  plain_keeps : Kept f (counted (with_regs f regs)) 1
  plain_keeps = record { name = refl; slot = refl; superior = refl; status = λ s. s; pc = pc; accumulators = accumulators; units = refl }

  -- a channel was posted, which it takes, or which forced it or was dropped
  pub posted_keeps : (channel : ℕ) → Kept f (counted (posted (with_regs f regs) channel)) 1
  posted_keeps channel = by (listens f.body.psi channel) (is_panic channel) refl
    where
      by : (takes panics : Bool) → is_panic channel ≡ panics → Kept f (counted (cond takes (pended (with_regs f regs) channel) (cond panics (with_status (with_regs f regs) (AForced channel)) (with_regs f regs)))) 1
      by true panics is = record { name = refl; slot = refl; superior = refl; status = woken_fits f.body.status; pc = pc; accumulators = accumulators; units = refl }
      by false true panic = record { name = refl; slot = refl; superior = refl; status = λ h. forced_fits channel (panic_fits channel panic); pc = pc; accumulators = accumulators; units = refl }
      by false false other = plain_keeps

  -- it is done, and has posted this
  pub ended_keeps : (post : Post) → Kept f (counted (posted_if (with_regs f regs) (channel_of post))) 1
  ended_keeps Nothing = plain_keeps
  ended_keeps Overflow = posted_keeps OVERFLOW
  ended_keeps Pushdown = posted_keeps PUSHDOWN_OVERFLOW

  wrapped : (n : ℕ) → n % 2 ^ 18 < 2 ^ 18
  wrapped n = omega arith

  -- it halts behind a call
  pub halted_keeps : Kept f (counted (with_status (with_regs f (behind_call regs)) AHalted)) 1
  halted_keeps = record { name = refl; slot = refl; superior = refl; status = λ s c h. absurd (cc h); pc = wrapped (regs.pc + 1); accumulators = accumulators; units = refl }

-- it returns by the first of two returns
failed_keeps : (f : Fork) (code : ℕ) → length f.body.regs.ac ≡ ACCUMULATORS → Kept f (counted (with_error (with_regs f (behind_call (with_ac f.body.regs 1 code))) code)) 1
failed_keeps f code acs = record {
  name = refl;
  slot = refl;
  superior = refl;
  status = λ s. s;
  pc = low (f.body.regs.pc + 1);
  accumulators = length-set f.body.regs.ac 1 code ∙ acs;
  units = refl;
}
  where
    low : (n : ℕ) → n % 2 ^ 18 < 2 ^ 18
    low n = omega arith

-- a fork behind a turn of a call with this answer
pub answered_keeps : (f : Fork) → f.body.regs.pc < 2 ^ 18 → length f.body.regs.ac ≡ ACCUMULATORS → (a : Answer) → HasRegs a → Kept f (counted (answered f a)) 1
answered_keeps f pc acs (answer.After regs out None) fits = let in_regs = fits.0 in plain_keeps f regs in_regs.0 in_regs.1
answered_keeps f pc acs (answer.After regs out (Some channel)) fits = let in_regs = fits.0 in posted_keeps f regs in_regs.0 in_regs.1 channel
answered_keeps f pc acs (answer.Refused code) fits =
    let k = posted_keeps (with_error f code) f.body.regs pc acs ILLEGAL_INSTRUCTION in
    record { name = k.name; slot = k.slot; superior = k.superior; status = k.status; pc = k.pc; accumulators = k.accumulators; units = k.units }
answered_keeps f pc acs (answer.Failed code) fits = failed_keeps f code acs
answered_keeps f pc acs (answer.Trap channel) fits = posted_keeps f f.body.regs pc acs channel
answered_keeps f pc acs (answer.Wait Input) fits = record { name = refl; slot = refl; superior = refl; status = λ s c h. absurd (cc h); pc = pc; accumulators = acs; units = refl }
answered_keeps f pc acs (answer.Wait AFork) fits = record { name = refl; slot = refl; superior = refl; status = λ s c h. absurd (cc h); pc = pc; accumulators = acs; units = refl }
answered_keeps f pc acs (answer.Wait (Sleep moment)) fits = record { name = refl; slot = refl; superior = refl; status = λ s c h. absurd (cc h); pc = pc; accumulators = acs; units = refl }
answered_keeps f pc acs answer.Halt fits = halted_keeps f f.body.regs pc acs
answered_keeps f pc acs (answer.Need need) fits = plain_keeps f f.body.regs pc acs

-- a channel was delivered to it
pub delivered_keeps : (f : Fork) (d : Delivery) → d.found.to < 2 ^ 18 → length f.body.regs.ac ≡ ACCUMULATORS → Kept f (counted (delivered f d)) 1
delivered_keeps f d to acs = record { name = refl; slot = refl; superior = refl; status = λ s. s; pc = to; accumulators = by (is_accumulator d.at); units = refl }
  where
    by : (b : Bool) → length (cond b (slice_set f.body.regs.ac d.at (interrupted_word f.body.regs)) f.body.regs.ac) ≡ ACCUMULATORS
    by true = length-set f.body.regs.ac d.at (interrupted_word f.body.regs) ∙ acs
    by false = acs

-- it was forced by a channel
pub forced_keeps : (f : Fork) (channel : ℕ) → channel < 36 → f.body.regs.pc < 2 ^ 18 → length f.body.regs.ac ≡ ACCUMULATORS → Kept f (counted (with_status f (AForced channel))) 1
forced_keeps f channel few pc acs = record { name = refl; slot = refl; superior = refl; status = λ s. forced_fits channel few; pc = pc; accumulators = acs; units = refl }

-- a call that is still to be made leaves its fork
pub none_keeps : (f : Fork) (regs : Regs) → regs.pc < 2 ^ 18 → length regs.ac ≡ ACCUMULATORS → Kept f (with_regs f regs) 0
none_keeps f regs pc acs = record { name = refl; slot = refl; superior = refl; status = λ s. s; pc = pc; accumulators = acs; units = omega arith }

-- no unit that was run, with the registers as they were, is the fork as it was
pub ran_none : (f : Fork) (n : ℕ) (regs : Regs) → n ≡ 0 → regs ≡ f.body.regs → ran_on f n regs ≡ f
ran_none f n regs none same =
    let units : f.body.units + n ≡ f.body.units = omega (arith, none) in λ i. record f { body = record f.body { regs = same i; units = units i } }

-- so many units that left these registers and posted nothing
pub row_keeps : (f : Fork) (n : ℕ) (regs : Regs) → regs.pc < 2 ^ 18 → length regs.ac ≡ ACCUMULATORS → Kept f (ran_on f n regs) n
row_keeps f n regs pc accumulators = record { name = refl; slot = refl; superior = refl; status = λ s. s; pc = pc; accumulators = accumulators; units = refl }

-- and one more
pub more_keeps : (f g h : Fork) (n m : ℕ) → Kept f g n → Kept g h m → Kept f h (n + m)
more_keeps f g h n m a b = record {
  name = b.name ∙ a.name;
  slot = b.slot ∙ a.slot;
  superior = b.superior ∙ a.superior;
  status = λ s. b.status (a.status s);
  pc = b.pc;
  accumulators = b.accumulators;
  units = omega (arith, a.units, b.units);
}

-- so it stays within its limits
pub kept_body : (f g : Fork) (n : ℕ) → Kept f g n → IsBody f.body → IsBody g.body
kept_body f g n k b = record { status = k.status b.status; pc = k.pc; accumulators = k.accumulators }

-- a fork to which a channel is posted has run as many units, and stays within its limits
pub posted_units : (f : Fork) (channel : ℕ) → (posted f channel).body.units ≡ f.body.units
posted_units f channel = by (listens f.body.psi channel) (is_panic channel)
  where
    by : (takes panics : Bool) → (cond takes (pended f channel) (cond panics (with_status f (AForced channel)) f)).body.units ≡ f.body.units
    by true panics = refl
    by false true = refl
    by false false = refl

pub posted_body : (f : Fork) (channel : ℕ) → IsBody f.body → IsBody (posted f channel).body
posted_body f channel b = by (listens f.body.psi channel) (is_panic channel) refl
  where
    by : (takes panics : Bool) → is_panic channel ≡ panics → IsBody (cond takes (pended f channel) (cond panics (with_status f (AForced channel)) f)).body
    by true panics is = record { status = woken_fits f.body.status b.status; pc = b.pc; accumulators = b.accumulators }
    by false true panic = record { status = forced_fits channel (panic_fits channel panic); pc = b.pc; accumulators = b.accumulators }
    by false false other = b
