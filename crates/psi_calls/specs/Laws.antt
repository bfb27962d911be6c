-- What the calls on pseudo-interrupts keep, in the words of who writes a program.
use Rattle.std.specs.Prelude.{◌≡◌, ℕ, ◌<◌, ◌≤◌, ◌^◌, length, not, ◌&&◌, ◌||◌, true, Some}
use Rattle.plain_model.specs.declared.fork.Fork.{Fork}
use Rattle.plain_model.specs.declared.interrupt.Delivery.{Delivery}
use Rattle.plain_model.specs.declared.interrupt.TheConstants.{CHANNELS, LEVELS}
use Rattle.plain_model.specs.Inspections.{accumulators_with, delivered, goes_before, interrupted_word}
use Rattle.plain_model.specs.InterruptCalls.{level_to_end, restored, without_level}
use Rattle.plain_model.specs.Interrupts.{has_channel, with_channels, without_channels}

-- THE CHANNELS THAT AIC ADDS ARE THERE, and of no other is it changed whether it is
abbrev pub AreAdded : Type 0
AreAdded = (some more channel : ℕ) → channel < CHANNELS → has_channel (with_channels some more) channel ≡ (has_channel some channel || has_channel more channel)

-- THE CHANNELS THAT DIC TAKES AWAY ARE GONE, and of no other is it changed whether it is there
abbrev pub AreTaken : Type 0
AreTaken = (some others channel : ℕ) → channel < CHANNELS → has_channel (without_channels some others) channel ≡ (has_channel some channel && not (has_channel others channel))

-- behind a delivery its level is the one to end; that level over, all are as they were; and the word that the delivery stores has the program
-- counter and the flags as they were
pub record IsUndone (f : Fork) (d : Delivery) (table : ℕ) : Type 0 where
  pub level : level_to_end (delivered f d) ≡ Some (table, d.found.level)
  pub levels : (without_level (delivered f d).body d.found.level).psi.levels ≡ f.body.psi.levels
  pub regs : restored (delivered f d).body.regs (interrupted_word f.body.regs) ≡ record f.body.regs { ac = accumulators_with f.body.regs d.at }

-- DEBRK UNDOES A DELIVERY, whose level goes before each in progress, as it is taken
abbrev pub UndoesDeliveries : Type 0
UndoesDeliveries = (f : Fork) (d : Delivery) (table : ℕ) → f.body.psi.table ≡ Some table → length f.body.psi.levels ≡ LEVELS → f.body.regs.pc < 2 ^ 18
    → 1 ≤ d.found.level → d.found.level ≤ LEVELS → goes_before d.found.level f.body.psi ≡ true → IsUndone f d table
