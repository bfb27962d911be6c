-- A line whose entries were not all played.
use Rattle.std.proofs.Common.{◌≡◌, ℕ, ◌+◌, ◌≤◌, ◌^◌, List, replicate, refl, sym, subst, arith}
use Rattle.std.proofs.lemmas.List.{length-replicate}
use Rattle.script_texts.specs.declared.event.Step.{Step}
use Rattle.script_texts.specs.declared.event.Step.TheVariants.{Outer, Unit as AUnit, Idle}
use Rattle.script_texts.specs.RecordLines.{run}
use Rattle.event_items.specs.Giving.{Standing}
use Rattle.record_reader.specs.Order.{FitsCount, turns_on}
use Rattle.record_reader.specs.declared.reader.NextStep.{NextStep}
use Rattle.record_reader.specs.declared.reader.NextStep.TheVariants as answers
use Rattle.record_player.specs.declared.halt.Halt.{Halt}
use Rattle.record_player.specs.declared.halt.Halt.TheVariants.{Illegal as HaltIllegal, Fault}
use Rattle.record_player.specs.declared.replay_end.ReplayEnd.{ReplayEnd}
use Rattle.record_player.specs.declared.replay_end.ReplayEnd.TheVariants.{Illegal, WriteFault}
use Rattle.record_player.specs.declared.stage.Stage.{Stage}
use Rattle.record_player.specs.Stages.{Halts, StoppedBy}

-- how many entries a line tells
pub few_counted : (s : Step) (n : ℕ) → FitsCount s n → n ≤ turns_on (run s n) + 1
few_counted (Outer e) n one = omega (arith, one)
few_counted (AUnit f) n fits = omega arith
few_counted Idle n fits = omega arith

module _ {P T : Type 0} {b : _} (fault_count : T → ℕ) (stands cut : Standing T) (m m' : Stage P b) (out out' : T) (step : Step) (count : ℕ) where
  pub few_done : (why : Halt) → why ≡ HaltIllegal → Halts fault_count stands cut m m' out out' step count why → m.done + count ≤ 2 ^ 51 → m'.done ≤ 2 ^ 51
  few_done HaltIllegal is halts few = omega (arith, halts.gives.count, halts.fewer, length-replicate halts.played step, few)
  few_done Fault is halts few = absurd (cc is)

  pub halted : (next : NextStep) (why : Halt) (how : ReplayEnd) → next ≡ answers.Run step count → (why ≡ HaltIllegal → how ≡ Illegal (m'.done + 1)) → (why ≡ Fault → how ≡ WriteFault) → Halts fault_count stands cut m m' out out' step count why
      → StoppedBy fault_count stands cut m m' out out' next how
  halted next HaltIllegal how same illegal fault halts = subst (StoppedBy fault_count stands cut m m' out out' next) (sym (illegal refl)) (record { step = step; count = count; same = same; breaks = halts; numbered = refl })
  halted next Fault how same illegal fault halts = subst (StoppedBy fault_count stands cut m m' out out' next) (sym (fault refl)) (record { step = step; count = count; same = same; fails = halts })
