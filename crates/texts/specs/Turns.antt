-- Runs of equal turns.
use Rattle.std.specs.Prelude.{ℕ, Option, None, Some}
use Rattle.script_texts.specs.declared.event.Step.{Step}
use Rattle.script_texts.specs.declared.event.Step.TheVariants.{Unit as AUnit, Idle as AnIdle}
use Rattle.texts.specs.OpenRun.{OpenRun}
use Rattle.texts.specs.declared.turns.RunEntry.{RunEntry}
use Rattle.texts.specs.declared.turns.RunEntry.TheVariants.{Unit as UnitOf, Idle}
use Rattle.texts.specs.declared.turns.Turns.{Turns}

-- the step that a turn is
abbrev pub step_of : RunEntry → Step
step_of (UnitOf f) = AUnit f
step_of Idle = AnIdle

-- the run that is open: its turn, and how many they are
abbrev pub open_run : Option Turns → OpenRun
open_run None = None
open_run (Some turns) = Some (step_of turns.turn, turns.count)

-- how many turns the open run has
abbrev pub run_count : Option Turns → ℕ
run_count None = 0
run_count (Some turns) = turns.count
