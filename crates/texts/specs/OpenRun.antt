-- The record as it is written, entry by entry, while a run of equal turns may be open.
use Rattle.std.specs.Prelude.{ℕ, ◌+◌, List, [], ◌∷◌, ◌++◌, Option, None, Some, if◌then◌else◌}
use Rattle.script_texts.specs.declared.event.Step.{Step}
use Rattle.script_texts.specs.declared.event.Step.TheVariants.{Outer}
use Rattle.script_texts.specs.Texts.{ended, line_of, run_line, same_turn}

-- the run of equal turns that is open, and how many they are
abbrev pub OpenRun : Type 0
OpenRun = Option (Step × ℕ)

-- the line of the run that is open
abbrev pub run_end : OpenRun → List ℕ
run_end None = []
run_end (Some r) = run_line r.0 r.1

-- one turn's bytes behind an open run
abbrev pub turn_text : OpenRun → Step → List ℕ
turn_text None s = []
turn_text (Some r) s = if same_turn r.0 s then [] else run_line r.0 r.1

-- the run that is open behind a turn
abbrev pub turn_run : OpenRun → Step → OpenRun
turn_run None s = Some (s, 1)
turn_run (Some r) s = if same_turn r.0 s then Some (s, r.1 + 1) else Some (s, 1)

-- one entry's bytes behind an open run
abbrev pub step_text : OpenRun → Step → List ℕ
step_text run (Outer e) = run_end run ++ ended (line_of e)
step_text run s = turn_text run s

-- the run that is open behind an entry
abbrev pub step_run : OpenRun → Step → OpenRun
step_run run (Outer e) = None
step_run run s = turn_run run s

-- the record of the steps that come while a run may be open, with the last run closed
abbrev pub record_after : OpenRun → List Step → List ℕ
record_after run [] = run_end run
record_after run (s ∷ ss) = step_text run s ++ record_after (step_run run s) ss
