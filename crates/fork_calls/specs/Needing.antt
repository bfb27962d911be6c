-- What a turn of a fork call needs first of pages of which some are in no frame.
use Rattle.std.specs.Prelude.{◌≡◌, ℕ, ◌+◌}
use Rattle.plain_model.specs.declared.call.End.{End}
use Rattle.plain_model.specs.declared.call.End.TheVariants.{Done}
use Rattle.plain_model.specs.declared.call.ForkChange.{ForkChange}
use Rattle.plain_model.specs.declared.call.ForkChange.TheVariants.{Kill}
use Rattle.page_contracts.specs.declared.answers.Need.{Need}
use Rattle.page_contracts.specs.declared.answers.Need.TheVariants as need
use Rattle.machine_names.specs.declared.names.ForkName.{ForkName}
use Rattle.plain_model.specs.Calls.{Turn, no_files}
use Rattle.plain_units.specs.declared.registers.Regs.{Regs}
use Rattle.plain_pages.specs.PlainPages.{NumberedPages}
use Rattle.plain_model.specs.Forks.{ForkMap}
use Rattle.page_contracts.specs.Pages.{Scene}
use Rattle.plain_units.specs.Steps.{Steps, Ending, begun, stopped, need as needs}
use Rattle.call_turns.specs.Needing.{NoTouches, TurnNeeds as NeedsOf}
use Rattle.job_forks.specs.Killing.{IsKilledAway}
use Rattle.ka10_unit.specs.Gathers.{Framed}
use Rattle.ka10_unit.specs.Taking.{most_frames, read_frames, run_over}

-- a change needs what a kill does
abbrev pub ChangeNeeds : Scene → ForkMap → ForkChange → Need → Type 0
ChangeNeeds scene forks (Kill name) n = IsKilledAway scene forks name n
ChangeNeeds scene forks what n = ⊥

-- and so does an end
abbrev pub EndNeeds : Scene → ForkMap → End ForkChange → Need → Type 0
EndNeeds scene forks (Done what regs out post) n = ChangeNeeds scene forks what n
EndNeeds scene forks e n = ⊥

-- what the end of a turn needs on these pages
abbrev pub ForkEndNeeds : ForkMap → Scene → NumberedPages → End ForkChange → Need → Type 0
ForkEndNeeds forks scene p e n = EndNeeds scene forks e n

-- what references need; behind its words no fork call needs anything
abbrev pub WordsNeed : Scene → NumberedPages → ForkName → Regs → Steps → (Scene → NumberedPages → Ending → Type 0) → Need → Type 0
WordsNeed scene p f regs steps later n = run_over f (record { pages = p; scene = scene }) steps (begun p regs.ac) ≡ stopped (needs n)

-- WHAT A TURN NEEDS FIRST: a frame for a new map, what its references need, with the new map there, or the maps of forks that are killed
abbrev pub TurnNeeds : Framed → ForkMap → Turn ⊥ ForkChange → Need → Type 0
TurnNeeds p forks t n = NeedsOf no_files WordsNeed NoTouches (ForkEndNeeds forks) p.scene p.pages t n

-- how many frames the making of a fork may want: those of the words that it reads, and one for the map
abbrev pub making_frames : ℕ
making_frames = read_frames + 1

-- and any call: one that stores words in its caller's pages wants most
abbrev pub call_frames : ℕ
call_frames = most_frames
