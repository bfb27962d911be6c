-- A turn of a call on pseudo-interrupts, over forks, the codes of the job that calls, and pages.
use Rattle.std.specs.Prelude.{◌≡◌, ℕ}
use Rattle.std.specs.FinMap as map
use Rattle.std.specs.Option.{option_map_or}
use Rattle.std.specs.Ordering.{nat_cmp}
use Rattle.machine_names.specs.declared.names.Tty.{Tty}
use Rattle.machine_names.specs.Orders.{name_cmp}
use Rattle.page_contracts.specs.declared.answers.Need.{Need}
use Rattle.page_contracts.specs.DrumWords.{DrumWords}
use Rattle.page_contracts.specs.Pages.{PagesMeaning, Scene}
use Rattle.plain_files.specs.Sizes.{PlainFile}
use Rattle.plain_pages.specs.PlainPages.{NumberedPages}
use Rattle.plain_typing.specs.Lines.{Codes, InputLine}
use Rattle.plain_model.specs.declared.call.End.{End}
use Rattle.plain_model.specs.declared.call.InterruptChange.{InterruptChange}
use Rattle.plain_model.specs.Calls.{no_files, parts_behind, turn_on, Turn}
use Rattle.plain_model.specs.Families.{Parts, interrupts_changed}
use Rattle.plain_model.specs.FileCalls.{Jobs}
use Rattle.plain_model.specs.InterruptCalls.{with_codes_of}
use Rattle.plain_model.specs.Trees.{PlainTree}
use Rattle.call_turns.specs.declared.answer.Answer.{Answer}
use Rattle.call_turns.specs.declared.answer.Answer.TheVariants.{After}
use Rattle.call_turns.specs.Answers.{IsTurn}
use Rattle.call_turns.specs.Needing.{TurnNeeds, NoTouches}
use Rattle.text_pointers.specs.Needing.{StepsNeed}
use Rattle.text_pointers.specs.Reading.{text_frames}

-- the files by name
abbrev pub FileMap : Type 0
FileMap = map.FinMap name_cmp PlainFile

-- the forks, the files, the jobs, the clock and the pages
abbrev pub parts : PlainTree → FileMap → Jobs → ℕ → NumberedPages → Parts nat_cmp
parts tree files jobs clock p = record { tree = tree; pages = p; files = files; jobs = jobs; clock = clock }

-- the codes that the job at a terminal has assigned
abbrev pub codes_at : Jobs → Tty → Codes
codes_at jobs t = option_map_or (λ j. j.codes) (map.get jobs t.0) map.empty

-- the job at a terminal, if one is there, has the codes of a line
abbrev pub HasCodes : Jobs → Tty → InputLine → Type 0
HasCodes jobs t line = codes_at jobs t ≡ line.codes

-- the jobs, where that at a terminal has the codes of a line; all else is as it was
abbrev pub jobs_with : Jobs → Tty → InputLine → Jobs
jobs_with jobs t line = with_codes_of jobs t (λ old. line.codes)

-- ---- changes and ends

-- a change was made, over all jobs of which that at a terminal has these codes; no page is changed
abbrev pub Changes : PlainTree → PlainTree → InputLine → InputLine → Tty → InterruptChange → Type 0
Changes tree tree' line line' t what =
    (files : FileMap) (jobs : Jobs) (clock : ℕ) (p : NumberedPages) → HasCodes jobs t line → parts tree' files (jobs_with jobs t line') clock p ≡ interrupts_changed what (parts tree files jobs clock p)

-- a turn that reads no word ended so: its change was made, if it is done
abbrev pub EndsOver : PlainTree → PlainTree → InputLine → InputLine → Tty → End InterruptChange → Type 0
EndsOver tree tree' line line' t e =
    (files : FileMap) (jobs : Jobs) (clock : ℕ) (p : NumberedPages) → HasCodes jobs t line
    → parts tree' files (jobs_with jobs t line') clock p ≡ parts_behind interrupts_changed (parts tree files jobs clock p) (parts tree files jobs clock p) e

-- a turn that isn't done leaves forks and codes as they were
abbrev pub StaysPut : PlainTree → PlainTree → InputLine → InputLine → Answer → Type 0
StaysPut tree tree' line line' (After regs out post) = Unit {0}
StaysPut tree tree' line line' answer = (tree' ≡ tree) × (line' ≡ line)

-- and pages
abbrev pub Stays : {P : Type 0} → P → P → PlainTree → PlainTree → InputLine → InputLine → Answer → Type 0
Stays old new tree tree' line line' (After regs out post) = Unit {0}
Stays old new tree tree' line line' answer = (new ≡ old) × (tree' ≡ tree) × (line' ≡ line)

-- ---- turns

-- a change of a call on pseudo-interrupts needs nothing
abbrev pub NoNeeds : Scene → NumberedPages → End InterruptChange → Need → Type 0
NoNeeds scene p e n = ⊥

-- WHAT A TURN OF A CALL ON PSEUDO-INTERRUPTS NEEDS FIRST: what its references need, each on the pages that those before it leave
abbrev pub PsiNeeds : Scene → NumberedPages → (Turn ⊥ InterruptChange) → Need → Type 0
PsiNeeds scene p t n = TurnNeeds no_files StepsNeed NoTouches NoNeeds scene p t n

-- a turn comes out over the plain pages as it does here
abbrev pub ComesOut : Scene → Parts nat_cmp → Parts nat_cmp → Answer → (Turn ⊥ InterruptChange) → Type 0
ComesOut scene v new result t =
    let c = turn_on no_files v.pages t in
    IsTurn (PsiNeeds scene v.pages t) interrupts_changed v (record v { pages = c.pages }) new result c.end

-- A TURN OF A CALL, over each drum that fits, all files, each clock, and all jobs of which the caller's has these codes: its answer is that of its end,
-- and what it leaves is what that leaves, with no file and no other job changed; or it needs something first, and leaves all as it was
pub record Turned {P : Type 0} (means : PagesMeaning P) (old new : P) (tree tree' : PlainTree) (line line' : InputLine) (t : Tty) (result : Answer) (turn : Turn ⊥ InterruptChange) : Type 0 where
  pub fits : (d : DrumWords) → means.fits old d → means.fits new d
  pub comes : (d : DrumWords) (files : FileMap) (jobs : Jobs) (clock : ℕ) → means.fits old d → HasCodes jobs t line
      → ComesOut (means.scene old) (parts tree files jobs clock (means.plain old d)) (parts tree' files (jobs_with jobs t line') clock (means.plain new d)) result turn

-- how many frames a turn may want: one for each of the two words that DEBRK reads; no more than the reading of a text
abbrev pub psi_frames : ℕ
psi_frames = text_frames
