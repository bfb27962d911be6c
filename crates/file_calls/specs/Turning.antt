-- A turn of a call on JFNs, over files, jobs and pages.
use Rattle.std.specs.Prelude.{◌≡◌}
use Rattle.std.specs.Ordering.{nat_cmp}
use Rattle.page_contracts.specs.declared.answers.Need.{Need}
use Rattle.page_contracts.specs.DrumWords.{DrumWords}
use Rattle.page_contracts.specs.Pages.{PagesMeaning}
use Rattle.plain_units.specs.Deeds.{in_ac}
use Rattle.plain_units.specs.Steps.{need}
use Rattle.plain_model.specs.declared.call.End.{End}
use Rattle.plain_model.specs.declared.call.End.TheVariants.{Done}
use Rattle.plain_model.specs.declared.call.FileChange.{FileChange}
use Rattle.plain_model.specs.Calls.{Turn, parts_behind, turn_on}
use Rattle.plain_model.specs.FileCalls.{FileParts, JfnAsked, Jobs, file_changed}
use Rattle.plain_model.specs.PointedTexts.{text_at}
use Rattle.call_turns.specs.declared.answer.Answer.{Answer}
use Rattle.call_turns.specs.declared.answer.Answer.TheVariants.{After}
use Rattle.call_turns.specs.Answers.{IsDone, IsTurn, answer_of}
use Rattle.ka10_unit.specs.Gathers.{Framed, framed}
use Rattle.text_pointers.specs.Outcomes.{read_over, stops}
use Rattle.file_tables.specs.declared.tables.FileTables.{FileTables}
use Rattle.file_tables.specs.Tables.{open_of}
use Rattle.file_tables.specs.Keys.{key_of}
use Rattle.file_calls.specs.Asking.{names_of, parts}
use Rattle.file_calls.specs.Changing.{DirFollows}
use Rattle.file_calls.specs.Jobs.{AreHeld}

-- WHAT A TURN NEEDS FIRST: what the reading of the text in accumulator 2 does
abbrev pub TextNeeds : Framed → JfnAsked → Need → Type 0
TextNeeds p a n = read_over a.who p a.regs (text_at a.regs (in_ac a.regs 2)) p.pages ≡ stops (need n)

-- a turn comes out over the plain pages as it does here
abbrev pub ComesOut : Framed → Jobs → FileTables → JfnAsked → FileParts nat_cmp → Answer → Turn ⊥ FileChange → Type 0
ComesOut p jobs tables a new result t =
    let c = turn_on (names_of tables) p.pages t in
    IsTurn (TextNeeds p a) (file_changed (key_of tables)) (parts jobs tables p.pages) (parts jobs tables c.pages) new result c.end

-- the names of files and their numbers behind a turn that ends so
abbrev pub EndFollows : FileTables → FileTables → End FileChange → Type 0
EndFollows old new (Done what regs out post) = DirFollows old new what
EndFollows old new e = new ≡ old

-- what is left by a turn that ends so: what it makes, where it is done, and else what was there
abbrev pub behind_end : {A : Type 0} → End FileChange → A → A → A
behind_end (Done what regs out post) old made = made
behind_end e old made = old

-- a turn that isn't done leaves all as it was
abbrev pub Stays : {P : Type 0} → P → P → FileTables → FileTables → Answer → Type 0
Stays old new tables tables' (After regs out post) = Unit {0}
Stays old new tables tables' answer = (new ≡ old) × (tables' ≡ tables)

-- a turn ended so: over each drum that fits, and all jobs with these JFNs, its change is made, if it is done
pub record EndsOver {P : Type 0} (means : PagesMeaning P) (old new : P) (tables tables' : FileTables) (e : End FileChange) : Type 0 where
  pub fits : (d : DrumWords) → means.fits old d → means.fits new d
  pub left : (d : DrumWords) (jobs : Jobs) → means.fits old d → AreHeld jobs (open_of tables)
      → let v = parts jobs tables (means.plain old d) in parts jobs tables' (means.plain new d) ≡ parts_behind (file_changed (key_of tables)) v v e
  pub numbers : EndFollows tables tables' e
  pub stays : Stays old new tables tables' (answer_of e)

-- A TURN OF A CALL, over each drum that fits and all jobs with these JFNs: its answer is that of its end, and what it leaves is what that
-- leaves; or it needs something first, and leaves all as it was
pub record Turned {P : Type 0} (means : PagesMeaning P) (old new : P) (tables tables' : FileTables) (a : JfnAsked) (result : Answer) (t : Turn ⊥ FileChange) : Type 0 where
  pub fits : (d : DrumWords) → means.fits old d → means.fits new d
  pub comes : (d : DrumWords) (jobs : Jobs) → means.fits old d → AreHeld jobs (open_of tables) → ComesOut (framed means old d) jobs tables a (parts jobs tables' (means.plain new d)) result t
  pub numbers : (d : DrumWords) → means.fits old d → IsDone result → EndFollows tables tables' (turn_on (names_of tables) (means.plain old d) t).end
