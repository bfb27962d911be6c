-- A turn of a call on bytes, over files, the job that calls, and pages.
use Rattle.std.specs.Prelude.{◌≡◌, ◌≢◌, ℕ}
use Rattle.page_contracts.specs.declared.answers.Need.{Need}
use Rattle.page_contracts.specs.DrumWords.{DrumWords}
use Rattle.page_contracts.specs.Pages.{PagesMeaning, Scene}
use Rattle.machine_names.specs.declared.names.Tty.{Tty}
use Rattle.plain_pages.specs.PlainPages.{NumberedPages}
use Rattle.plain_typing.specs.Lines.{InputLine}
use Rattle.plain_model.specs.declared.call.ByteChange.{ByteChange}
use Rattle.plain_model.specs.declared.call.End.{End}
use Rattle.plain_model.specs.ByteCalls.{ByteTurn, byte_changed}
use Rattle.plain_model.specs.Calls.{turn_on}
use Rattle.plain_model.specs.FileCalls.{FileParts, Jobs}
use Rattle.std.specs.Ordering.{nat_cmp}
use Rattle.call_turns.specs.declared.answer.Answer.{Answer}
use Rattle.call_turns.specs.declared.answer.Answer.TheVariants.{After}
use Rattle.call_turns.specs.Answers.{IsTurn}
use Rattle.call_turns.specs.Needing.{OneTouchNeeds, TurnNeeds, NoSteps}
use Rattle.file_tables.specs.declared.tables.FileTables.{FileTables}
use Rattle.file_tables.specs.Tables.{jfns_at}
use Rattle.file_tables.specs.Keys.{key_of, seen_in}
use Rattle.file_bytes.specs.Asking.{HasLine, jobs_with, parts}

-- a change of a call on bytes needs nothing
abbrev pub NoNeeds : Scene → NumberedPages → End ByteChange → Need → Type 0
NoNeeds scene p e n = ⊥

-- WHAT A TURN OF A CALL ON BYTES NEEDS FIRST: the page of the byte that is read or written, or a frame for it
abbrev pub ByteNeeds : FileTables → Scene → NumberedPages → ByteTurn → Need → Type 0
ByteNeeds tables scene p t n = TurnNeeds (seen_in tables) NoSteps OneTouchNeeds NoNeeds scene p t n

-- what a turn needs first, in some sense of need
abbrev pub Needs : Type 1
Needs = Scene → NumberedPages → ByteTurn → Need → Type 0

-- a turn comes out over the plain pages as it does here
abbrev pub ComesOutBy : Needs → FileTables → Scene → Jobs → NumberedPages → FileParts nat_cmp → Answer → ByteTurn → Type 0
ComesOutBy needs tables scene jobs p new result t =
    let c = turn_on (seen_in tables) p t in
    IsTurn (needs scene p t) (byte_changed (key_of tables)) (parts jobs tables p) (parts jobs tables c.pages) new result c.end

abbrev pub ComesOut : FileTables → Scene → Jobs → NumberedPages → FileParts nat_cmp → Answer → ByteTurn → Type 0
ComesOut tables scene jobs p new result t = ComesOutBy (ByteNeeds tables) tables scene jobs p new result t

-- A TURN OF A CALL, over each drum that fits and all jobs of which the caller's has these JFNs and these characters: its answer is that of
-- its end, and what it leaves is what that leaves, with no other job changed; or it needs something first, and leaves all as it was
pub record TurnedBy {P : Type 0} (needs : Needs) (means : PagesMeaning P) (old new : P) (tables tables' : FileTables) (line line' : InputLine) (t : Tty) (result : Answer) (turn : NumberedPages → ByteTurn) : Type 0 where
  pub fits : (d : DrumWords) → means.fits old d → means.fits new d
  pub comes : (d : DrumWords) (jobs : Jobs) → means.fits old d → HasLine jobs t tables line
      → let p = means.plain old d in ComesOutBy needs tables (means.scene old) jobs p (parts (jobs_with jobs t tables' line') tables' (means.plain new d)) result (turn p)

abbrev pub Turned : {P : Type 0} → PagesMeaning P → P → P → FileTables → FileTables → InputLine → InputLine → Tty → Answer → (NumberedPages → ByteTurn) → Type 0
Turned means old new tables tables' line line' t result turn = TurnedBy (ByteNeeds tables) means old new tables tables' line line' t result turn

-- a turn that isn't done leaves all as it was
abbrev pub Stays : {P : Type 0} → P → P → FileTables → FileTables → InputLine → InputLine → Answer → Type 0
Stays old new tables tables' line line' (After regs out post) = Unit {0}
Stays old new tables tables' line line' answer = (new ≡ old) × (tables' ≡ tables) × (line' ≡ line)

-- all but the JFNs of the job at a terminal is as it was: the JFNs of every other job, the numbers of files, and the codes that are assigned
pub record OthersStay (t : Tty) (tables tables' : FileTables) (line line' : InputLine) : Type 0 where
  pub jfns : (u : ℕ) → u ≢ t.0 → jfns_at tables' u ≡ jfns_at tables u
  pub dir : tables'.dir ≡ tables.dir
  pub codes : line'.codes ≡ line.codes
