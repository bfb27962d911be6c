-- A change of a call on maps, made on pages of which some may be in no frame.
use Rattle.std.specs.Prelude.{◌≡◌, ℕ, List, Option, None, Some, Result, Ok, Err}
use Rattle.page_contracts.specs.declared.answers.Need.{Need}
use Rattle.call_turns.specs.declared.answer.Answer.{Answer}
use Rattle.call_turns.specs.declared.turn.Grant.{Grant}
use Rattle.plain_model.specs.declared.call.End.{End}
use Rattle.plain_model.specs.declared.call.End.TheVariants.{Done}
use Rattle.plain_model.specs.declared.call.MapChange.TheVariants.{Nothing, Unmap, Follow, Narrow, Map, Put, Drop}
use Rattle.plain_model.specs.Calls.{Turn, turn_on}
use Rattle.plain_model.specs.declared.call.MapChange.{MapChange}
use Rattle.plain_model.specs.MapCalls.{map_changed}
use Rattle.page_contracts.specs.DrumWords.{DrumWords}
use Rattle.plain_pages.specs.PlainPages.{NumberedPages}
use Rattle.page_contracts.specs.Pages.{Scene, PagesMeaning}
use Rattle.machine_names.specs.declared.names.Tty.{Tty}
use Rattle.file_tables.specs.declared.tables.FileTables.{FileTables}
use Rattle.call_turns.specs.Answers.{IsTurn}
use Rattle.call_turns.specs.Granting.{pages_granted}
use Rattle.call_turns.specs.Telling.{entry_need}
use Rattle.call_turns.specs.Needing.{NoSteps, OneTouchNeeds, TurnNeeds}
use Rattle.file_tables.specs.Keys.{key_of, seen_in}

-- what a change needs: the map of the slot whose entry it sets
abbrev pub change_need : Scene → NumberedPages → MapChange → Option Need
change_need scene p Nothing = None
change_need scene p (Unmap s) = entry_need scene p s
change_need scene p (Follow s other access) = entry_need scene p s
change_need scene p (Narrow s access) = entry_need scene p s
change_need scene p (Map s name page access) = entry_need scene p s
change_need scene p (Put name page s) = None
change_need scene p (Drop name page) = None

-- what an end needs for its change
abbrev pub EndNeeds : Scene → NumberedPages → End MapChange → Need → Type 0
EndNeeds scene p (Done change regs out post) n = change_need scene p change ≡ Some n
EndNeeds scene p e n = ⊥

-- WHAT A TURN OF A CALL ON MAPS NEEDS FIRST
abbrev pub MapNeeds : FileTables → Scene → NumberedPages → Turn (List ℕ) MapChange → Need → Type 0
MapNeeds tables scene p t n = TurnNeeds (seen_in tables) NoSteps OneTouchNeeds EndNeeds scene p t n

-- it is made, or a map has to come into core first, and nothing changes
abbrev pub IsMade : {A : Type 0} → NumberedPages → NumberedPages → Result A Need → Option Need → NumberedPages → Type 0
IsMade old new (Ok done) need whole = new ≡ whole
IsMade old new (Err n) need whole = (new ≡ old) × (need ≡ Some n)

-- the same over each drum that fits
abbrev pub Makes : {P A : Type 0} → PagesMeaning P → P → P → Result A Need → (Scene → NumberedPages → Option Need) → (NumberedPages → NumberedPages) → Type 0
Makes means old new result needs changes =
    (d : DrumWords) → means.fits old d → means.fits new d × IsMade (means.plain old d) (means.plain new d) result (needs (means.scene old) (means.plain old d)) (changes (means.plain old d))

-- the end of a turn of an owner, behind what was granted: its change is made, or needs something first
abbrev pub Ends : {P : Type 0} → PagesMeaning P → FileTables → Tty → Grant → P → P → Answer → End MapChange → Type 0
Ends means tables owner g old new answer e =
    (d : DrumWords) → means.fits old d
    → means.fits new d × IsTurn (EndNeeds (means.scene old) (means.plain old d) e) (map_changed (key_of tables)) (means.plain old d) (pages_granted (means.plain old d) owner g) (means.plain new d) answer e

-- a turn of a call on maps comes out over the plain pages as it does here
abbrev pub ComesOut : FileTables → Scene → NumberedPages → NumberedPages → Answer → Turn (List ℕ) MapChange → Type 0
ComesOut tables scene old new answer t =
    let c = turn_on (seen_in tables) old t in IsTurn (MapNeeds tables scene old t) (map_changed (key_of tables)) old c.pages new answer c.end

-- a turn of a call on maps, over each drum that fits: it goes as the plain turn, or needs first what the first of its steps
-- needs that needs something
abbrev pub Turns : {P : Type 0} → PagesMeaning P → FileTables → P → P → Answer → Turn (List ℕ) MapChange → Type 0
Turns means tables old new answer t =
    (d : DrumWords) → means.fits old d → means.fits new d × ComesOut tables (means.scene old) (means.plain old d) (means.plain new d) answer t
