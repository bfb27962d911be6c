-- Which lines a record may have, and which may stand behind which.
use Rattle.std.specs.Prelude.{◌≡◌, ℕ, ◌+◌, ◌^◌, ◌<◌, ◌≤◌, List, [], ◌∷◌, false, Option, None, Some}
use Rattle.outside.specs.declared.TheConstants.{MOST_DRUM_PAGES}
use Rattle.script_texts.specs.declared.event.Step.{Step}
use Rattle.script_texts.specs.declared.event.Step.TheVariants.{Outer}
use Rattle.script_texts.specs.Limits.{FitsStep}
use Rattle.script_texts.specs.Script.{most_turns}
use Rattle.script_texts.specs.Texts.{same_turn}
use Rattle.script_texts.specs.RecordLines.{RecordLine, version, run, counts}

-- how many turns a line has
abbrev pub turns_on : RecordLine → ℕ
turns_on (run (Outer e) n) = 0
turns_on (run s n) = n
turns_on line = 0

-- and how many lines have in all
abbrev pub turns_on_all : List RecordLine → ℕ
turns_on_all [] = 0
turns_on_all (l ∷ ls) = turns_on l + turns_on_all ls

-- how many entries a line may have: an event is one
abbrev pub FitsCount : Step → ℕ → Type 0
FitsCount (Outer e) n = n ≡ 1
FitsCount s n = (1 ≤ n) × (n ≤ most_turns)

-- the numbers of a line are within their limits
abbrev pub FitsLine : RecordLine → Type 0
FitsLine (version pages) = (256 ≤ pages) × (pages ≤ MOST_DRUM_PAGES)
FitsLine (run s n) = FitsStep s × FitsCount s n
FitsLine (counts reads writes) = (reads < 2 ^ 64) × (writes < 2 ^ 64)

-- which line may stand behind another, or first: nothing behind the counts, the version only first, and no turns behind equal ones
abbrev pub MayFollow : Option RecordLine → RecordLine → Type 0
MayFollow None line = Unit {0}
MayFollow (Some (counts reads writes)) line = ⊥
MayFollow (Some before) (version pages) = ⊥
MayFollow (Some (run s n)) (run t m) = same_turn s t ≡ false
MayFollow (Some before) line = Unit {0}

-- lines that fit, each where it may stand, behind one that came before, if one did
abbrev pub AreInOrder : Option RecordLine → List RecordLine → Type 0
AreInOrder before [] = Unit {0}
AreInOrder before (l ∷ ls) = FitsLine l × MayFollow before l × AreInOrder (Some l) ls

-- lines of a record, as far as they go: in order, and of no more turns than a script may ask for
pub record AreRecordLines (lines : List RecordLine) : Type 0 where
  pub in_order : AreInOrder None lines
  pub few : turns_on_all lines ≤ most_turns

-- the last of some lines
abbrev pub last_line : List RecordLine → Option RecordLine
last_line [] = None
last_line (l ∷ []) = Some l
last_line (l ∷ m ∷ ls) = last_line (m ∷ ls)

-- a line goes on with a record of which these lines were read
pub record GoesOnWith (read : List RecordLine) (l : RecordLine) : Type 0 where
  pub fits : FitsLine l
  pub follows : MayFollow (last_line read) l
  pub few : turns_on_all read + turns_on l ≤ most_turns
