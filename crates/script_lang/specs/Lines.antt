-- A script that is read in pieces: what was taken of it and not yet given, and how far it is given.
use Rattle.std.specs.Prelude.{◌≡◌, ℕ, ◌+◌, ◌<◌, ◌≤◌, List, [], ◌∷◌, ◌++◌, length, Option}
use Rattle.script_texts.specs.declared.event.Event.{Event}
use Rattle.script_texts.specs.Script.{AreLines, Gives, HasNoFeed, IsBadRest, IsBlank, IsLongRest, most_bytes, most_turns}
use Rattle.line_buffer.specs.Feeds.{IsLeft}
use Rattle.script_lang.specs.declared.lines.Lines.{Lines}
use Rattle.script_lang.specs.declared.lines.Next.{Next}
use Rattle.script_lang.specs.declared.lines.Next.TheVariants.{ReadFault}
use Rattle.script_lang.specs.declared.lines.Reading.TheVariants.{Open}
use Rattle.line_buffer.specs.declared.buffer.TheConstants.{MOST_LINE}
use Rattle.script_lang.specs.declared.lines.Line.{Line}
use Rattle.script_lang.specs.declared.lines.Line.TheVariants.{One, Blank, Bad, Long, End, Fault}

-- the bytes that were taken from the source and not yet given
abbrev pub pending : Lines → List ℕ
pending l = l.buffer

-- how many bytes were given as lines
abbrev pub given : Lines → ℕ
given l = l.reached.bytes

-- how many lines were given
abbrev pub lines_given : Lines → ℕ
lines_given l = l.reached.lines

-- how many turns the events that were given ask for
abbrev pub turns_given : Lines → ℕ
turns_given l = l.reached.turns

-- no answer was the last
abbrev pub IsOpen : Lines → Type 0
IsOpen l = l.stage ≡ Open

-- Behind so many bytes these are whole lines that give no event, and the beginning of one more, within
-- the limit: what comes next is not known.
pub record IsUndecided (before : ℕ) (bytes : List ℕ) : Type 0 where
  pub front : List ℕ
  pub rest : List ℕ
  pub count : ℕ
  pub whole : bytes ≡ front ++ rest
  pub lines : AreLines front count []
  pub plain : HasNoFeed rest
  pub within : before + length bytes ≤ most_bytes

-- what comes next is not known before more is read
abbrev pub NeedsRead : Lines → Type 0
NeedsRead l = IsUndecided (given l) (pending l)

-- what the bytes are up to which a source was read for this answer, behind so many
abbrev pub IsReadFor : ℕ → Next → List ℕ → Type 0
IsReadFor before ReadFault bytes = IsUndecided before bytes
IsReadFor before answer bytes = Unit {0}

-- what is left of a script: what is pending, and behind it what the source tells
abbrev pub IsRest : {S : Type 0} → (S → Option (List ℕ)) → Lines → S → List ℕ → Type 0
IsRest left l s xs = IsLeft left (pending l) s xs

-- A text began with whole lines that give these events; what stands behind them is left, and the
-- counts have grown by them.
pub record TakesFront {S : Type 0} (left : S → Option (List ℕ)) (old new : Lines) (s' : S) (events : List Event) (xs : List ℕ) : Type 0 where
  pub front : List ℕ
  pub rest : List ℕ
  pub count : ℕ
  pub whole : xs ≡ front ++ rest
  pub behind : IsRest left new s' rest
  pub lines : AreLines front count events
  pub more_lines : lines_given new ≡ lines_given old + count
  pub more_bytes : given new ≡ given old + length front

-- Whatever was left began with whole lines that give these events, and has lost them.
pub record Takes {S : Type 0} (left : S → Option (List ℕ)) (old new : Lines) (s s' : S) (events : List Event) : Type 0 where
  pub each : (xs : List ℕ) → IsRest left old s xs → TakesFront left old new s' events xs

-- These bytes began with whole lines that give these events, and what stands behind them is pending; the
-- counts have grown by them.
pub record GivesFront (old new : Lines) (events : List Event) (bytes : List ℕ) : Type 0 where
  pub front : List ℕ
  pub count : ℕ
  pub whole : bytes ≡ front ++ pending new
  pub lines : AreLines front count events
  pub more_lines : lines_given new ≡ lines_given old + count
  pub more_bytes : given new ≡ given old + length front

-- Lines without an event were passed over, and nothing else has changed.
pub record Skips (old new : Lines) : Type 0 where
  pub blank : GivesFront old new [] (pending old)
  pub short : given new ≤ most_bytes
  pub turns : turns_given new ≡ turns_given old
  pub stage : new.stage ≡ old.stage

-- The counts behind a line that was given and asks for so many turns, whatever the source tells.
pub record Advances (old new : Lines) (turns : ℕ) : Type 0 where
  pub further : given old < given new
  pub short : given new ≤ most_bytes
  pub counted : lines_given new ≤ given new
  pub more_turns : turns_given new ≡ turns_given old + turns
  pub few : turns_given new ≤ most_turns

-- The line at the front of what is pending gave these events, and stands there no more.
pub record GivesLine (old new : Lines) (events : List Event) : Type 0 where
  pub line : List ℕ
  pub whole : pending old ≡ line ++ 10 ∷ pending new
  pub gives : Gives line events
  pub more_lines : lines_given new ≡ lines_given old + 1
  pub more_bytes : given new ≡ given old + (length line + 1)

-- Whatever the source tells behind these bytes, they begin with a bad line.
abbrev pub FrontIsBad : ℕ → ℕ → List ℕ → Type 0
FrontIsBad before so_far held = (told : List ℕ) → IsBadRest before so_far (held ++ told)

-- Whatever the source tells behind these bytes, they pass the limit.
abbrev pub FrontIsLong : ℕ → List ℕ → Type 0
FrontIsLong before held = (told : List ℕ) → IsLongRest before (held ++ told)

-- what the bytes are up to which a source was read for this line
abbrev pub IsReadBy : Lines → Lines → Line → List ℕ → Type 0
IsReadBy old new (One event) bytes = GivesFront old new (event ∷ []) bytes
IsReadBy old new Blank bytes = GivesFront old new [] bytes
IsReadBy old new Fault bytes = IsUndecided (given old) bytes
IsReadBy old new line bytes = Unit {0}

-- behind so many bytes this line gives no event and ends within the limit
abbrev pub IsPassedOver : ℕ → List ℕ → Type 0
IsPassedOver before line = IsBlank line × (length line ≤ MOST_LINE) × (before + length line < most_bytes)

-- a line behind which none is given, but not the end
abbrev pub IsFinal : Line → Type 0
IsFinal (One event) = ⊥
IsFinal Blank = ⊥
IsFinal Bad = Unit {0}
IsFinal Long = Unit {0}
IsFinal End = ⊥
IsFinal Fault = Unit {0}

-- Behind so many bytes a text is whole lines that give no event, and is short enough.
pub record IsDone (before : ℕ) (xs : List ℕ) : Type 0 where
  pub count : ℕ
  pub lines : AreLines xs count []
  pub short : before + length xs ≤ most_bytes

-- Behind so many bytes, turns and lines a text is lines that give no event, and then the bad line of
-- this number.
pub record Breaks (before so_far passed number : ℕ) (xs : List ℕ) : Type 0 where
  pub front : List ℕ
  pub rest : List ℕ
  pub count : ℕ
  pub whole : xs ≡ front ++ rest
  pub lines : AreLines front count []
  pub numbered : number ≡ passed + count + 1
  pub bad : IsBadRest (before + length front) so_far rest

-- Behind so many bytes a text is lines that give no event, and then passes the limit.
pub record Passes (before : ℕ) (xs : List ℕ) : Type 0 where
  pub front : List ℕ
  pub rest : List ℕ
  pub count : ℕ
  pub whole : xs ≡ front ++ rest
  pub lines : AreLines front count []
  pub long : IsLongRest (before + length front) rest
