-- A record that is read in pieces: what was taken of it and not yet given, and which lines were read.
use Rattle.std.specs.Prelude.{◌≡◌, ℕ, ◌+◌, ◌-◌, ◌≤◌, List, [], ◌∷◌, ◌++◌, length, map, Option, None, Some}
use Rattle.line_buffer.specs.Feeds.{IsLeft, StopsWithin}
use Rattle.script_texts.specs.Script.{most_turns}
use Rattle.script_texts.specs.RecordLines.{RecordLine, version, run, counts, said, said_all}
use Rattle.record_reader.specs.Order.{AreRecordLines, GoesOnWith, MayFollow, last_line, turns_on, turns_on_all}
use Rattle.record_reader.specs.Verdicts.{IsBadBehind, IsLongBehind, Verdict, whole, bad, too_long, most_record_bytes}
use Rattle.record_reader.specs.OneLine.{told, told_last}
use Rattle.record_reader.specs.declared.whole_reading.WholeReading.{WholeReading}
use Rattle.record_reader.specs.declared.reader.RecordReader.{RecordReader}
use Rattle.record_reader.specs.declared.reader.Reading.TheVariants.{Open}
use Rattle.record_reader.specs.declared.reader.Line.{Line}
use Rattle.record_reader.specs.declared.reader.Line.TheVariants.{One, Bad as BadLine, Long as LongLine, End as NoLine, Fault}
use Rattle.record_reader.specs.declared.reader.NextStep.{NextStep}
use Rattle.record_reader.specs.declared.reader.NextStep.TheVariants.{Size, Run, Counts, End, Bad, Long, ReadFault}

-- the bytes that were taken from the source and not yet given
abbrev pub pending : RecordReader → List ℕ
pending r = r.buffer

-- how many more bytes may be given
abbrev pub room_left : RecordReader → ℕ
room_left r = most_record_bytes - r.passed.bytes

-- no answer was the last
abbrev pub IsOpen : RecordReader → Type 0
IsOpen r = r.stage ≡ Open

-- these are the lines that were read
pub record HasRead (r : RecordReader) (read : List RecordLine) : Type 0 where
  pub bytes : r.passed.bytes ≡ length (said_all read)
  pub lines : r.passed.lines ≡ length read
  pub turns : r.passed.turns ≡ turns_on_all read
  pub last : told_last r.last ≡ last_line read
  pub right : AreRecordLines read
  pub short : length (said_all read) ≤ most_record_bytes

-- the line that an answer gives
abbrev pub line_given : NextStep → Option RecordLine
line_given (Size pages) = Some (version pages)
line_given (Run s n) = Some (run s n)
line_given (Counts reads writes) = Some (counts reads writes)
line_given answer = None

-- and how the reading ends by an answer that gives none, but for a failed read
abbrev pub verdict_given : NextStep → Option Verdict
verdict_given End = Some whole
verdict_given (Bad n) = Some (bad n)
verdict_given Long = Some too_long
verdict_given answer = None

-- what the bytes are up to which a source was read for this answer: where it failed, the beginning of a line, within the limit
abbrev pub IsReadFor : ℕ → NextStep → List ℕ → Type 0
IsReadFor room ReadFault bytes = StopsWithin 0 room bytes
IsReadFor room answer bytes = Unit {0}

-- a text began with this line; what stands behind it is left
abbrev pub TakesFront : {S : Type 0} → (S → Option (List ℕ)) → RecordReader → S → RecordLine → List ℕ → Type 0
TakesFront left new s' l xs = (rest : List ℕ) × (xs ≡ said l ++ 10 ∷ rest) × IsLeft left (pending new) s' rest

-- This line goes on with the lines that were read, whichever these are, and is one of them now.
pub record Advances (old new : RecordReader) (l : RecordLine) : Type 0 where
  pub goes_on : (read : List RecordLine) → HasRead old read → GoesOnWith read l
  pub has_read : (read : List RecordLine) → HasRead old read → HasRead new (read ++ l ∷ [])

-- A line may stand behind the last one, and its turns are not too many behind those before it.
abbrev pub GoesOnBehind : RecordReader → RecordLine → Type 0
GoesOnBehind r l = MayFollow (told_last r.last) l × (r.passed.turns + turns_on l ≤ most_turns)

-- Whatever the source tells behind these bytes, they go on with a bad line.
abbrev pub FrontIsBad : List RecordLine → List ℕ → Type 0
FrontIsBad read held = (told : List ℕ) → IsBadBehind read (held ++ told)

-- Whatever the source tells behind these bytes, they pass the limit.
abbrev pub FrontIsLong : List RecordLine → List ℕ → Type 0
FrontIsLong read held = (told : List ℕ) → IsLongBehind read (held ++ told)

-- what the bytes are up to which a source was read for this line
abbrev pub IsReadBy : ℕ → Line → List ℕ → Type 0
IsReadBy room Fault bytes = StopsWithin 0 room bytes
IsReadBy room line bytes = Unit {0}

-- a line behind which none is given, but not the end
abbrev pub IsFinal : Line → Type 0
IsFinal (One said) = ⊥
IsFinal BadLine = Unit {0}
IsFinal LongLine = Unit {0}
IsFinal NoLine = ⊥
IsFinal Fault = Unit {0}

-- A text, where the source tells it, began with the lines that were read, and what stands behind them is left.
pub record StandsIn {S : Type 0} (left : S → Option (List ℕ)) (text : List ℕ) (r : RecordReader) (s : S) (read : List RecordLine) : Type 0 where
  pub has : HasRead r read
  pub rest : List ℕ
  pub text_is : text ≡ said_all read ++ rest
  pub behind : IsLeft left (pending r) s rest

-- the lines of a record that was read to its end
abbrev pub lines_read : WholeReading → List RecordLine
lines_read reading = map told reading.lines.items
