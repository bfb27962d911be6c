-- What the reader of a record has answered last, behind lines that were read before.
use Rattle.std.specs.Prelude.{◌≡◌, ℕ, ◌+◌, ◌≤◌, List, [], ◌∷◌, ◌++◌, length, Option, None, Some}
use Rattle.outside.specs.Faults.{Rose}
use Rattle.script_texts.specs.RecordLines.{RecordLine, said_all}
use Rattle.record_reader.specs.Order.{AreRecordLines, GoesOnWith}
use Rattle.record_reader.specs.Reader.{HasRead, IsOpen, StandsIn, line_given, verdict_given}
use Rattle.record_reader.specs.Verdicts.{BeginsWith, ReadsAs, Verdict, most_record_bytes}
use Rattle.record_reader.specs.Versions.{size_told}
use Rattle.record_reader.specs.declared.reader.NextStep.{NextStep}
use Rattle.record_reader.specs.declared.reader.NextStep.TheVariants.{Size, Run, Counts, End, Bad, Long, ReadFault}
use Rattle.record_reader.specs.declared.reader.RecordReader.{RecordReader}

-- an answer, behind these lines: one that gives a line goes on with them, and the reader has read it
pub record Heard (r : RecordReader) (read : List RecordLine) (next : NextStep) : Type 0 where
  pub right : AreRecordLines read
  pub short : length (said_all read) ≤ most_record_bytes
  pub goes_on : (l : RecordLine) → line_given next ≡ Some l → GoesOnWith read l
  pub has : (l : RecordLine) → line_given next ≡ Some l → HasRead r (read ++ l ∷ [])
  pub still : (l : RecordLine) → line_given next ≡ Some l → IsOpen r
  pub number : (n : ℕ) → next ≡ Bad n → n ≡ length read + 1

-- the same of a text that is told: it begins with these lines, and goes on with the answer's, or reads as its verdict says
pub record TextHeard {S : Type 0} (left : S → Option (List ℕ)) (told : Option (List ℕ)) (r : RecordReader) (s : S) (read : List RecordLine) (next : NextStep) : Type 0 where
  pub begins : (text : List ℕ) → told ≡ Some text → (rest : List ℕ) × BeginsWith text read rest
  pub stands : (text : List ℕ) (l : RecordLine) → told ≡ Some text → line_given next ≡ Some l → StandsIn left text r s (read ++ l ∷ [])
  pub decides : (text : List ℕ) (v : Verdict) → told ≡ Some text → verdict_given next ≡ Some v → ReadsAs text read v

-- a count of faults rose where something failed, and else is what it was
pub record FaultsSo (base now : ℕ) (Failed : Type 0) : Type 0 where
  pub later : base ≤ now
  pub unfaulted : (Failed → ⊥) → now ≡ base
  pub cause : Failed → Rose base now

-- the size that an answer tells of the drum, where it is the version
abbrev pub size_given : NextStep → Option ℕ
size_given (Size pages) = Some pages
size_given next = None

-- the size that these lines and the answer behind them tell
abbrev pub size_ahead : List RecordLine → NextStep → Option ℕ
size_ahead [] next = size_given next
size_ahead (l ∷ read) next = size_told (l ∷ read)
