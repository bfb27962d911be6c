-- What the reading of a text as a record comes to: the lines that it gives, and what stands behind them.
use Rattle.std.specs.Prelude.{◌≡◌, ◌≢◌, ◌⊎◌, ℕ, ◌+◌, ◌<◌, ◌≤◌, List, [], ◌∷◌, ◌++◌, length}
use Rattle.script_texts.specs.Script.{HasNoFeed}
use Rattle.script_texts.specs.RecordLines.{RecordLine, said, said_all}
use Rattle.record_reader.specs.Order.{AreRecordLines, GoesOnWith}

-- how many bytes a record may have
abbrev pub most_record_bytes : ℕ
most_record_bytes = 268435456

-- Behind lines that were read the text goes on with a bad line: one that ends within the limit and is the text of no line that goes on with
-- them, or a last one without a line feed.
abbrev pub IsBadBehind : List RecordLine → List ℕ → Type 0
IsBadBehind read rest =
    ((line : List ℕ) × (more : List ℕ) × (rest ≡ line ++ 10 ∷ more) × HasNoFeed line × (length (said_all read) + length line < most_record_bytes)
    × ((l : RecordLine) → line ≡ said l → GoesOnWith read l → ⊥))
    ⊎ ((rest ≢ []) × HasNoFeed rest × (length (said_all read) + length rest ≤ most_record_bytes))

-- Behind lines that were read the text passes the limit, and no line ends before that.
pub record IsLongBehind (read : List RecordLine) (rest : List ℕ) : Type 0 where
  pub within : length (said_all read) ≤ most_record_bytes
  pub beyond : most_record_bytes < length (said_all read) + length rest
  pub none : (line more : List ℕ) → rest ≡ line ++ 10 ∷ more → most_record_bytes ≤ length (said_all read) + length line

-- how the reading of a text ends: at its end; at the bad line of this number, counted from 1; or where the limit is passed
pub data Verdict : Type 0 where
  whole : Verdict
  bad : ℕ → Verdict
  too_long : Verdict

-- it ends so behind lines that were read, where this is left
abbrev pub EndsAs : List RecordLine → Verdict → List ℕ → Type 0
EndsAs read whole rest = rest ≡ []
EndsAs read (bad n) rest = (n ≡ length read + 1) × IsBadBehind read rest
EndsAs read too_long rest = IsLongBehind read rest

-- a text begins with these lines of a record, within the limit, and this stands behind them
pub record BeginsWith (text : List ℕ) (read : List RecordLine) (rest : List ℕ) : Type 0 where
  pub text_is : text ≡ said_all read ++ rest
  pub right : AreRecordLines read
  pub short : length (said_all read) ≤ most_record_bytes

-- READ TO ITS END, A TEXT GIVES THESE LINES, AND ENDS SO
pub record ReadsAs (text : List ℕ) (lines : List RecordLine) (verdict : Verdict) : Type 0 where
  pub rest : List ℕ
  pub begins : BeginsWith text lines rest
  pub ends : EndsAs lines verdict rest
