-- What is read of a text, in the words of who writes one.
use Rattle.std.specs.Prelude.{◌≡◌, ◌≢◌, ℕ, ◌/◌, ◌%◌, ◌^◌, ◌<◌, List, [], ◌∷◌, length, Some}
use Rattle.word36.specs.Words.{right}
use Rattle.word36.specs.Bytes.{incremented, loaded}
use Rattle.machine_names.specs.declared.names.ForkName.{ForkName}
use Rattle.machine_names.specs.declared.names.Kind.TheVariants.{Read}
use Rattle.plain_units.specs.declared.registers.Regs.{Regs}
use Rattle.plain_pages.specs.PlainPages.{NumberedPages}
use Rattle.plain_units.specs.Steps.{asked_at, begun, goes, plainly, referred, word_taken}
use Rattle.plain_model.specs.declared.text.TheConstants.{MOST_BYTES}
use Rattle.plain_model.specs.PointedTexts.{full_pointer, text_at}
use Rattle.text_pointers.specs.Outcomes.{leaves, read_on}

-- the word at an address of a fork's space
abbrev pub word_in : ForkName → Regs → NumberedPages → ℕ → ℕ
word_in f regs q a = word_taken f (referred (begun q regs.ac) a Read q) a

-- a text stands from the byte on that a pointer names: its bytes, none of them 0, one behind the other, and then a byte that is 0
abbrev pub StandsFrom : (ℕ → ℕ) → ℕ → List ℕ → Type 0
StandsFrom word p [] = loaded p (word (right p)) ≡ 0
StandsFrom word p (byte ∷ text) = (loaded p (word (right p)) ≡ byte) × (byte ≢ 0) × StandsFrom word (incremented p) text

-- each word of a fork's space can be read, and that makes no page
abbrev pub IsReady : ForkName → NumberedPages → Type 0
IsReady f q = (a : ℕ) → asked_at (plainly f) f q a Read ≡ goes q

-- a pointer to a byte of the word at Y itself: I and X are 0, and the bit before them
abbrev pub IsDirect : ℕ → Type 0
IsDirect p = full_pointer p / 2 ^ 18 % 2 ^ 6 ≡ 0

-- A TEXT IS READ that stands from the next byte of a pointer on, and has fewer bytes than one unit reads
abbrev pub ReadsInOrder : Regs → ℕ → Type 0
ReadsInOrder regs pointer =
    (f : ForkName) (q : NumberedPages) (text : List ℕ) → IsReady f q → IsDirect pointer → StandsFrom (word_in f regs q) (incremented (full_pointer pointer)) text → length text < MOST_BYTES
    → read_on f regs (text_at regs pointer) q ≡ leaves q (Some text)
