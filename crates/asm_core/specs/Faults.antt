-- Which texts are programs, and which line is the first fault of one that is not.
use Rattle.std.specs.Prelude.{◌≡◌, ◌≢◌, ◌⊎◌, ℕ, ◌+◌, ◌<◌, List, [], None, Ok, Err, length, take, slice_index_or}
use Rattle.asm_core.specs.declared.line.Statement.TheVariants.{Nothing}
use Rattle.asm_core.specs.declared.line.Line.{Line}
use Rattle.asm_core.specs.declared.line.AsmFault.{AsmFault}
use Rattle.asm_core.specs.declared.line.AsmFault.TheVariants.{Line as BadLine}
use Rattle.asm_core.specs.Cutting.{pieces, remainder}
use Rattle.asm_core.specs.Places.{next_line}

-- a line without label and statement
abbrev pub blank : Line
blank = record { label = None; statement = Nothing }

-- these are the first lines of a text: each is right behind those before it
abbrev pub AreFirst : List (List ℕ) → List Line → Type 0
AreFirst texts lines = (i : ℕ) → i < length lines → next_line (take i lines) (slice_index_or texts i []) ≡ Ok (slice_index_or lines i blank)

-- a text is these lines, and nothing stands behind the last line feed
abbrev pub AreLines : List ℕ → List Line → Type 0
AreLines text lines = AreFirst (pieces 10 text) lines × (length lines ≡ length (pieces 10 text)) × (remainder 10 text ≡ [])

-- behind these first lines stands the first fault: the next line has it, or the last line has no line feed
abbrev pub FailsBehind : List ℕ → List Line → AsmFault → Type 0
FailsBehind text lines fault =
    ((length lines < length (pieces 10 text)) × (next_line lines (slice_index_or (pieces 10 text) (length lines) []) ≡ Err fault))
    ⊎ ((length lines ≡ length (pieces 10 text)) × (remainder 10 text ≢ []) × (fault ≡ BadLine (length lines + 1)))

-- the first fault in the lines of a text
abbrev pub IsFirstFault : List ℕ → AsmFault → Type 0
IsFirstFault text fault = (lines : List Line) × AreFirst (pieces 10 text) lines × FailsBehind text lines fault
