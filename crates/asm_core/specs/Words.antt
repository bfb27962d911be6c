-- What the words of a program are made of.
use Rattle.std.specs.Prelude.{◌≡◌, ℕ, ◌+◌, ◌*◌, ◌^◌, ◌<◌, List, [], ◌∷◌, Option, None, Some}
use Rattle.asm_core.specs.declared.line.Value.{Value}
use Rattle.asm_core.specs.declared.line.Statement.{Statement}
use Rattle.asm_core.specs.declared.line.Statement.TheVariants.{Loc}
use Rattle.asm_core.specs.declared.line.Line.{Line}
use Rattle.asm_core.specs.Places.{first_undefined, half_by, uses, value_in, words_by}

-- the word of an instruction, by its opcode, accumulator, indirect bit, index register and address
abbrev pub instruction_word : ℕ → ℕ → ℕ → ℕ → ℕ → ℕ
instruction_word op ac i x y = 2 ^ 27 * op + 2 ^ 23 * ac + 2 ^ 22 * i + 2 ^ 18 * x + y

-- a statement is one instruction of this opcode
pub record IsInstruction (op : ℕ) (s : Statement) : Type 0 where
  pub ac : ℕ
  pub indirect : ℕ
  pub x : ℕ
  pub y : Value
  pub ac_fits : ac < 16
  pub indirect_fits : indirect < 2
  pub x_fits : x < 16
  pub word : (symbols : List ℕ → Option ℕ) → words_by symbols s ≡ instruction_word op ac indirect x (half_by symbols y) ∷ []

-- lines that begin with a LOC that has no label
pub record BeginsAnew (lines : List Line) : Type 0 where
  pub start : ℕ
  pub line : Line
  pub others : List Line
  pub whole : lines ≡ line ∷ others
  pub no_label : line.label ≡ None
  pub place : line.statement ≡ Loc start

-- each symbol that some lines use labels one of them
abbrev pub IsClosed : List Line → Type 0
IsClosed lines = first_undefined (value_in lines) (uses lines) ≡ None

-- no symbol of the one program is one of the other
abbrev pub AreApart : List Line → List Line → Type 0
AreApart xs ys = (symbol : List ℕ) (n : ℕ) → value_in ys symbol ≡ Some n → value_in xs symbol ≡ None
