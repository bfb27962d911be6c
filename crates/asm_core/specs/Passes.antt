-- What the two passes over a program keep.
use Rattle.std.specs.Prelude.{◌≡◌, ◌⊎◌, ℕ, ◌+◌, ◌*◌, ◌^◌, ◌≤◌, List, [], ◌∷◌, Bool, ◌&&◌, nat_le, nat_lt, if◌then◌else◌, Option, None, Some, ◌≢◌, Result, Err, length}
use Rattle.std.specs.Ordering.{nat_cmp}
use Rattle.std.specs.BTreeMap.{get}
use Rattle.std.specs.List.{list_all}
use Rattle.asm_core.specs.declared.line.Line.{Line}
use Rattle.asm_core.specs.declared.line.AsmFault.{AsmFault}
use Rattle.asm_core.specs.declared.line.AsmFault.TheVariants.{Memory, Doubled, Undefined}
use Rattle.asm_core.specs.declared.symbols.Symbols.{Symbols}
use Rattle.asm_core.specs.declared.survey.Survey.{Survey}
use Rattle.asm_core.specs.Places.{first_undefined, has_label, location, value_in}

-- the number under which a symbol is kept: no two texts of bytes have the same
abbrev pub key : List ℕ → ℕ
key [] = 0
key (c ∷ cs) = c + 1 + 257 * key cs

abbrev pub are_bytes : List ℕ → Bool
are_bytes text = list_all (λ c. nat_lt c 256) text

-- the value of a symbol by a table
unfoldable pub kept : Symbols → List ℕ → Option ℕ
kept table symbol = if nat_le (length symbol) 6 && are_bytes symbol then get nat_cmp table.values (key symbol) else None

-- memory was wanting, or the fault is this one
abbrev pub IsFault : {A : Type 0} → AsmFault → Result A AsmFault → Type 0
IsFault fault outcome = (fault ≡ Memory) ⊎ (outcome ≡ Err fault)

-- the first pass stands behind these lines
pub record Surveyed (s : Survey) (before : List Line) : Type 0 where
  pub number : s.lines ≡ length before
  pub location : s.location ≡ location before
  pub within : s.location ≤ 2 ^ 18
  pub symbols : (symbol : List ℕ) → kept s.symbols symbol ≡ value_in before symbol

-- the symbols behind a line with this label, if it has one, at this location
abbrev pub after_label : Option (List ℕ) → ℕ → (List ℕ → Option ℕ) → List ℕ → Option ℕ
after_label label l symbols other = if has_label label other then Some l else symbols other

-- a label that is no symbol yet
abbrev pub IsNew : (List ℕ → Option ℕ) → Option (List ℕ) → Type 0
IsNew symbols None = Unit {0}
IsNew symbols (Some symbol) = symbols symbol ≡ None

-- the fault of a label that is one
abbrev pub IsDoubled : (List ℕ → Option ℕ) → Option (List ℕ) → AsmFault → Type 0
IsDoubled symbols None fault = ⊥
IsDoubled symbols (Some symbol) fault = (fault ≡ Doubled symbol) × (symbols symbol ≢ None)

-- the fault of the first of some symbols that has no value
abbrev pub IsUndefined : (List ℕ → Option ℕ) → List (List ℕ) → AsmFault → Type 0
IsUndefined symbols names fault = (symbol : List ℕ) × (fault ≡ Undefined symbol) × (first_undefined symbols names ≡ Some symbol)
