-- Boolean instructions, 400 to 477 (PDP-10 handbook, "Boolean functions").
use Rattle.std.specs.Prelude.{ℕ, ◌+◌, ◌-◌, ◌/◌, ◌%◌, ◌<◌, ◌≤◌, min, max, List, [], ◌∷◌, slice_index}
use Rattle.std.specs.Int.{bit_at}
use Rattle.word36.specs.declared.opcodes.TheConstants.{SETZ, HLL}
use Rattle.word36.specs.Bits.{from_bits}

-- what the sixteen functions give for a bit of the accumulator and a bit of the memory operand: SETZ, AND, ANDCA, SETM; ANDCM, SETA, XOR, IOR; ANDCB, EQV, SETCA, ORCA; SETCM, ORCM, ORCB, SETO
abbrev pub boolean_bits : ℕ → ℕ → List ℕ
boolean_bits a m =
    0 ∷ min a m ∷ min (1 - a) m ∷ m ∷
    min a (1 - m) ∷ a ∷ ((a + m) % 2) ∷ max a m ∷
    min (1 - a) (1 - m) ∷ (1 - (a + m) % 2) ∷ (1 - a) ∷ max (1 - a) m ∷
    (1 - m) ∷ max a (1 - m) ∷ max (1 - a) (1 - m) ∷ 1 ∷
    []

-- the word whose bits one of the functions gives
unfoldable pub boolean_word : ℕ → ℕ → ℕ → ℕ
boolean_word function a m = from_bits 36 (λ i. slice_index (boolean_bits (bit_at a i) (bit_at m i)) function)

-- the function of an opcode: each has four, one a mode
abbrev pub function_of : ℕ → ℕ
function_of op = (op - SETZ) / 4

-- the result of an opcode
abbrev pub boolean_of : ℕ → ℕ → ℕ → ℕ
boolean_of op a m = boolean_word (function_of op) a m

-- an opcode of these: SETZ to SETO
abbrev pub IsBoolean : ℕ → Type 0
IsBoolean op = (SETZ ≤ op) × (op < HLL)
