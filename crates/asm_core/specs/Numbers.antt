-- The numbers and symbols of a program.
use Rattle.std.specs.Prelude.{ℕ, List, [], ◌∷◌, Bool, false, ◌||◌, ◌&&◌, nat_le, nat_lt, if◌then◌else◌, Option, None, Some, length}
use Rattle.std.specs.List.{list_all}
use Rattle.word36.specs.Octal.{octal_value}
use Rattle.asm_core.specs.declared.line.Value.{Value}
use Rattle.asm_core.specs.declared.line.Value.TheVariants.{Number, Named}

-- an octal digit
abbrev pub is_octal_digit : ℕ → Bool
is_octal_digit c = nat_le 48 c && nat_lt c 56

-- the number that 1 to so many octal digits write
unfoldable pub octal_number : ℕ → List ℕ → Option ℕ
octal_number most text = if (nat_le 1 (length text) && nat_le (length text) most) && list_all is_octal_digit text then Some (octal_value text) else None

-- a number below 16
abbrev pub if_register : Option ℕ → Option ℕ
if_register None = None
if_register (Some n) = if nat_lt n 16 then Some n else None

-- the accumulator or index register that 1 or 2 octal digits write
unfoldable pub register : List ℕ → Option ℕ
register text = if_register (octal_number 2 text)

abbrev pub is_letter : ℕ → Bool
is_letter c = nat_le 65 c && nat_le c 90

abbrev pub is_digit : ℕ → Bool
is_digit c = nat_le 48 c && nat_le c 57

-- a capital letter or a digit
abbrev pub is_symbol_code : ℕ → Bool
is_symbol_code c = is_letter c || is_digit c

abbrev pub begins_with_letter : List ℕ → Bool
begins_with_letter [] = false
begins_with_letter (c ∷ cs) = is_letter c

-- a symbol: 1 to 6 capital letters and digits, the first a letter
unfoldable pub is_symbol : List ℕ → Bool
is_symbol text = (begins_with_letter text && nat_le (length text) 6) && list_all is_symbol_code text

abbrev pub as_number : Option ℕ → Option Value
as_number None = None
as_number (Some n) = Some (Number n)

-- a value: a symbol, or 1 to 6 octal digits
unfoldable pub value_of : List ℕ → Option Value
value_of text = if is_symbol text then Some (Named text) else as_number (octal_number 6 text)
