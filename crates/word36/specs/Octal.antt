-- Numbers as octal digits.
use Rattle.std.specs.Prelude.{ℕ, zero, suc, ◌+◌, ◌*◌, ◌-◌, ◌/◌, ◌%◌, ◌^◌, ◌<◌, ◌≤◌, List, [], ◌∷◌, ◌++◌, length}

-- the last digits of a number, as many as are asked for, with zeros in front
unfoldable pub octal_padded : ℕ → ℕ → List ℕ
octal_padded zero n = []
octal_padded (suc width) n = octal_padded width (n / 8) ++ (n % 8 + 48) ∷ []

-- each byte is one of the digits 0 to 7
abbrev pub AreOctalDigits : List ℕ → Type 0
AreOctalDigits [] = Unit {0}
AreOctalDigits (c ∷ cs) = (48 ≤ c) × (c < 56) × AreOctalDigits cs

-- the number that digits write, each digit eight times the weight of the next
abbrev pub octal_value : List ℕ → ℕ
octal_value [] = 0
octal_value (c ∷ cs) = (c - 48) * 8 ^ length cs + octal_value cs

-- a text of 1 to so many octal digits
abbrev pub IsOctalNumber : ℕ → List ℕ → Type 0
IsOctalNumber most text = (1 ≤ length text) × (length text ≤ most) × AreOctalDigits text
