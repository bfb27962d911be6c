-- Laws above the definitions, in the subject's own words.
use Rattle.std.specs.Prelude.{◌≡◌, ◌⊎◌, ◌↔◌, ℕ, zero, suc, ◌+◌, ◌-◌, ◌*◌, ◌/◌, ◌%◌, ◌^◌, ◌<◌, Bool, true, false, not, ◌||◌, ◌==◌, ℤ, pos, ◌+ℤ◌, ◌*ℤ◌, int_lt, unsigned_abs, IsSomeAnd}
use Rattle.word36.specs.Words.{signed}
use Rattle.word36.specs.Arithmetic.{Outcome, is_signed_word}

-- a quotient and a remainder make up the dividend; the remainder is smaller than the divisor, and is 0 or has the dividend's sign
pub record Divides (dividend divisor quotient remainder : ℤ) : Type 0 where
  pub whole : quotient *ℤ divisor +ℤ remainder ≡ dividend
  pub smaller : unsigned_abs remainder < unsigned_abs divisor
  pub sign : (remainder ≡ pos 0) ⊎ (int_lt remainder (pos 0) ≡ int_lt dividend (pos 0))

-- the two words of a division are its quotient and its remainder
abbrev pub IsQuotient : ℤ → ℤ → Outcome → Type 0
IsQuotient dividend divisor o = IsSomeAnd o.low (λ low. Divides dividend divisor (signed o.word) (signed low))

-- a high word and the low 35 bits of a second make up a product
abbrev pub IsProduct : ℤ → Outcome → Type 0
IsProduct p o = IsSomeAnd o.low (λ low. signed o.word *ℤ pos (2 ^ 35) +ℤ pos (low % 2 ^ 35) ≡ p)

-- a sum is true where it is a signed word; else it overflows, and just then one carry comes without the other
pub record Sums (total : ℤ) (o : Outcome) : Type 0 where
  pub true_sum : is_signed_word total ≡ true → signed o.word ≡ total
  pub overflow : o.flags.overflow ≡ not (is_signed_word total)
  pub carries : (o.flags.carry0 ≡ o.flags.carry1) ↔ (is_signed_word total ≡ true)

-- a number under shift, and whether a bit that differs from its sign was lost
pub record Placed : Type 0 where
  pub number : ℕ
  pub lost : Bool

-- one place to the left: the sign stays, the bit next to it is lost, and 0 comes in
abbrev pub one_left : ℕ → Placed → Placed
one_left under p = record {
  number = p.number / 2 ^ under * 2 ^ under + p.number * 2 % 2 ^ under;
  lost = p.lost || not (p.number / 2 ^ (under - 1) % 2 == p.number / 2 ^ under % 2);
}

-- one place to the right: the sign is copied, and the last bit is lost
abbrev pub one_right : ℕ → ℕ → ℕ
one_right under d = d / 2 ^ under * 2 ^ under + d / 2

-- so many places to the left, one at a time
unfoldable pub left_by_places : ℕ → ℕ → ℕ → Placed
left_by_places under d zero = record { number = d; lost = false }
left_by_places under d (suc n) = one_left under (left_by_places under d n)

-- so many places to the right, one at a time
unfoldable pub right_by_places : ℕ → ℕ → ℕ → ℕ
right_by_places under d zero = d
right_by_places under d (suc n) = one_right under (right_by_places under d n)
