-- Arithmetic on words (PDP-10 handbook, "Fixed point arithmetic" and "Full word data transmission").
use Rattle.std.specs.Prelude.{ℕ, ◌+◌, ◌-◌, ◌*◌, ◌/◌, ◌%◌, ◌^◌, Bool, true, false, cond, not, ◌&&◌, ◌==◌, nat_lt, nat_le, ℤ, pos, ◌+ℤ◌, ◌*ℤ◌, neg_ℤ, unsigned_abs, int_lt, int_le, int_div, int_rem, ◌≤◌, ◌<◌, ◌⊎◌, Option, Some, None}
use Rattle.std.specs.Int.{int_div_euclid, int_rem_euclid}
use Rattle.word36.specs.declared.flags.Flags.{Flags}
use Rattle.word36.specs.declared.opcodes.TheConstants.{MOVE, MOVS, MOVN, MOVM, IMUL, MUL, IDIV, DIV, ASH, JFFO, LSHC, ADD, SUB, CAI}
use Rattle.word36.specs.Flags.{no_flags}
use Rattle.word36.specs.Words.{left, right, joined, is_negative, signed, word_of}

-- what an operation gives: a word, a second word for the next accumulator if it has one, and the flags that it sets
pub record Outcome : Type 0 where
  pub word : ℕ
  pub low : Option ℕ
  pub flags : Flags

-- no flag, or overflow alone
abbrev pub overflow_if : Bool → Flags
overflow_if b = record no_flags { overflow = b }

-- the carries out of bits 0 and 1; overflow where they differ
abbrev pub carries : Bool → Bool → Flags
carries out0 out1 = record no_flags { overflow = cond out0 (not out1) out1; carry0 = out0; carry1 = out1 }

-- the flags of a division that isn't done
abbrev pub not_divided : Flags
not_divided = record no_flags { overflow = true; nodiv = true }

-- one word, with overflow or with no flag
abbrev pub in_one_word : ℕ → Bool → Outcome
in_one_word w overflow = record { word = w; low = None; flags = overflow_if overflow }

-- two words, with overflow or with no flag
abbrev pub in_two_words : ℕ → ℕ → Bool → Outcome
in_two_words w low overflow = record { word = w; low = Some low; flags = overflow_if overflow }

-- a word as it is
abbrev pub moved : ℕ → Outcome
moved w = in_one_word w false

-- a word with its halves exchanged
abbrev pub swapped : ℕ → Outcome
swapped w = moved (joined (right w) (left w))

-- the sum of two words and a carry into bit 35: out of bit 0 goes what 36 bits can't hold, out of bit 1 what 35 can't
abbrev pub sum_of : ℕ → ℕ → ℕ → Outcome
sum_of a m c = record {
  word = (a + m + c) % 2 ^ 36;
  low = None;
  flags = carries (nat_le (2 ^ 36) (a + m + c)) (nat_le (2 ^ 35) (a % 2 ^ 35 + m % 2 ^ 35 + c));
}

-- ADD
abbrev pub added : ℕ → ℕ → Outcome
added a m = sum_of a m 0

-- SUB adds the complement and 1
abbrev pub subtracted : ℕ → ℕ → Outcome
subtracted a m = sum_of a (2 ^ 36 - 1 - m) 1

-- MOVN: 0 less the word
abbrev pub negated : ℕ → Outcome
negated m = subtracted 0 m

-- MOVM: a negative word is negated
abbrev pub magnitude : ℕ → Outcome
magnitude m = cond (is_negative m) (negated m) (moved m)

-- a number from -2^35 to 2^35 - 1
abbrev pub is_signed_word : ℤ → Bool
is_signed_word z = int_le (neg_ℤ (pos (2 ^ 35))) z && int_lt z (pos (2 ^ 35))

-- IMUL: the product's sign in bit 0 and its low 35 bits
abbrev pub multiplied_short : ℕ → ℕ → Outcome
multiplied_short a m =
    let p = signed a *ℤ signed m in
    in_one_word (cond (int_lt p (pos 0)) (2 ^ 35) 0 + unsigned_abs (int_rem_euclid p (pos (2 ^ 35)))) (not (is_signed_word p))

-- MUL: the product divided by 2^35, rounded down; below it a word with the same bit 0 and the product's low 35 bits;
-- only the product of 400000000000 by itself is out of range
abbrev pub multiplied : ℕ → ℕ → Outcome
multiplied a m =
    let p = signed a *ℤ signed m in
    let high = word_of (int_div_euclid p (pos (2 ^ 35))) in
    in_two_words high (high / 2 ^ 35 * 2 ^ 35 + unsigned_abs (int_rem_euclid p (pos (2 ^ 35)))) ((a == 2 ^ 35) && (m == 2 ^ 35))

-- a division is done where the divisor isn't 0 and the quotient, rounded towards 0, is a signed word
abbrev pub is_divisible : ℤ → ℕ → Bool
is_divisible dividend m = not (m == 0) && is_signed_word (int_div dividend (signed m))

-- the quotient rounded towards 0, and the remainder with the dividend's sign
abbrev pub divided : ℤ → ℕ → Option Outcome
divided dividend m = cond (is_divisible dividend m)
    (Some (in_two_words (word_of (int_div dividend (signed m))) (word_of (int_rem dividend (signed m))) false))
    None

-- DIV's dividend: the signed word times 2^35, and the low 35 bits of the next
abbrev pub long : ℕ → ℕ → ℤ
long a a1 = signed a *ℤ pos (2 ^ 35) +ℤ pos (a1 % 2 ^ 35)

-- the operation of an opcode, four modes each, on accumulators AC and AC plus 1 and the operand
unfoldable pub arithmetic : ℕ → ℕ → ℕ → ℕ → Option Outcome
arithmetic op a a1 m =
    cond (nat_lt op MOVS) (Some (moved m))  -- MOVE
    (cond (nat_lt op MOVN) (Some (swapped m))  -- MOVS
    (cond (nat_lt op MOVM) (Some (negated m))  -- MOVN
    (cond (nat_lt op IMUL) (Some (magnitude m))  -- MOVM
    (cond (nat_lt op MUL) (Some (multiplied_short a m))  -- IMUL
    (cond (nat_lt op IDIV) (Some (multiplied a m))  -- MUL
    (cond (nat_lt op DIV) (divided (signed a) m)  -- IDIV
    (cond (nat_lt op ASH) (divided (long a a1) m)  -- DIV
    (cond (nat_lt op SUB) (Some (added a m))  -- ADD
    (Some (subtracted a m))))))))))

-- an opcode of these: MOVE to DIV, ADD and SUB, each with its four modes
abbrev pub IsArithmetic : ℕ → Type 0
IsArithmetic op = ((MOVE ≤ op) × (op < ASH)) ⊎ ((ADD ≤ op) × (op < CAI))

-- an operation with a second word for the next accumulator: MUL, IDIV and DIV; JFFO, ASHC, ROTC and LSHC
abbrev pub HasSecondWord : ℕ → Type 0
HasSecondWord op = ((MUL ≤ op) × (op < ASH)) ⊎ ((JFFO ≤ op) × (op ≤ LSHC))
