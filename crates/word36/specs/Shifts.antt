-- Shifts and rotations of one word and of two together (PDP-10 handbook, "Shift and rotate").
use Rattle.std.specs.Prelude.{ℕ, ◌+◌, ◌-◌, ◌*◌, ◌/◌, ◌%◌, ◌^◌, ◌≤◌, Bool, false, cond, not, ◌&&◌, nat_le, nat_lt, ◌==◌}
use Rattle.std.specs.Int.Count.{count_leading_zeros}
use Rattle.word36.specs.declared.opcodes.TheConstants.{ASH, ROT, LSH, JFFO, ASHC, ROTC, LSHC}
use Rattle.word36.specs.Arithmetic.{Outcome, in_one_word, in_two_words, moved}

-- E is a signed number of 18 bits: a negative one shifts to the right
abbrev pub is_right : ℕ → Bool
is_right e = nat_le (2 ^ 17) e

-- by how many places: its magnitude modulo 256
abbrev pub places : ℕ → ℕ
places e = cond (is_right e) ((2 ^ 18 - e) % 256) (e % 256)

-- LSH of a number of so many bits: bits that leave are lost, and zeros come in
unfoldable pub logical : ℕ → Bool → ℕ → ℕ → ℕ
logical width right d n = cond right (d / 2 ^ n) (d * 2 ^ n % 2 ^ width)

-- ROT of a number of so many bits to the left: bits that leave come in at the other end
unfoldable pub rotated_left : ℕ → ℕ → ℕ → ℕ
rotated_left width d k = d * 2 ^ k % 2 ^ width + d / 2 ^ (width - k)

-- to the right by n is to the left by what is missing to the width
abbrev pub rotated : ℕ → Bool → ℕ → ℕ → ℕ
rotated width right d n = rotated_left width d (cond right ((width - n % width) % width) (n % width))

-- ASH of a number of so many bits under a sign bit: the sign stays; to the left the others are the low bits of the product by 2^n
unfoldable pub ash_left : ℕ → ℕ → ℕ → ℕ
ash_left under d n = d / 2 ^ under * 2 ^ under + d * 2 ^ n % 2 ^ under

-- to the right it is the quotient by 2^n, and of a negative number the complement of its complement's: copies of the sign come in
unfoldable pub ash_right : ℕ → ℕ → ℕ → ℕ
ash_right under d n = cond (nat_le (2 ^ under) d) (2 ^ (under + 1) - 1 - (2 ^ (under + 1) - 1 - d) / 2 ^ n) (d / 2 ^ n)

-- ASH to either side
abbrev pub ash : ℕ → Bool → ℕ → ℕ → ℕ
ash under right d n = cond right (ash_right under d n) (ash_left under d n)

-- a bit that differs from the sign was lost: the signed number's magnitude times 2^n is out of range
unfoldable pub ash_overflows : ℕ → ℕ → ℕ → Bool
ash_overflows under d n = cond (nat_le (2 ^ under) d) (nat_lt (2 ^ under) ((2 ^ (under + 1) - d) * 2 ^ n)) (nat_le (2 ^ under) (d * 2 ^ n))

-- two words as one number of 72 bits
abbrev pub double : ℕ → ℕ → ℕ
double a a1 = a * 2 ^ 36 + a1

-- a word and the low 35 bits of the next, as one number of 71 bits
abbrev pub double_signed : ℕ → ℕ → ℕ
double_signed a a1 = a * 2 ^ 35 + a1 % 2 ^ 35

-- the two words of 72 bits
abbrev pub split : ℕ → Outcome
split d = in_two_words (d / 2 ^ 36) (d % 2 ^ 36) false

-- the two words of 71 bits, with one sign
abbrev pub split_signed : ℕ → Bool → Outcome
split_signed d overflow = in_two_words (d / 2 ^ 35) (d / 2 ^ 70 * 2 ^ 35 + d % 2 ^ 35) overflow

-- ASH
abbrev pub ash_one : Bool → ℕ → ℕ → Outcome
ash_one right a n = in_one_word (ash 35 right a n) (not right && ash_overflows 35 a n)

-- ASHC; by 0 places nothing changes, bit 0 of the second word included
abbrev pub ash_both : Bool → ℕ → ℕ → ℕ → Outcome
ash_both right a a1 n = cond (n == 0)
    (in_two_words a a1 false)
    (split_signed (ash 70 right (double_signed a a1) n) (not right && ash_overflows 70 (double_signed a a1) n))

-- JFFO: the count of zeros before the first one, and 0 for the word 0
abbrev pub first_one : ℕ → ℕ
first_one a = cond (a == 0) 0 (count_leading_zeros 36 a)

-- the shift of an opcode on accumulators AC and AC plus 1 and the effective address
unfoldable pub shifted : ℕ → ℕ → ℕ → ℕ → Outcome
shifted op a a1 e =
    let right = is_right e in
    let n = places e in
    cond (op == ASH) (ash_one right a n)
    (cond (op == ROT) (moved (rotated 36 right a n))
    (cond (op == LSH) (moved (logical 36 right a n))
    (cond (op == JFFO) (in_two_words a (first_one a) false)
    (cond (op == ASHC) (ash_both right a a1 n)
    (cond (op == ROTC) (split (rotated 72 right (double a a1) n))
    (split (logical 72 right (double a a1) n)))))))  -- LSHC

-- an opcode of these: ASH to LSHC
abbrev pub IsShift : ℕ → Type 0
IsShift op = (ASH ≤ op) × (op ≤ LSHC)
