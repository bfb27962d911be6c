-- Halfword moves: the number of each opcode, and both halves of what it gives.
use Rattle.std.proofs.Common.{◌≡◌, inl, inr, ℕ, ◌+◌, ◌-◌, ◌/◌, ◌%◌, ◌^◌, ◌<◌, Bool, true, false, refl, sym, ◌∙◌, ap, subst, arith}
use Rattle.std.specs.Prelude.{◌==◌, nat_le}
use Rattle.std.proofs.lemmas.Bool.{cases_lt}
use Rattle.std.proofs.lemmas.Bool.Decides.{nat_tests}
use Rattle.word36.specs.declared.opcodes.TheConstants.{HLL}
use Rattle.word36.specs.Words.{left, right, joined, IsWord}
use Rattle.word36.specs.Halves.{other_half, half_moved, half_of}
use Rattle.ka10_alu.specs.Halfwords.{Side, L, R, OtherHalf, kept, zeros, ones, extended, move_opcode, other_becomes, IsMoved}

is_left : Side → Bool
is_left L = true
is_left R = false

letter_of : OtherHalf → ℕ
letter_of kept = 0
letter_of zeros = 1
letter_of ones = 2
letter_of extended = 3

by_code : (op code source dest : ℕ) → (op - HLL) / 4 ≡ code → half_of op source dest ≡ half_moved (code / 8 == code % 2) (code / 8 == 0) (code / 2 % 4) source dest
unfolding half_of
by_code op code source dest e = ap (λ (c : ℕ). half_moved (c / 8 == c % 2) (c / 8 == 0) (c / 2 % 4) source dest) e

-- the letters of an opcode
decoded : (from to : Side) (other : OtherHalf) (mode source dest : ℕ) → mode < 4 →
    half_of (move_opcode from to other + mode) source dest ≡ half_moved (is_left from) (is_left to) (letter_of other) source dest
unfolding is_left letter_of
decoded L L kept mode source dest few = by_code (move_opcode L L kept + mode) 0 source dest (omega arith)
decoded R L kept mode source dest few = by_code (move_opcode R L kept + mode) 1 source dest (omega arith)
decoded L L zeros mode source dest few = by_code (move_opcode L L zeros + mode) 2 source dest (omega arith)
decoded R L zeros mode source dest few = by_code (move_opcode R L zeros + mode) 3 source dest (omega arith)
decoded L L ones mode source dest few = by_code (move_opcode L L ones + mode) 4 source dest (omega arith)
decoded R L ones mode source dest few = by_code (move_opcode R L ones + mode) 5 source dest (omega arith)
decoded L L extended mode source dest few = by_code (move_opcode L L extended + mode) 6 source dest (omega arith)
decoded R L extended mode source dest few = by_code (move_opcode R L extended + mode) 7 source dest (omega arith)
decoded R R kept mode source dest few = by_code (move_opcode R R kept + mode) 8 source dest (omega arith)
decoded L R kept mode source dest few = by_code (move_opcode L R kept + mode) 9 source dest (omega arith)
decoded R R zeros mode source dest few = by_code (move_opcode R R zeros + mode) 10 source dest (omega arith)
decoded L R zeros mode source dest few = by_code (move_opcode L R zeros + mode) 11 source dest (omega arith)
decoded R R ones mode source dest few = by_code (move_opcode R R ones + mode) 12 source dest (omega arith)
decoded L R ones mode source dest few = by_code (move_opcode L R ones + mode) 13 source dest (omega arith)
decoded R R extended mode source dest few = by_code (move_opcode R R extended + mode) 14 source dest (omega arith)
decoded L R extended mode source dest few = by_code (move_opcode L R extended + mode) 15 source dest (omega arith)

-- the other half, which is half a word
other_is : (other : OtherHalf) (old moved : ℕ) → moved < 2 ^ 18 → other_half (letter_of other) old moved ≡ other_becomes other old moved
unfolding letter_of
other_is kept old moved small = refl
other_is zeros old moved small = refl
other_is ones old moved small = refl
other_is extended old moved small = elim (cases_lt moved (2 ^ 17)) [
  | inl positive ↦ (let sign : nat_le (2 ^ 17) moved ≡ false = grind (arith, nat_tests) in rw sign (omega arith))
  | inr negative ↦ (let sign : nat_le (2 ^ 17) moved ≡ true = grind (arith, nat_tests) in rw sign (omega arith))
]

other_below : (other : OtherHalf) (old moved : ℕ) → old < 2 ^ 18 → moved < 2 ^ 18 → other_half (letter_of other) old moved < 2 ^ 18
unfolding letter_of
other_below kept old moved small_old small = small_old
other_below zeros old moved small_old small = omega arith
other_below ones old moved small_old small = omega arith
other_below extended old moved small_old small = omega arith

left_of : (l r : ℕ) → r < 2 ^ 18 → left (joined l r) ≡ l
left_of l r small = omega arith

right_of : (l r : ℕ) → r < 2 ^ 18 → right (joined l r) ≡ r
right_of l r small = omega arith

is_moved : (from to : Side) (other : OtherHalf) (source dest : ℕ) → IsWord source → IsWord dest →
    IsMoved from to other source dest (half_moved (is_left from) (is_left to) (letter_of other) source dest)
unfolding is_left
is_moved L L other source dest small_source small_dest = record {
  moved = left_of (left source) (other_half (letter_of other) (right dest) (left source)) (other_below other (right dest) (left source) (omega arith) (omega arith));
  other_half = right_of (left source) (other_half (letter_of other) (right dest) (left source)) (other_below other (right dest) (left source) (omega arith) (omega arith)) ∙ other_is other (right dest) (left source) (omega arith);
}
is_moved R L other source dest small_source small_dest = record {
  moved = left_of (right source) (other_half (letter_of other) (right dest) (right source)) (other_below other (right dest) (right source) (omega arith) (omega arith));
  other_half = right_of (right source) (other_half (letter_of other) (right dest) (right source)) (other_below other (right dest) (right source) (omega arith) (omega arith)) ∙ other_is other (right dest) (right source) (omega arith);
}
is_moved R R other source dest small_source small_dest = record {
  moved = right_of (other_half (letter_of other) (left dest) (right source)) (right source) (omega arith);
  other_half = left_of (other_half (letter_of other) (left dest) (right source)) (right source) (omega arith) ∙ other_is other (left dest) (right source) (omega arith);
}
is_moved L R other source dest small_source small_dest = record {
  moved = right_of (other_half (letter_of other) (left dest) (left source)) (left source) (omega arith);
  other_half = left_of (other_half (letter_of other) (left dest) (left source)) (left source) (omega arith) ∙ other_is other (left dest) (left source) (omega arith);
}

pub halves_moved : (from to : Side) (other : OtherHalf) (mode source dest : ℕ) → mode < 4 → IsWord source → IsWord dest →
    IsMoved from to other source dest (half_of (move_opcode from to other + mode) source dest)
halves_moved from to other mode source dest few small_source small_dest =
    subst (λ (w : ℕ). IsMoved from to other source dest w) (sym (decoded from to other mode source dest few)) (is_moved from to other source dest small_source small_dest)
