-- Shifts by one place at a time.
use Rattle.std.proofs.Common.{◌≡◌, inl, inr, ℕ, zero, suc, ◌+◌, ◌-◌, ◌*◌, ◌/◌, ◌%◌, ◌^◌, ◌<◌, ◌≤◌, Bool, true, false, refl, sym, ◌∙◌, ap, add-one, arith}
use Rattle.std.specs.Prelude.{nat_lt, nat_le, not, ◌==◌, ◌||◌}
use Rattle.std.proofs.lemmas.Bool.{cases_lt}
use Rattle.std.proofs.lemmas.Bool.Decides.{nat_tests}
use Rattle.std.proofs.Math.Nat.{div-eq_of_lt, mod-eq_of_lt, mod_self, mul-one, sub-zero, pow-suc, mul_assoc, add-mul-mod_self_right}
use Rattle.std.specs.Int.Count.{count_leading_zeros}
use Rattle.std.proofs.lemmas.Nat.{leading_top, shr-shr, shr_high, shr_le, shr_split, mod_low, mod_below, pow_pos, mul-mod_first, mul-lt}
use Rattle.word36.specs.Shifts.{first_one, rotated_left, rotated, ash_left, ash_right, ash_overflows}
use Rattle.ka10_alu.specs.Laws.{one_right, left_by_places, right_by_places}
use Rattle.ka10_alu.proofs.Shifting.{twice}

not_turned : (w d : ℕ) → d < 2 ^ w → rotated_left w d 0 ≡ d
unfolding rotated_left
not_turned w d small =
    let same : d * 1 % 2 ^ w ≡ d = rw mul-one (mod-eq_of_lt small) in
    let none : d / 2 ^ (w - 0) ≡ 0 = rw sub-zero (div-eq_of_lt small) in
    omega arith

pub turned_by_width : (w d : ℕ) (is_right : Bool) → 0 < w → d < 2 ^ w → rotated w is_right d w ≡ d
turned_by_width w d true some small = rw (mod_self, sub-zero, mod_self) (not_turned w d small)
turned_by_width w d false some small = rw mod_self (not_turned w d small)

-- the leftmost one of a word
pub leftmost : (a : ℕ) → 0 < a → a < 2 ^ 36 → (first_one a ≤ 35) × (2 ^ (35 - first_one a) ≤ a) × (a < 2 ^ (36 - first_one a))
leftmost a some small =
    let top = leading_top 36 a some small in
    let j : ℕ = top.0 in
    let is : count_leading_zeros 36 a + suc j ≡ 36 = top.1 in
    let not_zero : (a == 0) ≡ false = grind (arith, nat_tests) in
    let first : first_one a ≡ count_leading_zeros 36 a = rw not_zero refl in
    let low : 35 - first_one a ≡ j = omega arith in
    let high : 36 - first_one a ≡ suc j = omega arith in
    (omega arith, rw low top.2, rw high top.3)

-- to the right: each place halves, and the sign is copied
halves : (d n : ℕ) → d / 2 ^ suc n ≡ d / 2 ^ n / 2
halves d n = sym (shr-shr d n 1 ∙ ap (λ k. d / 2 ^ k) (add-one n))

halved_positive : (under x : ℕ) → x < 2 ^ under → one_right under x ≡ x / 2
halved_positive under x small = let none : x / 2 ^ under ≡ 0 = div-eq_of_lt small in rw none (omega arith)

halved_negative : (under y : ℕ) → y < 2 ^ under → one_right under (2 ^ (under + 1) - 1 - y) ≡ 2 ^ (under + 1) - 1 - y / 2
halved_negative under y small =
    let both : 2 ^ (under + 1) ≡ 2 * 2 ^ under = twice under in
    let parts : 2 ^ (under + 1) - 1 - y ≡ 1 * 2 ^ under + (2 ^ under - 1 - y) = omega arith in
    let one : (1 * 2 ^ under + (2 ^ under - 1 - y)) / 2 ^ under ≡ 1 = shr_high 1 under (2 ^ under - 1 - y) (omega arith) in
    let sign : (2 ^ (under + 1) - 1 - y) / 2 ^ under ≡ 1 = rw parts one in
    rw sign (omega arith)

right_positive : (under d n : ℕ) → d < 2 ^ under → right_by_places under d n ≡ d / 2 ^ n
unfolding right_by_places
right_positive under d zero positive = omega arith
right_positive under d (suc n) positive =
    let less : d / 2 ^ n ≤ d = shr_le d n in
    ap (one_right under) (right_positive under d n positive) ∙ (halved_positive under (d / 2 ^ n) (omega arith) ∙ sym (halves d n))

right_negative : (under d n : ℕ) → 2 ^ under ≤ d → d < 2 ^ (under + 1) → right_by_places under d n ≡ 2 ^ (under + 1) - 1 - (2 ^ (under + 1) - 1 - d) / 2 ^ n
unfolding right_by_places
right_negative under d zero negative small = omega arith
right_negative under d (suc n) negative small =
    let both : 2 ^ (under + 1) ≡ 2 * 2 ^ under = twice under in
    let less : (2 ^ (under + 1) - 1 - d) / 2 ^ n ≤ 2 ^ (under + 1) - 1 - d = shr_le (2 ^ (under + 1) - 1 - d) n in
    let next : 2 ^ (under + 1) - 1 - (2 ^ (under + 1) - 1 - d) / 2 ^ n / 2 ≡ 2 ^ (under + 1) - 1 - (2 ^ (under + 1) - 1 - d) / 2 ^ suc n = ap (λ x. 2 ^ (under + 1) - 1 - x) (sym (halves (2 ^ (under + 1) - 1 - d) n)) in
    ap (one_right under) (right_negative under d n negative small) ∙ (halved_negative under ((2 ^ (under + 1) - 1 - d) / 2 ^ n) (omega arith) ∙ next)

pub right_places : (under d n : ℕ) → 1 ≤ under → d < 2 ^ (under + 1) → ash_right under d n ≡ right_by_places under d n
unfolding ash_right
right_places under d n some small = elim (cases_lt d (2 ^ under)) [
  | inl positive ↦ (let sign : nat_le (2 ^ under) d ≡ false = grind (arith, nat_tests) in rw sign (sym (right_positive under d n positive)))
  | inr negative ↦ (let sign : nat_le (2 ^ under) d ≡ true = grind (arith, nat_tests) in rw sign (sym (right_negative under d n negative small)))
]

-- to the left: the sign stays, and the bits below it double
doubled : (x n : ℕ) → x * 2 ^ suc n ≡ x * 2 ^ n * 2
doubled x n = let e : 2 ^ suc n ≡ 2 ^ n * 2 = pow-suc 2 n in rw (e, mul_assoc) refl

low_doubled : (s x under : ℕ) → (s * 2 ^ under + x % 2 ^ under) * 2 % 2 ^ under ≡ x * 2 % 2 ^ under
low_doubled s x under =
    let parts : (s * 2 ^ under + x % 2 ^ under) * 2 ≡ x % 2 ^ under * 2 + s * 2 * 2 ^ under = omega arith in
    rw (parts, add-mul-mod_self_right) (mul-mod_first x 2 (2 ^ under))

left_number : (under d n : ℕ) → (left_by_places under d n).number ≡ d / 2 ^ under * 2 ^ under + d * 2 ^ n % 2 ^ under
unfolding left_by_places
left_number under d zero = rw mul-one (sym (shr_split d under))
left_number under d (suc n) =
    let before : (left_by_places under d n).number ≡ d / 2 ^ under * 2 ^ under + d * 2 ^ n % 2 ^ under = left_number under d n in
    let rest : d * 2 ^ n % 2 ^ under < 2 ^ under = mod_below (d * 2 ^ n) (2 ^ under) (pow_pos under) in
    let sign : (d / 2 ^ under * 2 ^ under + d * 2 ^ n % 2 ^ under) / 2 ^ under ≡ d / 2 ^ under = shr_high (d / 2 ^ under) under (d * 2 ^ n % 2 ^ under) rest in
    rw (before, sign) (ap (λ x. d / 2 ^ under * 2 ^ under + x) (low_doubled (d / 2 ^ under) (d * 2 ^ n) under ∙ ap (λ x. x % 2 ^ under) (sym (doubled d n))))

pub left_places : (under d n : ℕ) → 1 ≤ under → d < 2 ^ (under + 1) → ash_left under d n ≡ (left_by_places under d n).number
unfolding ash_left
left_places under d n some small = sym (left_number under d n)

-- the two leftmost bits differ
differs : ℕ → ℕ → Bool
differs under d = not (d / 2 ^ (under - 1) % 2 == d / 2 ^ under % 2)

power_of_half : (under : ℕ) → 1 ≤ under → 2 ^ under ≡ 2 * 2 ^ (under - 1)
power_of_half under some = let e : under ≡ under - 1 + 1 = omega arith in ap (λ k. 2 ^ k) e ∙ twice (under - 1)

differs_low : (under s r : ℕ) → 1 ≤ under → s < 2 → r < 2 ^ (under - 1) → differs under (s * 2 ^ under + r) ≡ not (0 == s)
unfolding differs
differs_low under s r some bit small =
    let half : 2 ^ under ≡ 2 * 2 ^ (under - 1) = power_of_half under some in
    let sign : (s * 2 ^ under + r) / 2 ^ under ≡ s = shr_high s under r (omega arith) in
    let parts : s * 2 ^ under + r ≡ s * 2 * 2 ^ (under - 1) + r = grind arith in
    let next : (s * 2 ^ under + r) / 2 ^ (under - 1) ≡ s * 2 = ap (λ x. x / 2 ^ (under - 1)) parts ∙ shr_high (s * 2) (under - 1) r small in
    let even : s * 2 % 2 ≡ 0 = omega arith in
    let odd : s % 2 ≡ s = omega arith in
    rw (next, sign, even, odd) refl

differs_high : (under s r : ℕ) → 1 ≤ under → s < 2 → 2 ^ (under - 1) ≤ r → r < 2 ^ under → differs under (s * 2 ^ under + r) ≡ not (1 == s)
unfolding differs
differs_high under s r some bit large small =
    let half : 2 ^ under ≡ 2 * 2 ^ (under - 1) = power_of_half under some in
    let sign : (s * 2 ^ under + r) / 2 ^ under ≡ s = shr_high s under r small in
    let parts : s * 2 ^ under + r ≡ (s * 2 + 1) * 2 ^ (under - 1) + (r - 2 ^ (under - 1)) = grind arith in
    let next : (s * 2 ^ under + r) / 2 ^ (under - 1) ≡ s * 2 + 1 = ap (λ x. x / 2 ^ (under - 1)) parts ∙ shr_high (s * 2 + 1) (under - 1) (r - 2 ^ (under - 1)) (omega arith) in
    let odd : (s * 2 + 1) % 2 ≡ 1 = omega arith in
    let bit : s % 2 ≡ s = omega arith in
    rw (next, sign, odd, bit) refl

-- of a positive number: the product leaves the range by one more place where it had left it, or the bit next to the sign is 1
lost_positive : (under x : ℕ) → 1 ≤ under → nat_le (2 ^ under) (x * 2) ≡ (nat_le (2 ^ under) x || differs under (0 * 2 ^ under + x % 2 ^ under))
lost_positive under x some =
    let half : 2 ^ under ≡ 2 * 2 ^ (under - 1) = power_of_half under some in
    elim (cases_lt x (2 ^ under)) [
      | inr out ↦
          (let before : nat_le (2 ^ under) x ≡ true = grind (arith, nat_tests) in
          let after : nat_le (2 ^ under) (x * 2) ≡ true = grind (arith, nat_tests) in
          rw (before, after) refl)
      | inl in_range ↦
          (let before : nat_le (2 ^ under) x ≡ false = grind (arith, nat_tests) in
          let same : x % 2 ^ under ≡ x = mod-eq_of_lt in_range in
          elim (cases_lt x (2 ^ (under - 1))) [
            | inl low ↦
                (let after : nat_le (2 ^ under) (x * 2) ≡ false = grind (arith, nat_tests) in
                rw (before, after, same) (sym (differs_low under 0 x some (omega arith) low)))
            | inr high ↦
                (let after : nat_le (2 ^ under) (x * 2) ≡ true = grind (arith, nat_tests) in
                rw (before, after, same) (sym (differs_high under 0 x some (omega arith) high in_range)))
          ])
    ]

-- of a negative number of magnitude y: the same with the bit next to the sign 0
lost_negative : (under y r : ℕ) → 1 ≤ under → (y ≤ 2 ^ under → r ≡ 2 ^ under - y) → 0 < y → nat_lt (2 ^ under) (y * 2) ≡ (nat_lt (2 ^ under) y || differs under (1 * 2 ^ under + r))
lost_negative under y r some is more =
    let half : 2 ^ under ≡ 2 * 2 ^ (under - 1) = power_of_half under some in
    elim (cases_lt (2 ^ under) y) [
      | inl out ↦
          (let before : nat_lt (2 ^ under) y ≡ true = grind (arith, nat_tests) in
          let after : nat_lt (2 ^ under) (y * 2) ≡ true = grind (arith, nat_tests) in
          rw (before, after) refl)
      | inr in_range ↦
          (let before : nat_lt (2 ^ under) y ≡ false = grind (arith, nat_tests) in
          let rest : r ≡ 2 ^ under - y = is in_range in
          elim (cases_lt r (2 ^ (under - 1))) [
            | inl low ↦
                (let after : nat_lt (2 ^ under) (y * 2) ≡ true = grind (arith, nat_tests) in
                rw (before, after) (sym (differs_low under 1 r some (omega arith) low)))
            | inr high ↦
                (let after : nat_lt (2 ^ under) (y * 2) ≡ false = grind (arith, nat_tests) in
                rw (before, after) (sym (differs_high under 1 r some (omega arith) high (omega arith))))
          ])
    ]

low_of_negative : (under d m p : ℕ) → d + m ≡ 2 * 2 ^ under → 0 < p → 0 < m → m * p ≤ 2 ^ under → d * p % 2 ^ under ≡ 2 ^ under - m * p
low_of_negative under d m p total some more small =
    let e : (d + m) * p ≡ 2 * 2 ^ under * p = ap (λ x. x * p) total in
    let k : ℕ = 2 * p - 1 in
    let ek : 2 * p ≡ k + 1 = omega arith in
    let f : 2 * p * 2 ^ under ≡ (k + 1) * 2 ^ under = ap (λ x. x * 2 ^ under) ek in
    let parts : d * p ≡ k * 2 ^ under + (2 ^ under - m * p) = omega arith in
    let positive : 0 < m * p = mul-lt 0 0 m p more some in
    rw parts (mod_low k under (2 ^ under - m * p) (omega arith))

positive_lost : (under d n : ℕ) → 1 ≤ under → d < 2 ^ under → nat_le (2 ^ under) (d * 2 ^ n) ≡ (left_by_places under d n).lost
unfolding left_by_places differs
positive_lost under d zero some small = grind (arith, nat_tests)
positive_lost under d (suc n) some small =
    let before : nat_le (2 ^ under) (d * 2 ^ n) ≡ (left_by_places under d n).lost = positive_lost under d n some small in
    let sign : d / 2 ^ under ≡ 0 = div-eq_of_lt small in
    rw (doubled d n, ← before, left_number under d n, sign) (lost_positive under (d * 2 ^ n) some)

negative_lost : (under d m n : ℕ) → 1 ≤ under → 2 ^ under ≤ d → d + m ≡ 2 * 2 ^ under → 0 < m → nat_lt (2 ^ under) (m * 2 ^ n) ≡ (left_by_places under d n).lost
unfolding left_by_places differs
negative_lost under d m zero some negative total more = grind (arith, nat_tests)
negative_lost under d m (suc n) some negative total more =
    let before : nat_lt (2 ^ under) (m * 2 ^ n) ≡ (left_by_places under d n).lost = negative_lost under d m n some negative total more in
    let parts : d ≡ 1 * 2 ^ under + (d - 2 ^ under) = omega arith in
    let sign : d / 2 ^ under ≡ 1 = ap (λ x. x / 2 ^ under) parts ∙ shr_high 1 under (d - 2 ^ under) (omega arith) in
    rw (doubled m n, ← before, left_number under d n, sign)
    (lost_negative under (m * 2 ^ n) (d * 2 ^ n % 2 ^ under) some (low_of_negative under d m (2 ^ n) total (pow_pos n) more) (mul-lt 0 0 m (2 ^ n) more (pow_pos n)))

pub lost_places : (under d n : ℕ) → 1 ≤ under → d < 2 ^ (under + 1) → ash_overflows under d n ≡ (left_by_places under d n).lost
unfolding ash_overflows
lost_places under d n some small = elim (cases_lt d (2 ^ under)) [
  | inl positive ↦ (let sign : nat_le (2 ^ under) d ≡ false = grind (arith, nat_tests) in rw sign (positive_lost under d n some positive))
  | inr negative ↦
      (let sign : nat_le (2 ^ under) d ≡ true = grind (arith, nat_tests) in
      let both : 2 ^ (under + 1) ≡ 2 * 2 ^ under = twice under in
      rw sign (negative_lost under d (2 ^ (under + 1) - d) n some negative (omega arith) (omega arith)))
]
