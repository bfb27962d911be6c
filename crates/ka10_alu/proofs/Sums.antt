-- Sums of words are signed sums where they fit.
use Rattle.std.proofs.Common.{◌≡◌, inl, inr, ℕ, ◌+◌, ◌-◌, ◌%◌, ◌^◌, ◌<◌, ◌≤◌, Bool, true, false, sym, ◌∙◌, ap, arith}
use Rattle.std.specs.Prelude.{nat_le, not, ◌↔◌, ℤ, pos, ◌+ℤ◌, ◌-ℤ◌, cond, neg_ℤ, ◌≤ℤ◌, ◌<ℤ◌}
use Rattle.std.proofs.lemmas.Bool.{cases_lt}
use Rattle.std.proofs.lemmas.Bool.Decides.{nat_tests}
use Rattle.std.proofs.lemmas.Int.{ints, by_lt_z}
use Rattle.word36.specs.Words.{signed}
use Rattle.word36.specs.Arithmetic.{sum_of, is_signed_word}
use Rattle.ka10_alu.specs.Laws.{Sums}

positive : (a : ℕ) → a < 2 ^ 35 → signed a ≡ pos a
positive a h = omega (arith, ints)

negative : (a : ℕ) → 2 ^ 35 ≤ a → a < 2 ^ 36 → signed a ≡ pos a -ℤ pos (2 ^ 36)
negative a h small = omega (arith, ints)

pub fits : (z : ℤ) → neg_ℤ (pos (2 ^ 35)) ≤ℤ z → z <ℤ pos (2 ^ 35) → is_signed_word z ≡ true
fits z low high = grind (arith, ints)

above : (z : ℤ) → pos (2 ^ 35) ≤ℤ z → is_signed_word z ≡ false
above z h = grind (arith, ints)

below : (z : ℤ) → z <ℤ neg_ℤ (pos (2 ^ 35)) → is_signed_word z ≡ false
below z h = grind (arith, ints)

-- a number is a signed word, or above or below them
pub data Sized (z : ℤ) : Type 0 where
  inside : is_signed_word z ≡ true → neg_ℤ (pos (2 ^ 35)) ≤ℤ z → z <ℤ pos (2 ^ 35) → Sized z
  over : is_signed_word z ≡ false → pos (2 ^ 35) ≤ℤ z → Sized z
  under : is_signed_word z ≡ false → z <ℤ neg_ℤ (pos (2 ^ 35)) → Sized z

pub sized : (z : ℤ) → Sized z
sized z = by_lt_z z (pos (2 ^ 35)) (λ h. by_lt_z z (neg_ℤ (pos (2 ^ 35))) (λ l. under (below z l) l) (λ l. inside (fits z l h) l h)) (λ h. over (above z h) h)

same_test : (k x l y : ℕ) → (k ≤ x → l ≤ y) → (x < k → y < l) → nat_le k x ≡ nat_le l y
same_test k x l y up down = elim (cases_lt x k) [
  | inl less ↦ (let other = down less in let p : nat_le k x ≡ false = grind (arith, nat_tests) in let q : nat_le l y ≡ false = grind (arith, nat_tests) in p ∙ sym q)
  | inr more ↦ (let other = up more in let p : nat_le k x ≡ true = grind (arith, nat_tests) in let q : nat_le l y ≡ true = grind (arith, nat_tests) in p ∙ sym q)
]

other_test : (k x l y : ℕ) → (k ≤ x → y < l) → (x < k → l ≤ y) → nat_le k x ≡ not (nat_le l y)
other_test k x l y up down = elim (cases_lt x k) [
  | inl less ↦ (let other = down less in let p : nat_le k x ≡ false = grind (arith, nat_tests) in let q : nat_le l y ≡ true = grind (arith, nat_tests) in p ∙ sym (ap not q))
  | inr more ↦ (let other = up more in let p : nat_le k x ≡ true = grind (arith, nat_tests) in let q : nat_le l y ≡ false = grind (arith, nat_tests) in p ∙ sym (ap not q))
]

-- overflow is where the carries differ
alike : (x y f : Bool) → f ≡ true → x ≡ y → (cond x (not y) y ≡ not f) × ((x ≡ y) ↔ (f ≡ true))
alike true true f is e = (ap not (sym is), (λ _. is, λ _. e))
alike false false f is e = (ap not (sym is), (λ _. is, λ _. e))
alike true false f is e = absurd (cc)
alike false true f is e = absurd (cc)

unlike : (x y f : Bool) → f ≡ false → x ≡ not y → (cond x (not y) y ≡ not f) × ((x ≡ y) ↔ (f ≡ true))
unlike true true f is e = absurd (cc)
unlike false false f is e = absurd (cc)
unlike true false f is e = (ap not (sym is), (λ h. absurd (cc), λ h. absurd (cc)))
unlike false true f is e = (ap not (sym is), (λ h. absurd (cc), λ h. absurd (cc)))

pub sums : (a m c : ℕ) → a < 2 ^ 36 → m < 2 ^ 36 → c < 2 → Sums (signed a +ℤ signed m +ℤ pos c) (sum_of a m c)
sums a m c small_a small_m small_c = elim (sized (signed a +ℤ signed m +ℤ pos c)) [
  | inside is low high ↦
      (let e = same_test (2 ^ 36) (a + m + c) (2 ^ 35) (a % 2 ^ 35 + m % 2 ^ 35 + c) (λ h. omega (arith, ints)) (λ h. omega (arith, ints)) in
      let both = alike (nat_le (2 ^ 36) (a + m + c)) (nat_le (2 ^ 35) (a % 2 ^ 35 + m % 2 ^ 35 + c)) _ is e in
      record { true_sum = λ _. omega (arith, ints); overflow = both.0; carries = both.1 })
  | over is high ↦
      (let e = other_test (2 ^ 36) (a + m + c) (2 ^ 35) (a % 2 ^ 35 + m % 2 ^ 35 + c) (λ h. omega (arith, ints)) (λ h. omega (arith, ints)) in
      let both = unlike (nat_le (2 ^ 36) (a + m + c)) (nat_le (2 ^ 35) (a % 2 ^ 35 + m % 2 ^ 35 + c)) _ is e in
      record { true_sum = λ h. absurd (cc); overflow = both.0; carries = both.1 })
  | under is low ↦
      (let e = other_test (2 ^ 36) (a + m + c) (2 ^ 35) (a % 2 ^ 35 + m % 2 ^ 35 + c) (λ h. omega (arith, ints)) (λ h. omega (arith, ints)) in
      let both = unlike (nat_le (2 ^ 36) (a + m + c)) (nat_le (2 ^ 35) (a % 2 ^ 35 + m % 2 ^ 35 + c)) _ is e in
      record { true_sum = λ h. absurd (cc); overflow = both.0; carries = both.1 })
]

pub added_is : (a m : ℕ) → signed a +ℤ signed m +ℤ pos 0 ≡ signed a +ℤ signed m
added_is a m = omega (arith, ints)

pub subtracted_is : (a m : ℕ) → m < 2 ^ 36 → signed a +ℤ signed (2 ^ 36 - 1 - m) +ℤ pos 1 ≡ signed a -ℤ signed m
subtracted_is a m small = omega (arith, ints)
