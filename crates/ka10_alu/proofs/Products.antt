-- Products of words.
use Rattle.std.proofs.Common.{◌≡◌, ◌≢◌, inl, inr, ℕ, ◌+◌, ◌-◌, ◌*◌, ◌/◌, ◌%◌, ◌^◌, ◌<◌, ◌≤◌, Bool, true, false, refl, sym, ◌∙◌, ap, subst, arith, eq-eqb}
use Rattle.std.specs.Prelude.{not, ◌&&◌, ◌==◌, ◌↔◌, cond, ℤ, pos, negsuc, ◌+ℤ◌, ◌*ℤ◌, int_lt, unsigned_abs}
use Rattle.std.specs.Int.{int_div_euclid, int_rem_euclid}
use Rattle.std.proofs.lemmas.Bool.Decides.{eqb_tells}
use Rattle.std.proofs.lemmas.Int.{ints, unsigned_abs-mul}
use Rattle.std.proofs.lemmas.Nat.{mul-le, mod_low}
use Rattle.word36.specs.Words.{signed, word_of, IsWord}
use Rattle.word36.specs.Arithmetic.{is_signed_word, multiplied, multiplied_short}
use Rattle.ka10_alu.specs.Laws.{IsProduct}
use Rattle.ka10_alu.proofs.Sums.{inside, over, under, sized, fits}
use Rattle.ka10_alu.proofs.Divisions.{signed-word_of, not_negative}

word_is_signed : (w : ℕ) → w < 2 ^ 36 → is_signed_word (signed w) ≡ true
word_is_signed w small = fits (signed w) (omega (arith, ints)) (omega (arith, ints))

abbrev short : ℤ → ℕ
short p = cond (int_lt p (pos 0)) (2 ^ 35) 0 + unsigned_abs (int_rem_euclid p (pos (2 ^ 35)))

short_is : (p : ℤ) → is_signed_word p ≡ true → signed (short p) ≡ p
short_is (pos n) is = elim (sized (pos n)) [
  | inside _ low high ↦ rw (not_negative n) (omega (arith, ints))
  | over other _ ↦ absurd (cc (is, other))
  | under other _ ↦ absurd (cc (is, other))
]
short_is (negsuc n) is = elim (sized (negsuc n)) [
  | inside _ low high ↦ omega (arith, ints)
  | over other _ ↦ absurd (cc (is, other))
  | under other _ ↦ absurd (cc (is, other))
]

choice_below : (b : Bool) → cond b (2 ^ 35) 0 ≤ 2 ^ 35
choice_below true = omega arith
choice_below false = omega arith

rest_below : (p : ℤ) → unsigned_abs (int_rem_euclid p (pos (2 ^ 35))) < 2 ^ 35
rest_below (pos n) = omega arith
rest_below (negsuc n) = omega arith

short_below : (p : ℤ) → short p < 2 ^ 36
short_below p = omega (arith, choice_below (int_lt p (pos 0)), rest_below p)

when_not : (b : Bool) → not b ≡ false → b ≡ true
when_not true h = refl
when_not false h = absurd (cc)

pub short_product : (a m : ℕ) → ((multiplied_short a m).flags.overflow ≡ false) ↔ (signed (multiplied_short a m).word ≡ signed a *ℤ signed m)
short_product a m = (
  (λ h. short_is (signed a *ℤ signed m) (when_not (is_signed_word (signed a *ℤ signed m)) h)),
  (λ h. let same : is_signed_word (signed a *ℤ signed m) ≡ true = ap is_signed_word (sym h) ∙ word_is_signed (short (signed a *ℤ signed m)) (short_below (signed a *ℤ signed m)) in ap not same),
)

-- where the magnitude is below 2^70 the quotient is a signed word
quotient_fits : (p : ℤ) → unsigned_abs p < 2 ^ 70 → is_signed_word (int_div_euclid p (pos (2 ^ 35))) ≡ true
quotient_fits (pos n) small = let h : n / 2 ^ 35 < 2 ^ 35 = omega arith in fits (pos (n / 2 ^ 35)) (omega (arith, ints)) (omega (arith, ints))
quotient_fits (negsuc n) small = let h : n / 2 ^ 35 < 2 ^ 35 = omega arith in fits (negsuc (n / 2 ^ 35)) (omega (arith, ints)) (omega (arith, ints))

whole : (p : ℤ) → int_div_euclid p (pos (2 ^ 35)) *ℤ pos (2 ^ 35) +ℤ pos (unsigned_abs (int_rem_euclid p (pos (2 ^ 35)))) ≡ p
whole (pos n) = omega (arith, ints)
whole (negsuc n) = omega (arith, ints)

magnitude_most : (a : ℕ) → a < 2 ^ 36 → unsigned_abs (signed a) ≤ 2 ^ 35
magnitude_most a small = omega (arith, ints)

magnitude_less : (a : ℕ) → a < 2 ^ 36 → a ≢ 2 ^ 35 → unsigned_abs (signed a) ≤ 2 ^ 35 - 1
magnitude_less a small other = omega (arith, ints)

-- two words, or one that is not the least, or the other
data Least (a m : ℕ) : Type 0 where
  both : a ≡ 2 ^ 35 → m ≡ 2 ^ 35 → Least a m
  first_other : a ≢ 2 ^ 35 → ((a == 2 ^ 35) && (m == 2 ^ 35)) ≡ false → Least a m
  second_other : m ≢ 2 ^ 35 → ((a == 2 ^ 35) && (m == 2 ^ 35)) ≡ false → Least a m

least : (a m : ℕ) → Least a m
least a m = elim (eqb_tells a (2 ^ 35)) [
  | inr away ↦ first_other away.1 (rw away.0 refl)
  | inl here ↦ elim (eqb_tells m (2 ^ 35)) [
    | inr away ↦ second_other away.1 (rw (here.0, away.0) refl)
    | inl also ↦ both here.1 also.1
  ]
]

product_small : (x y : ℤ) → unsigned_abs x * unsigned_abs y < 2 ^ 70 → unsigned_abs (x *ℤ y) < 2 ^ 70
product_small x y h = rw (unsigned_abs-mul x y) h

long_is : (p : ℤ) (h : ℕ) → unsigned_abs p < 2 ^ 70 → h ≡ word_of (int_div_euclid p (pos (2 ^ 35))) →
    signed h *ℤ pos (2 ^ 35) +ℤ pos ((h / 2 ^ 35 * 2 ^ 35 + unsigned_abs (int_rem_euclid p (pos (2 ^ 35)))) % 2 ^ 35) ≡ p
long_is p h small is =
    let high : signed h ≡ int_div_euclid p (pos (2 ^ 35)) = ap (λ x. signed x) is ∙ signed-word_of (int_div_euclid p (pos (2 ^ 35))) (quotient_fits p small) in
    let low : (h / 2 ^ 35 * 2 ^ 35 + unsigned_abs (int_rem_euclid p (pos (2 ^ 35)))) % 2 ^ 35 ≡ unsigned_abs (int_rem_euclid p (pos (2 ^ 35))) = mod_low (h / 2 ^ 35) 35 (unsigned_abs (int_rem_euclid p (pos (2 ^ 35)))) (rest_below p) in
    rw (high, low) (whole p)

contradicts : (a m : ℕ) → (a == 2 ^ 35) ≡ true → (m == 2 ^ 35) ≡ true → ((a == 2 ^ 35) && (m == 2 ^ 35)) ≡ false → ⊥
contradicts a m first second h = let e : ((a == 2 ^ 35) && (m == 2 ^ 35)) ≡ true = rw (first, second) refl in cc (e, h)

least_differs : IsProduct (signed (2 ^ 35) *ℤ signed (2 ^ 35)) (multiplied (2 ^ 35) (2 ^ 35)) → ⊥
least_differs h = cc

pub long_product : (a m : ℕ) → IsWord a → IsWord m → ((multiplied a m).flags.overflow ≡ false) ↔ IsProduct (signed a *ℤ signed m) (multiplied a m)
long_product a m small_a small_m = elim (least a m) [
  | both first second ↦
      (let P : ℕ → ℕ → Type 0 = λ x y. IsProduct (signed x *ℤ signed y) (multiplied x y) in
      let set : (a == 2 ^ 35) ≡ true = eq-eqb a (2 ^ 35) first in
      let set' : (m == 2 ^ 35) ≡ true = eq-eqb m (2 ^ 35) second in
      (λ h. absurd (contradicts a m set set' h), λ h. absurd (least_differs (subst (λ (y : ℕ). P (2 ^ 35) y) second (subst (λ (x : ℕ). P x m) first h)))))
  | first_other away is ↦
      (λ h. long_is (signed a *ℤ signed m) _ (product_small (signed a) (signed m) (omega (arith, mul-le (unsigned_abs (signed a)) (unsigned_abs (signed m)) (2 ^ 35 - 1) (2 ^ 35) (magnitude_less a small_a away) (magnitude_most m small_m)))) refl, λ h. is)
  | second_other away is ↦
      (λ h. long_is (signed a *ℤ signed m) _ (product_small (signed a) (signed m) (omega (arith, mul-le (unsigned_abs (signed a)) (unsigned_abs (signed m)) (2 ^ 35) (2 ^ 35 - 1) (magnitude_most a small_a) (magnitude_less m small_m away)))) refl, λ h. is)
]
