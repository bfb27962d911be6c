-- Quotients and remainders of words.
use Rattle.std.proofs.Common.{◌≡◌, ◌≢◌, ◌⊎◌, inl, inr, ℕ, zero, suc, ◌%◌, ◌^◌, ◌<◌, ◌≤◌, Bool, true, false, refl, sym, ◌∙◌, subst, arith}
use Rattle.std.specs.Prelude.{not, ◌&&◌, ◌==◌, ℤ, pos, negsuc, neg_ℤ, ◌≤ℤ◌, ◌<ℤ◌, int_lt, int_div, int_rem, unsigned_abs, cond, Some, None}
use Rattle.std.proofs.lemmas.Bool.{eqb-false}
use Rattle.std.proofs.lemmas.Bool.Decides.{nat_tests}
use Rattle.std.proofs.lemmas.Int.{ints, quot-rem, rem_below}
use Rattle.word36.specs.Words.{signed, word_of, IsWord}
use Rattle.word36.specs.Arithmetic.{Outcome, in_two_words, is_signed_word, is_divisible, divided}
use Rattle.ka10_alu.specs.Laws.{Divides, IsQuotient}
use Rattle.ka10_alu.proofs.Sums.{inside, over, under, sized, fits}

back : (z : ℤ) → neg_ℤ (pos (2 ^ 35)) ≤ℤ z → z <ℤ pos (2 ^ 35) → signed (word_of z) ≡ z
back (pos n) low high = omega (arith, ints)
back (negsuc n) low high = omega (arith, ints)

-- a signed word is the signed value of its word
pub signed-word_of : (z : ℤ) → is_signed_word z ≡ true → signed (word_of z) ≡ z
signed-word_of z is = elim (sized z) [
  | inside _ low high ↦ back z low high
  | over other _ ↦ absurd (cc (is, other))
  | under other _ ↦ absurd (cc (is, other))
]

-- a small number is a signed word
pub small_is_signed : (z : ℤ) → unsigned_abs z < 2 ^ 35 → is_signed_word z ≡ true
small_is_signed (pos n) small = fits (pos n) (omega (arith, ints)) (omega (arith, ints))
small_is_signed (negsuc n) small = fits (negsuc n) (omega (arith, ints)) (omega (arith, ints))

pub not_negative : (n : ℕ) → int_lt (pos n) (pos 0) ≡ false
not_negative n = grind (arith, nat_tests)

negated_sign : (n : ℕ) → (neg_ℤ (pos n) ≡ pos 0) ⊎ (int_lt (neg_ℤ (pos n)) (pos 0) ≡ true)
negated_sign zero = inl refl
negated_sign (suc n) = inr refl

sign_of_remainder : (a d : ℤ) → (int_rem a d ≡ pos 0) ⊎ (int_lt (int_rem a d) (pos 0) ≡ int_lt a (pos 0))
sign_of_remainder (pos a) (pos d) = inr (not_negative (a % d) ∙ sym (not_negative a))
sign_of_remainder (pos a) (negsuc d) = inr (not_negative (a % suc d) ∙ sym (not_negative a))
sign_of_remainder (negsuc a) (pos d) = negated_sign (suc a % d)
sign_of_remainder (negsuc a) (negsuc d) = negated_sign (suc a % suc d)

divisor_some : (m : ℕ) → m < 2 ^ 36 → (m == 0) ≡ false → 0 < unsigned_abs (signed m)
divisor_some m small some = let not_zero : m ≢ 0 = eqb-false m 0 some in omega (arith, ints)

divisor_most : (m : ℕ) → m < 2 ^ 36 → unsigned_abs (signed m) ≤ 2 ^ 35
divisor_most m small = omega (arith, ints)

-- what a division that is done says: the divisor isn't 0, and the quotient is a signed word
divisible_parts : (zero_divisor fits_word : Bool) → (not zero_divisor && fits_word) ≡ true → (zero_divisor ≡ false) × (fits_word ≡ true)
divisible_parts true fits_word h = absurd (cc)
divisible_parts false fits_word h = (refl, h)

divides_by : (dividend : ℤ) (m : ℤ) → 0 < unsigned_abs m → unsigned_abs m ≤ 2 ^ 35 → is_signed_word (int_div dividend m) ≡ true →
    Divides dividend m (signed (word_of (int_div dividend m))) (signed (word_of (int_rem dividend m)))
divides_by dividend m some most fits_word =
    let smaller : unsigned_abs (int_rem dividend m) < unsigned_abs m = rem_below dividend m some in
    rw (signed-word_of (int_div dividend m) fits_word, signed-word_of (int_rem dividend m) (small_is_signed (int_rem dividend m) (omega arith)))
    (record { whole = quot-rem dividend m; smaller = smaller; sign = sign_of_remainder dividend m })

abbrev record_of : ℤ → ℕ → Outcome
record_of dividend m = in_two_words (word_of (int_div dividend (signed m))) (word_of (int_rem dividend (signed m))) false

done : (dividend : ℤ) (m : ℕ) (o : Outcome) (b : Bool) → IsWord m → is_divisible dividend m ≡ b →
    cond b (Some (record_of dividend m)) None ≡ Some o →
    IsQuotient dividend (signed m) o
done dividend m o true small b is =
    let parts = divisible_parts (m == 0) (is_signed_word (int_div dividend (signed m))) b in
    let same : record_of dividend m ≡ o = cc in
    subst (λ (x : Outcome). IsQuotient dividend (signed m) x) same (divides_by dividend (signed m) (divisor_some m small parts.0) (divisor_most m small) parts.1)
done dividend m o false small b is = absurd (cc)

pub divides : (dividend : ℤ) (m : ℕ) (o : Outcome) → IsWord m → divided dividend m ≡ Some o → IsQuotient dividend (signed m) o
divides dividend m o small is = done dividend m o (is_divisible dividend m) small refl is
