-- The sixteen Boolean functions out of four words.
use Rattle.std.proofs.Common.{◌≡◌, ℕ, zero, suc, ◌+◌, ◌-◌, ◌*◌, ◌%◌, ◌^◌, ◌<◌, inl, inr, Bool, true, false, min, max, refl, subst, arith}
use Rattle.std.specs.Prelude.{bit_and, bit_or, bit_xor, ◌&&◌, ◌==◌, slice_index}
use Rattle.std.specs.Int.{bit_at}
use Rattle.std.proofs.lemmas.Nat.Bits.{bit_at-lt, bit_at_and, bit_at_or, bit_at_xor, bit_at_ones}
use Rattle.std.proofs.lemmas.Bool.{cases_lt, eqb-true}
use Rattle.word36.specs.Boolean.{boolean_bits, boolean_word}
use Rattle.word36.proofs.BitSums.{from_bits_of}
use Rattle.ka10_alu.specs.MaskedBits.{truth}

-- one bit of the four words together, by the bits of the function's number
abbrev together : ℕ → ℕ → ℕ → ℕ
together f a m = max (max (max (bit_at f 0 * min a m) (bit_at f 1 * min (1 - a) m)) (bit_at f 2 * min a (1 - m))) (bit_at f 3 * min (1 - a) (1 - m))

-- two functions agree at so many numbers
pub all_agree : (ℕ → ℕ) → (ℕ → ℕ) → ℕ → Bool
all_agree g h zero = true
all_agree g h (suc n) = (g n == h n) && all_agree g h n

both_hold : (a b : Bool) → (a && b) ≡ true → (a ≡ true) × (b ≡ true)
both_hold true b h = (refl, h)
both_hold false b h = cc

agree_at : (g h : ℕ → ℕ) (n f : ℕ) → all_agree g h n ≡ true → f < n → g f ≡ h f
unfolding all_agree
agree_at g h zero f all inside = absurd (omega arith)
agree_at g h (suc n) f all inside = elim (cases_lt f n) [
  | inl less ↦ agree_at g h n f (both_hold (g n == h n) (all_agree g h n) all).1 less
  | inr more ↦ (let same : n ≡ f = omega arith in subst (λ (k : ℕ). g k ≡ h k) same (eqb-true (g n) (h n) (both_hold (g n == h n) (all_agree g h n) all).0))
]

abbrev Entry : Type 0
Entry = ℕ → ℕ → ℕ → ℕ

-- two tables that agree at each two bits for each of the sixteen functions
same_tables : (g h : Entry) →
    all_agree (λ f. g f 0 0) (λ f. h f 0 0) 16 ≡ true → all_agree (λ f. g f 0 1) (λ f. h f 0 1) 16 ≡ true →
    all_agree (λ f. g f 1 0) (λ f. h f 1 0) 16 ≡ true → all_agree (λ f. g f 1 1) (λ f. h f 1 1) 16 ≡ true →
    (f a m : ℕ) → f < 16 → a < 2 → m < 2 → g f a m ≡ h f a m
same_tables g h p q r s f zero zero hf ha hm = agree_at (λ f. g f 0 0) (λ f. h f 0 0) 16 f p hf
same_tables g h p q r s f zero (suc zero) hf ha hm = agree_at (λ f. g f 0 1) (λ f. h f 0 1) 16 f q hf
same_tables g h p q r s f (suc zero) zero hf ha hm = agree_at (λ f. g f 1 0) (λ f. h f 1 0) 16 f r hf
same_tables g h p q r s f (suc zero) (suc zero) hf ha hm = agree_at (λ f. g f 1 1) (λ f. h f 1 1) 16 f s hf
same_tables g h p q r s f a (suc (suc m)) hf ha hm = absurd (omega arith)
same_tables g h p q r s f (suc (suc a)) m hf ha hm = absurd (omega arith)

abbrev listed : Entry
listed f a m = slice_index (boolean_bits a m) f

-- computed for each function and each two bits
four_cases : (f a m : ℕ) → f < 16 → a < 2 → m < 2 → together f a m ≡ listed f a m
unfolding all_agree
four_cases = same_tables together listed refl refl refl refl

pub listed_truth : (f a m : ℕ) → f < 16 → a < 2 → m < 2 → slice_index (boolean_bits a m) f ≡ truth f a m
unfolding all_agree
listed_truth = same_tables listed truth refl refl refl refl

-- a bit of the complement
complement_bit : (w i : ℕ) → i < 36 → bit_at (bit_xor w 68719476735) i ≡ 1 - bit_at w i
complement_bit w i h =
    let ones : bit_at 68719476735 i ≡ 1 = bit_at_ones 36 i h in
    let is : bit_at (bit_xor w 68719476735) i ≡ (bit_at w i + bit_at 68719476735 i) % 2 = bit_at_xor w 68719476735 i in
    let small : bit_at w i < 2 = bit_at-lt w i in omega arith

-- four words, each where the function's number says so, make the function's word
pub picked_is : (f a m p q r s : ℕ) → f < 16 →
    ((i : ℕ) → bit_at p i ≡ bit_at f 0 * bit_at (bit_and a m) i) →
    ((i : ℕ) → bit_at q i ≡ bit_at f 1 * bit_at (bit_and (bit_xor a 68719476735) m) i) →
    ((i : ℕ) → bit_at r i ≡ bit_at f 2 * bit_at (bit_and a (bit_xor m 68719476735)) i) →
    ((i : ℕ) → bit_at s i ≡ bit_at f 3 * bit_at (bit_and (bit_xor a 68719476735) (bit_xor m 68719476735)) i) →
    bit_or (bit_or (bit_or p q) r) s % 2 ^ 36 ≡ boolean_word f a m
unfolding boolean_word
picked_is f a m p q r s hf hp hq hr hs =
    from_bits_of 36 (bit_or (bit_or (bit_or p q) r) s) (λ i. slice_index (boolean_bits (bit_at a i) (bit_at m i)) f) (λ i h.
    rw (bit_at_or, bit_at_or, bit_at_or, hp i, hq i, hr i, hs i, bit_at_and a m i, bit_at_and (bit_xor a 68719476735) m i, bit_at_and a (bit_xor m 68719476735) i, bit_at_and (bit_xor a 68719476735) (bit_xor m 68719476735) i, complement_bit a i h, complement_bit m i h)
    (four_cases f (bit_at a i) (bit_at m i) hf (bit_at-lt a i) (bit_at-lt m i)))
