-- Boolean functions and tests, bit by bit.
use Rattle.std.proofs.Common.{◌≡◌, ℕ, zero, suc, ◌+◌, ◌-◌, ◌*◌, ◌/◌, ◌%◌, ◌<◌, Bool, true, false, refl, sym, ◌∙◌, ap, arith, lit<, lit≤, eq-eqb}
use Rattle.std.specs.Prelude.{◌==◌, ◌↔◌, cond, not, slice_index}
use Rattle.std.specs.Int.{bit_at}
use Rattle.std.proofs.lemmas.Bool.{eqb-true}
use Rattle.std.proofs.lemmas.Nat.Bits.{bit_at-lt, bit_at-zero, same_from_bits_below}
use Rattle.word36.specs.declared.opcodes.TheConstants.{AND, ANDCM, SETA, XOR, IOR, TRN}
use Rattle.word36.specs.Words.{IsWord, bit}
use Rattle.word36.specs.Boolean.{IsBoolean, boolean_bits, boolean_of, boolean_word, function_of}
use Rattle.word36.specs.Tests.{IsTest, tested, test_skips}
use Rattle.word36.proofs.BitSums.{from_bits-below, bit_at-from_bits}
use Rattle.ka10_alu.specs.MaskedBits.{truth, changed, ChangesMasked, AreMaskedClear}
use Rattle.ka10_alu.proofs.Tables.{listed_truth}

-- a truth table has bits
truth-lt : (f a m : ℕ) → truth f a m < 2
truth-lt f a m = bit_at-lt f (1 - a + 2 * (1 - m))

entry_below : (f a m : ℕ) → f < 16 → (i : ℕ) → i < 36 → slice_index (boolean_bits (bit_at a i) (bit_at m i)) f < 2
entry_below f a m few i h = rw (listed_truth f (bit_at a i) (bit_at m i) few (bit_at-lt a i) (bit_at-lt m i)) (truth-lt f (bit_at a i) (bit_at m i))

place_bit : (f a m i : ℕ) → f < 16 → i < 36 → bit_at (boolean_word f a m) i ≡ truth f (bit_at a i) (bit_at m i)
unfolding boolean_word
place_bit f a m i few h =
    bit_at-from_bits 36 (λ i. slice_index (boolean_bits (bit_at a i) (bit_at m i)) f) (entry_below f a m few) i h ∙
    listed_truth f (bit_at a i) (bit_at m i) few (bit_at-lt a i) (bit_at-lt m i)

pub boolean_bit : (op a m i : ℕ) → IsBoolean op → i < 36 → bit (boolean_of op a m) i ≡ truth (function_of op) (bit a i) (bit m i)
boolean_bit op a m i is h = place_bit (function_of op) a m (35 - i) (omega (arith, is.0, is.1)) (omega arith)

pub boolean-below : (op a m : ℕ) → IsBoolean op → IsWord (boolean_of op a m)
unfolding boolean_word
boolean-below op a m is =
    from_bits-below 36 (λ i. slice_index (boolean_bits (bit_at a i) (bit_at m i)) (function_of op)) (entry_below (function_of op) a m (omega (arith, is.0, is.1)))

-- the functions of the tests
by_function : (op f a m i : ℕ) → IsBoolean op → function_of op ≡ f → i < 36 → bit (boolean_of op a m) i ≡ truth f (bit a i) (bit m i)
by_function op f a m i is e h = boolean_bit op a m i is h ∙ ap (λ (g : ℕ). truth g (bit a i) (bit m i)) e

bit-lt : (w i : ℕ) → bit w i < 2
bit-lt w i = bit_at-lt w (35 - i)

-- what the tests' functions give at a masked bit, and at another
at_masked : (letter f : ℕ) → Type 0
at_masked letter f = (a : ℕ) → a < 2 → (truth f a 1 ≡ changed letter a) × (truth f a 0 ≡ a)

seta : at_masked 0 5
unfolding at_masked
seta zero h = (refl, refl)
seta (suc zero) h = (refl, refl)
seta (suc (suc a)) h = absurd (omega arith)

andcm : at_masked 1 4
unfolding at_masked
andcm zero h = (refl, refl)
andcm (suc zero) h = (refl, refl)
andcm (suc (suc a)) h = absurd (omega arith)

xor : at_masked 2 6
unfolding at_masked
xor zero h = (refl, refl)
xor (suc zero) h = (refl, refl)
xor (suc (suc a)) h = absurd (omega arith)

ior : at_masked 3 7
unfolding at_masked
ior zero h = (refl, refl)
ior (suc zero) h = (refl, refl)
ior (suc (suc a)) h = absurd (omega arith)

changes_by : (letter op f a mask : ℕ) → IsBoolean op → function_of op ≡ f → at_masked letter f → ChangesMasked letter a mask (boolean_of op a mask)
unfolding at_masked
changes_by letter op f a mask is e table = record {
  masked = λ i h one. by_function op f a mask i is e h ∙ (ap (truth f (bit a i)) one ∙ (table (bit a i) (bit-lt a i)).0);
  others = λ i h none. by_function op f a mask i is e h ∙ (ap (truth f (bit a i)) none ∙ (table (bit a i) (bit-lt a i)).1);
}

-- a letter's function
function_by : ℕ → ℕ
function_by letter = cond (letter == 0) SETA (cond (letter == 1) ANDCM (cond (letter == 2) XOR IOR))

by_letter : (letter a mask : ℕ) → letter < 4 → ChangesMasked letter a mask (boolean_of (function_by letter) a mask)
unfolding function_by
by_letter zero a mask h = changes_by 0 SETA 5 a mask (lit≤ tt, lit< tt) refl seta
by_letter (suc zero) a mask h = changes_by 1 ANDCM 4 a mask (lit≤ tt, lit< tt) refl andcm
by_letter (suc (suc zero)) a mask h = changes_by 2 XOR 6 a mask (lit≤ tt, lit< tt) refl xor
by_letter (suc (suc (suc zero))) a mask h = changes_by 3 IOR 7 a mask (lit≤ tt, lit< tt) refl ior
by_letter (suc (suc (suc (suc letter)))) a mask h = absurd (omega arith)

pub changes_masked : (op a mask : ℕ) → IsTest op → ChangesMasked ((op - TRN) / 0o20) a mask (tested op a mask)
unfolding function_by
changes_masked op a mask is = by_letter ((op - TRN) / 0o20) a mask (omega (arith, is.0, is.1))

-- the masked bits
clear_bit : (a m : ℕ) → a < 2 → m < 2 → (m ≡ 1 → a ≡ 0) → truth 1 a m ≡ 0
clear_bit zero zero ha hm h = refl
clear_bit zero (suc zero) ha hm h = refl
clear_bit (suc zero) zero ha hm h = refl
clear_bit (suc zero) (suc zero) ha hm h = absurd (let e : 1 ≡ 0 = h refl in omega arith)
clear_bit a (suc (suc m)) ha hm h = absurd (omega arith)
clear_bit (suc (suc a)) m ha hm h = absurd (omega arith)

masked_bit : (a : ℕ) → a < 2 → truth 1 a 1 ≡ a
masked_bit zero h = refl
masked_bit (suc zero) h = refl
masked_bit (suc (suc a)) h = absurd (omega arith)

and_bit : (a mask i : ℕ) → i < 36 → bit (boolean_of AND a mask) i ≡ truth 1 (bit a i) (bit mask i)
and_bit a mask i h = by_function AND 1 a mask i (lit≤ tt, lit< tt) refl h

clear_when_none : (a mask : ℕ) → boolean_of AND a mask ≡ 0 → AreMaskedClear a mask
clear_when_none a mask none i h one =
    let is : bit (boolean_of AND a mask) i ≡ truth 1 (bit a i) (bit mask i) = and_bit a mask i h in
    let zero_bit : bit (boolean_of AND a mask) i ≡ 0 = ap (λ (w : ℕ). bit w i) none ∙ bit_at-zero (35 - i) in
    sym (masked_bit (bit a i) (bit-lt a i)) ∙ (sym (ap (truth 1 (bit a i)) one) ∙ (sym is ∙ zero_bit))

none_when_clear : (a mask : ℕ) → AreMaskedClear a mask → boolean_of AND a mask ≡ 0
none_when_clear a mask clear =
    same_from_bits_below 36 (boolean_of AND a mask) 0 (boolean-below AND a mask (lit≤ tt, lit< tt)) (lit< tt)
    (λ i h.
    let back : 35 - (35 - i) ≡ i = omega arith in
    let here : bit (boolean_of AND a mask) (35 - i) ≡ truth 1 (bit a (35 - i)) (bit mask (35 - i)) = and_bit a mask (35 - i) (omega arith) in
    let none : truth 1 (bit a (35 - i)) (bit mask (35 - i)) ≡ 0 = clear_bit (bit a (35 - i)) (bit mask (35 - i)) (bit-lt a (35 - i)) (bit-lt mask (35 - i)) (clear (35 - i) (omega arith)) in
    ap (bit_at (boolean_of AND a mask)) (sym back) ∙ (here ∙ (none ∙ sym (bit_at-zero i))))

pub clear_tells : (a mask : ℕ) → ((boolean_of AND a mask == 0) ≡ true) ↔ AreMaskedClear a mask
clear_tells a mask = (
  (λ h. clear_when_none a mask (eqb-true (boolean_of AND a mask) 0 h)),
  (λ clear. eq-eqb (boolean_of AND a mask) 0 (none_when_clear a mask clear)),
)

when_not_false : (b : Bool) → (not b ≡ false) ↔ (b ≡ true)
when_not_false true = (λ h. refl, λ h. refl)
when_not_false false = (λ h. absurd (cc), λ h. absurd (cc))

pub not_clear_tells : (a mask : ℕ) → (not (boolean_of AND a mask == 0) ≡ false) ↔ AreMaskedClear a mask
not_clear_tells a mask =
    let first = when_not_false (boolean_of AND a mask == 0) in
    let second = clear_tells a mask in
    (λ h. second.0 (first.0 h), λ clear. first.1 (second.1 clear))

-- the four skips
skip_by : Bool → ℕ → Bool
skip_by none letter = cond (letter == 0) false (cond (letter == 1) none (cond (letter == 2) true (not none)))

pub skips_at : (op a mask letter : ℕ) → op % 8 / 2 ≡ letter → test_skips op a mask ≡ cond (letter == 0) false (cond (letter == 1) (boolean_of AND a mask == 0) (cond (letter == 2) true (not (boolean_of AND a mask == 0))))
unfolding skip_by
skips_at op a mask letter e = ap (skip_by (boolean_of AND a mask == 0)) e
