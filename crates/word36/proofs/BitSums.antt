-- Numbers as sums of their bits.
use Rattle.std.proofs.Common.{◌≡◌, ℕ, zero, suc, ◌+◌, ◌-◌, ◌*◌, ◌%◌, ◌^◌, ◌<◌, ◌≤◌, inl, inr, sym, ◌∙◌, ap, arith, lit<}
use Rattle.std.proofs.lemmas.Bool.{cases_lt}
use Rattle.std.proofs.lemmas.Nat.Bits.{bit_at_lowest, bit_at_cat_low, bit_at_cat_high}
use Rattle.std.specs.Int.{bit_at}
use Rattle.std.proofs.lemmas.Nat.{mod-pow-add}
use Rattle.std.proofs.Math.Nat.{mod-one, mod-eq_of_lt, mul-le-mul_right, pow-suc}
use Rattle.std.proofs.Math.Numerals.{one-add}
use Rattle.word36.specs.Bits.{from_bits}

-- a number is its low part and its bit n
low_and_bit : (w n : ℕ) → w % 2 ^ suc n ≡ w % 2 ^ n + bit_at w n * 2 ^ n
low_and_bit w n = let e : w % 2 ^ (1 + n) ≡ bit_at w n * 2 ^ n + w % 2 ^ n = mod-pow-add w 1 n in let f : w % 2 ^ suc n ≡ bit_at w n * 2 ^ n + w % 2 ^ n = rw one-add at e in omega arith

-- a number's low n bits are the sum of its bits
pub from_bits_of : (n w : ℕ) (b : ℕ → ℕ) → ((i : ℕ) → i < n → bit_at w i ≡ b i) → w % 2 ^ n ≡ from_bits n b
unfolding from_bits
from_bits_of zero w b same = mod-one w
from_bits_of (suc n) w b same =
    let before : w % 2 ^ n ≡ from_bits n b = from_bits_of n w b (λ i h. same i (omega arith)) in
    let here : bit_at w n * 2 ^ n ≡ b n * 2 ^ n = ap (λ x. x * 2 ^ n) (same n (omega arith)) in
    let whole : w % 2 ^ suc n ≡ w % 2 ^ n + bit_at w n * 2 ^ n = low_and_bit w n in
    whole ∙ cc

-- a number below 2 ^ n is the sum of its n bits
pub sum_of_bits : (n w : ℕ) (b : ℕ → ℕ) → w < 2 ^ n → ((i : ℕ) → i < n → bit_at w i ≡ b i) → w ≡ from_bits n b
sum_of_bits n w b small same = sym (mod-eq_of_lt small) ∙ from_bits_of n w b same

-- the sum of n bits is below 2 ^ n
pub from_bits-below : (n : ℕ) (b : ℕ → ℕ) → ((i : ℕ) → i < n → b i < 2) → from_bits n b < 2 ^ n
unfolding from_bits
from_bits-below zero b small = lit< tt
from_bits-below (suc n) b small =
    let rest : from_bits n b < 2 ^ n = from_bits-below n b (λ i h. small i (omega arith)) in
    let one : b n < 2 = small n (omega arith) in
    let most : b n * 2 ^ n ≤ 1 * 2 ^ n = mul-le-mul_right (2 ^ n) (omega arith) in
    let whole : 2 ^ suc n ≡ 2 ^ n * 2 = pow-suc 2 n in
    omega arith

-- and each of them is a bit of it
pub bit_at-from_bits : (n : ℕ) (b : ℕ → ℕ) → ((i : ℕ) → i < n → b i < 2) → (i : ℕ) → i < n → bit_at (from_bits n b) i ≡ b i
unfolding from_bits
bit_at-from_bits zero b small i inside = absurd (omega arith)
bit_at-from_bits (suc n) b small i inside =
    let turned : from_bits n b + b n * 2 ^ n ≡ b n * 2 ^ n + from_bits n b = omega arith in
    elim (cases_lt i n) [
      | inl less ↦ rw turned (bit_at_cat_low (b n) n (from_bits n b) i less ∙ bit_at-from_bits n b (λ j h. small j (omega arith)) i less)
      | inr more ↦
          (let here : i ≡ n = omega arith in
          let below : from_bits n b < 2 ^ n = from_bits-below n b (λ j h. small j (omega arith)) in
          let none : i - n ≡ 0 = omega arith in
          let one : b n < 2 = small n (omega arith) in
          let lowest : bit_at (b n) 0 ≡ b n = bit_at_lowest (b n) ∙ mod-eq_of_lt one in
          rw turned (bit_at_cat_high (b n) n (from_bits n b) i below (omega arith) ∙ (ap (bit_at (b n)) none ∙ (lowest ∙ ap b (sym here)))))
    ]
