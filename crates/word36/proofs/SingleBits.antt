-- Single bits of sums, quotients and remainders.
use Rattle.std.proofs.Common.{◌≡◌, ◌∙◌, ℕ, ◌+◌, ◌-◌, ◌*◌, ◌/◌, ◌%◌, ◌^◌, ◌<◌, ◌≤◌, sym, ap, add-zero}
use Rattle.std.specs.Int.{bit_at}
use Rattle.std.proofs.lemmas.Nat.{pow_pos, shr-shr, shr_split, mod_below}
use Rattle.std.proofs.lemmas.Nat.Bits.{bit_at_above, bit_at-zero, bit_at_cat_low, bit_at_cat_high}

pub bit_at_mod : (n k i : ℕ) → i < k → bit_at (n % 2 ^ k) i ≡ bit_at n i
bit_at_mod n k i h = sym (bit_at_cat_low (n / 2 ^ k) k (n % 2 ^ k) i h) ∙ ap (λ x. bit_at x i) (shr_split n k)

pub bit_at_mod_above : (n k i : ℕ) → k ≤ i → bit_at (n % 2 ^ k) i ≡ 0
bit_at_mod_above n k i h = bit_at_above (n % 2 ^ k) k i (mod_below n (2 ^ k) (pow_pos k)) h

pub bit_at_div : (n k i j : ℕ) → k + i ≡ j → bit_at (n / 2 ^ k) i ≡ bit_at n j
bit_at_div n k i j h = ap (λ x. x % 2) (shr-shr n k i) ∙ ap (λ x. n / 2 ^ x % 2) h

pub bit_at_shl_low : (a k i : ℕ) → i < k → bit_at (a * 2 ^ k) i ≡ 0
bit_at_shl_low a k i h = ap (λ x. bit_at x i) (sym (add-zero (a * 2 ^ k))) ∙ (bit_at_cat_low a k 0 i h ∙ bit_at-zero i)

pub bit_at_shl_high : (a k i : ℕ) → k ≤ i → bit_at (a * 2 ^ k) i ≡ bit_at a (i - k)
bit_at_shl_high a k i h = ap (λ x. bit_at x i) (sym (add-zero (a * 2 ^ k))) ∙ bit_at_cat_high a k 0 i (pow_pos k) h
