-- LSH and LSHC as products and quotients, and bit by bit.
use Rattle.std.proofs.Common.{◌≡◌, inl, inr, ℕ, ◌+◌, ◌-◌, ◌*◌, ◌/◌, ◌%◌, ◌^◌, ◌<◌, Bool, true, false, ◌∙◌, ap, arith}
use Rattle.std.specs.Prelude.{cond, nat_lt}
use Rattle.std.specs.Int.{bit_at}
use Rattle.std.proofs.lemmas.Bool.{cases_lt}
use Rattle.std.proofs.lemmas.Bool.Decides.{nat_tests}
use Rattle.word36.specs.declared.opcodes.TheConstants.{LSH, LSHC}
use Rattle.word36.specs.Arithmetic.{moved}
use Rattle.word36.specs.Shifts.{double, is_right, logical, places, shifted, split}
use Rattle.word36.proofs.SingleBits.{bit_at_mod, bit_at_div, bit_at_shl_low, bit_at_shl_high}

-- the sides and the places of a number of 18 bits
places_left : (n : ℕ) → n < 256 → (is_right n ≡ false) × (places n ≡ n)
places_left n few =
    let side : is_right n ≡ false = grind (arith, nat_tests) in
    (side, rw side (omega arith))

places_right : (n : ℕ) → 0 < n → n < 256 → (is_right (2 ^ 18 - n) ≡ true) × (places (2 ^ 18 - n) ≡ n)
places_right n some few =
    let side : is_right (2 ^ 18 - n) ≡ true = grind (arith, nat_tests) in
    (side, rw side (omega arith))

shifted_one : (a a1 e : ℕ) (right : Bool) (n : ℕ) → is_right e ≡ right → places e ≡ n → shifted LSH a a1 e ≡ moved (logical 36 right a n)
unfolding shifted
shifted_one a a1 e right n side count = ap (λ (b : Bool). moved (logical 36 b a (places e))) side ∙ ap (λ (k : ℕ). moved (logical 36 right a k)) count

shifted_both : (a a1 e : ℕ) (right : Bool) (n : ℕ) → is_right e ≡ right → places e ≡ n → shifted LSHC a a1 e ≡ split (logical 72 right (double a a1) n)
unfolding shifted
shifted_both a a1 e right n side count = ap (λ (b : Bool). split (logical 72 b (double a a1) (places e))) side ∙ ap (λ (k : ℕ). split (logical 72 right (double a a1) k)) count

pub multiplies : (a a1 n : ℕ) → n < 256 → shifted LSH a a1 n ≡ moved (a * 2 ^ n % 2 ^ 36)
unfolding logical
multiplies a a1 n few = let at = places_left n few in shifted_one a a1 n false n at.0 at.1

pub divides : (a a1 n : ℕ) → 0 < n → n < 256 → shifted LSH a a1 (2 ^ 18 - n) ≡ moved (a / 2 ^ n)
unfolding logical
divides a a1 n some few = let at = places_right n some few in shifted_one a a1 (2 ^ 18 - n) true n at.0 at.1

pub multiplies_both : (a a1 n : ℕ) → n < 256 → shifted LSHC a a1 n ≡ split (double a a1 * 2 ^ n % 2 ^ 72)
unfolding logical
multiplies_both a a1 n few = let at = places_left n few in shifted_both a a1 n false n at.0 at.1

pub divides_both : (a a1 n : ℕ) → 0 < n → n < 256 → shifted LSHC a a1 (2 ^ 18 - n) ≡ split (double a a1 / 2 ^ n)
unfolding logical
divides_both a a1 n some few = let at = places_right n some few in shifted_both a a1 (2 ^ 18 - n) true n at.0 at.1

pub moves_left : (width d n i : ℕ) → i < width → bit_at (logical width false d n) i ≡ cond (nat_lt i n) 0 (bit_at d (i - n))
unfolding logical
moves_left width d n i inside = bit_at_mod (d * 2 ^ n) width i inside ∙ elim (cases_lt i n) [
  | inl less ↦ (let test : nat_lt i n ≡ true = grind (arith, nat_tests) in rw test (bit_at_shl_low d n i less))
  | inr more ↦ (let test : nat_lt i n ≡ false = grind (arith, nat_tests) in rw test (bit_at_shl_high d n i more))
]

pub moves_right : (width d n i : ℕ) → bit_at (logical width true d n) i ≡ bit_at d (i + n)
unfolding logical
moves_right width d n i = bit_at_div d n i (i + n) (omega arith)
