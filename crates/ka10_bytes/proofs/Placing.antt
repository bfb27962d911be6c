-- A byte in its place, bit by bit.
use Rattle.std.proofs.Common.{◌≡◌, ◌∙◌, inl, inr, ℕ, ◌+◌, ◌-◌, ◌*◌, ◌/◌, ◌%◌, ◌^◌, ◌<◌, ◌≤◌, min, max, refl, sym, ap, arith}
use Rattle.std.specs.Prelude.{bit_and, bit_or}
use Rattle.std.specs.Int.{bit_at}
use Rattle.std.proofs.lemmas.Bool.{cases_lt}
use mir.Syntax.{w64}
use Rattle.std.proofs.lemmas.Nat.{pow_pos, pow-add, mod_below, shr_le, and_mask}
use Rattle.std.proofs.Math.Nat.{mod-le, mod-eq_of_lt}
use Rattle.std.proofs.lemmas.Nat.Bits.{bit_at-lt, bit_at_and, bit_at_or, bit_at_not, bit_at_ones, bit_at_ones_above, bit_at_cat_low, bit_at_cat_high, same_from_bits, same_from_bits_below}
use Rattle.word36.specs.Bytes.{with_byte_at}
use Rattle.word36.proofs.SingleBits.{bit_at_mod, bit_at_mod_above, bit_at_div, bit_at_shl_low, bit_at_shl_high}

-- the three parts, the left two as one
parts : (p s a b c : ℕ) → a * 2 ^ (p + s) + b * 2 ^ p + c ≡ (a * 2 ^ s + b) * 2 ^ p + c
parts p s a b c = rw (pow-add 2 p s) (omega arith)

pub right_of_place : (p s w b i : ℕ) → i < 36 → i < p → bit_at (with_byte_at p s w b) i ≡ bit_at w i
right_of_place p s w b i here h =
    bit_at_mod _ 36 i here ∙ ap (λ x. bit_at x i) (parts p s (w / 2 ^ (p + s)) (b % 2 ^ s) (w % 2 ^ p)) ∙
    bit_at_cat_low (w / 2 ^ (p + s) * 2 ^ s + b % 2 ^ s) p (w % 2 ^ p) i h ∙ bit_at_mod w p i h

pub in_place : (p s w b i : ℕ) → i < 36 → p ≤ i → i < p + s → bit_at (with_byte_at p s w b) i ≡ bit_at b (i - p)
in_place p s w b i here h inside =
    bit_at_mod _ 36 i here ∙ ap (λ x. bit_at x i) (parts p s (w / 2 ^ (p + s)) (b % 2 ^ s) (w % 2 ^ p)) ∙
    bit_at_cat_high (w / 2 ^ (p + s) * 2 ^ s + b % 2 ^ s) p (w % 2 ^ p) i (mod_below w (2 ^ p) (pow_pos p)) h ∙
    bit_at_cat_low (w / 2 ^ (p + s)) s (b % 2 ^ s) (i - p) (omega arith) ∙ bit_at_mod b s (i - p) (omega arith)

pub left_of_place : (p s w b i : ℕ) → i < 36 → p + s ≤ i → bit_at (with_byte_at p s w b) i ≡ bit_at w i
left_of_place p s w b i here h =
    bit_at_mod _ 36 i here ∙ ap (λ x. bit_at x i) (parts p s (w / 2 ^ (p + s)) (b % 2 ^ s) (w % 2 ^ p)) ∙
    bit_at_cat_high (w / 2 ^ (p + s) * 2 ^ s + b % 2 ^ s) p (w % 2 ^ p) i (mod_below w (2 ^ p) (pow_pos p)) (omega arith) ∙
    bit_at_cat_high (w / 2 ^ (p + s)) s (b % 2 ^ s) (i - p) (mod_below b (2 ^ s) (pow_pos s)) (omega arith) ∙
    bit_at_div w (p + s) (i - p - s) i (omega arith)

-- a byte of a word by shift and mask
pub taken : (v p s o w : ℕ) → v < 2 ^ 36 → o ≡ 2 ^ s - 1 → w ≡ bit_and (v / 2 ^ p) o % 2 ^ 36 → w ≡ v / 2 ^ p % 2 ^ s
taken v p s o w small ones e =
    let less : v / 2 ^ p % 2 ^ s ≤ v / 2 ^ p = mod-le (v / 2 ^ p) (2 ^ s) in
    let less' : v / 2 ^ p ≤ v = shr_le v p in
    let below : v / 2 ^ p % 2 ^ s < 2 ^ 36 = omega arith in
    e ∙ rw (ones, and_mask (v / 2 ^ p) s) (mod-eq_of_lt below)

-- the mask in its place
mask_right : (p s i : ℕ) → i < 64 → i < p → bit_at ((2 ^ s - 1) * 2 ^ p % 2 ^ 64) i ≡ 0
mask_right p s i here h = bit_at_mod _ 64 i here ∙ bit_at_shl_low (2 ^ s - 1) p i h

mask_in : (p s i : ℕ) → i < 64 → p ≤ i → i < p + s → bit_at ((2 ^ s - 1) * 2 ^ p % 2 ^ 64) i ≡ 1
mask_in p s i here h inside = bit_at_mod _ 64 i here ∙ (bit_at_shl_high (2 ^ s - 1) p i h ∙ bit_at_ones s (i - p) (omega arith))

mask_left : (p s i : ℕ) → i < 64 → p + s ≤ i → bit_at ((2 ^ s - 1) * 2 ^ p % 2 ^ 64) i ≡ 0
mask_left p s i here h = bit_at_mod _ 64 i here ∙ (bit_at_shl_high (2 ^ s - 1) p i (omega arith) ∙ bit_at_ones_above s (i - p) (omega arith))

-- one bit of what shifts and masks make
put_bit : (p s v b i : ℕ) → i < 36 → bit_at (bit_or (bit_and v (2 ^ 64 - 1 - (2 ^ s - 1) * 2 ^ p % 2 ^ 64)) (bit_and b (2 ^ s - 1) * 2 ^ p % 2 ^ 64)) i ≡
    max (min (bit_at v i) (1 - bit_at ((2 ^ s - 1) * 2 ^ p % 2 ^ 64) i)) (bit_at (bit_and b (2 ^ s - 1) * 2 ^ p) i)
put_bit p s v b i here =
    let small : (2 ^ s - 1) * 2 ^ p % 2 ^ 64 < 2 ^ 64 = mod_below ((2 ^ s - 1) * 2 ^ p) (2 ^ 64) (pow_pos 64) in
    let wide : i < 64 = omega arith in
    rw (bit_at_or, bit_at_and v _ i, bit_at_not w64 ((2 ^ s - 1) * 2 ^ p % 2 ^ 64) i small wide, bit_at_mod (bit_and b (2 ^ s - 1) * 2 ^ p) 64 i wide) refl

put_right : (p s v b i : ℕ) → i < 36 → i < p → max (min (bit_at v i) (1 - bit_at ((2 ^ s - 1) * 2 ^ p % 2 ^ 64) i)) (bit_at (bit_and b (2 ^ s - 1) * 2 ^ p) i) ≡ bit_at v i
put_right p s v b i here h =
    let one : bit_at v i < 2 = bit_at-lt v i in
    rw (mask_right p s i (omega arith) h, bit_at_shl_low (bit_and b (2 ^ s - 1)) p i h) (omega arith)

put_in : (p s v b i : ℕ) → i < 36 → p ≤ i → i < p + s → max (min (bit_at v i) (1 - bit_at ((2 ^ s - 1) * 2 ^ p % 2 ^ 64) i)) (bit_at (bit_and b (2 ^ s - 1) * 2 ^ p) i) ≡ bit_at b (i - p)
put_in p s v b i here h inside =
    let one : bit_at b (i - p) < 2 = bit_at-lt b (i - p) in
    rw (mask_in p s i (omega arith) h inside, bit_at_shl_high (bit_and b (2 ^ s - 1)) p i h, bit_at_and b (2 ^ s - 1) (i - p), bit_at_ones s (i - p) (omega arith)) (omega arith)

put_left : (p s v b i : ℕ) → i < 36 → p + s ≤ i → max (min (bit_at v i) (1 - bit_at ((2 ^ s - 1) * 2 ^ p % 2 ^ 64) i)) (bit_at (bit_and b (2 ^ s - 1) * 2 ^ p) i) ≡ bit_at v i
put_left p s v b i here h =
    let one : bit_at v i < 2 = bit_at-lt v i in
    rw (mask_left p s i (omega arith) h, bit_at_shl_high (bit_and b (2 ^ s - 1)) p i (omega arith), bit_at_and b (2 ^ s - 1) (i - p), bit_at_ones_above s (i - p) (omega arith)) (omega arith)

same_bit : (p s v b i : ℕ) → i < 36 → max (min (bit_at v i) (1 - bit_at ((2 ^ s - 1) * 2 ^ p % 2 ^ 64) i)) (bit_at (bit_and b (2 ^ s - 1) * 2 ^ p) i) ≡ bit_at (with_byte_at p s v b) i
same_bit p s v b i here = elim (cases_lt i p) [
  | inl right ↦ put_right p s v b i here right ∙ sym (right_of_place p s v b i here right)
  | inr more ↦ elim (cases_lt i (p + s)) [
    | inl inside ↦ put_in p s v b i here more inside ∙ sym (in_place p s v b i here more inside)
    | inr left ↦ put_left p s v b i here left ∙ sym (left_of_place p s v b i here left)
  ]
]

-- a word with a byte in place by shifts and masks
pub put : (p s o v b w : ℕ) → o ≡ 2 ^ s - 1 → w ≡ bit_or (bit_and v (2 ^ 64 - 1 - o * 2 ^ p % 2 ^ 64)) (bit_and b o * 2 ^ p % 2 ^ 64) % 2 ^ 36 → w ≡ with_byte_at p s v b
put p s o v b w ones e =
    let e' : w ≡ bit_or (bit_and v (2 ^ 64 - 1 - (2 ^ s - 1) * 2 ^ p % 2 ^ 64)) (bit_and b (2 ^ s - 1) * 2 ^ p % 2 ^ 64) % 2 ^ 36 = rw ones at e in
    let x : ℕ = bit_or (bit_and v (2 ^ 64 - 1 - (2 ^ s - 1) * 2 ^ p % 2 ^ 64)) (bit_and b (2 ^ s - 1) * 2 ^ p % 2 ^ 64) in
    e' ∙ same_from_bits_below 36 (x % 2 ^ 36) (with_byte_at p s v b) (mod_below x (2 ^ 36) (pow_pos 36)) (mod_below _ (2 ^ 36) (pow_pos 36))
    (λ i here. bit_at_mod x 36 i here ∙ (put_bit p s v b i here ∙ same_bit p s v b i here))

-- one bit of the byte that is loaded after a byte is deposited
loaded_bit : (p s w b i : ℕ) → bit_at (with_byte_at p s w b / 2 ^ p % 2 ^ s) i ≡ bit_at (b % 2 ^ min s (36 - p)) i
loaded_bit p s w b i = elim (cases_lt i s) [
  | inr past ↦ bit_at_mod_above (with_byte_at p s w b / 2 ^ p) s i past ∙ sym (bit_at_mod_above b (min s (36 - p)) i (omega arith))
  | inl few ↦ elim (cases_lt (p + i) 36) [
    | inl inside ↦
        (let back : p + i - p ≡ i = omega arith in
        bit_at_mod (with_byte_at p s w b / 2 ^ p) s i few ∙ (bit_at_div (with_byte_at p s w b) p i (p + i) refl ∙
        (in_place p s w b (p + i) inside (omega arith) (omega arith) ∙ (ap (λ x. bit_at b x) back ∙ sym (bit_at_mod b (min s (36 - p)) i (omega arith))))))
    | inr outside ↦
        bit_at_mod (with_byte_at p s w b / 2 ^ p) s i few ∙ (bit_at_div (with_byte_at p s w b) p i (p + i) refl ∙
        (bit_at_mod_above _ 36 (p + i) outside ∙ sym (bit_at_mod_above b (min s (36 - p)) i (omega arith))))
  ]
]

pub loads : (p s w b : ℕ) → with_byte_at p s w b / 2 ^ p % 2 ^ s ≡ b % 2 ^ min s (36 - p)
loads p s w b = same_from_bits (with_byte_at p s w b / 2 ^ p % 2 ^ s) (b % 2 ^ min s (36 - p)) (loaded_bit p s w b)

-- one bit of a word whose byte is loaded and deposited again
again_bit : (p s w i : ℕ) → i < 36 → bit_at (with_byte_at p s w (w / 2 ^ p % 2 ^ s)) i ≡ bit_at w i
again_bit p s w i here = elim (cases_lt i p) [
  | inl right ↦ right_of_place p s w (w / 2 ^ p % 2 ^ s) i here right
  | inr more ↦ elim (cases_lt i (p + s)) [
    | inl inside ↦ in_place p s w (w / 2 ^ p % 2 ^ s) i here more inside ∙ (bit_at_mod (w / 2 ^ p) s (i - p) (omega arith) ∙ bit_at_div w p (i - p) i (omega arith))
    | inr left ↦ left_of_place p s w (w / 2 ^ p % 2 ^ s) i here left
  ]
]

pub stays : (p s w : ℕ) → w < 2 ^ 36 → with_byte_at p s w (w / 2 ^ p % 2 ^ s) ≡ w
stays p s w small = same_from_bits_below 36 (with_byte_at p s w (w / 2 ^ p % 2 ^ s)) w (mod_below _ (2 ^ 36) (pow_pos 36)) small (again_bit p s w)
