-- Shifts as products and quotients by powers of 2.
use Rattle.std.proofs.Common.{◌≡◌, inl, inr, ℕ, ◌+◌, ◌-◌, ◌*◌, ◌/◌, ◌%◌, ◌^◌, ◌<◌, ◌≤◌, true, false, min, refl, sym, ◌∙◌, ap, subst, arith}
use Rattle.std.specs.Prelude.{nat_lt, nat_le, bit_or}
use Rattle.std.proofs.lemmas.Bool.{cases_lt}
use Rattle.std.proofs.lemmas.Bool.Decides.{nat_tests}
use Rattle.std.proofs.lemmas.Nat.{pow-add, mod-pow-add, mod_low, pow_pos, shr_le, shr_below, shr_split, shl_below, mod_below, or_shifted, or_lt, div_below, le-div, leading_length}
use Rattle.std.proofs.Math.Pow.{pow_mono}
use Rattle.std.proofs.Math.Nat.{div-eq_of_lt, mul-le-mul_right}
use Rattle.std.specs.Int.Count.{count_leading_zeros, leading_unique}
use Rattle.word36.specs.Shifts.{ash_overflows}

-- the low bits of what fits 128 bits are those of the whole
low_of_low : (n w : ℕ) → w ≤ 128 → n % 2 ^ 128 % 2 ^ w ≡ n % 2 ^ w
low_of_low n w within =
    let split : 128 ≡ (128 - w) + w = omega arith in
    let whole : n % 2 ^ ((128 - w) + w) ≡ (n / 2 ^ w % 2 ^ (128 - w)) * 2 ^ w + n % 2 ^ w = mod-pow-add n (128 - w) w in
    let P : ℕ → Type 0 = λ k. n % 2 ^ k ≡ (n / 2 ^ w % 2 ^ (128 - w)) * 2 ^ w + n % 2 ^ w in
    let same : n % 2 ^ 128 ≡ (n / 2 ^ w % 2 ^ (128 - w)) * 2 ^ w + n % 2 ^ w = subst P (sym split) whole in
    ap (λ x. x % 2 ^ w) same ∙ mod_low (n / 2 ^ w % 2 ^ (128 - w)) w (n % 2 ^ w) (mod_below n (2 ^ w) (pow_pos w))

past_mod : (a n k : ℕ) → k ≤ n → a * 2 ^ n % 2 ^ k ≡ 0
past_mod a n k h =
    let e : n ≡ (n - k) + k = omega arith in
    let f : 2 ^ n ≡ 2 ^ (n - k) * 2 ^ k = ap (λ x. 2 ^ x) e ∙ pow-add 2 (n - k) k in
    let g : a * 2 ^ n ≡ a * 2 ^ (n - k) * 2 ^ k + 0 = ap (λ x. a * x) f ∙ omega arith in
    rw g (mod_low (a * 2 ^ (n - k)) k 0 (pow_pos k))

past_div : (a n w : ℕ) → a < 2 ^ w → w ≤ n → a / 2 ^ n ≡ 0
past_div a n w small h = let more : 2 ^ w ≤ 2 ^ n = pow_mono {i = w} {j = n} h in let less : a < 2 ^ n = omega arith in div-eq_of_lt less

-- as many places as there are bits are as good as more
pub left_same : (a n w : ℕ) → w ≤ 128 → a * 2 ^ min n w % 2 ^ 128 % 2 ^ w ≡ a * 2 ^ n % 2 ^ w
left_same a n w within = low_of_low (a * 2 ^ min n w) w within ∙ elim (cases_lt n w) [
  | inl less ↦ (let e : min n w ≡ n = omega arith in rw e refl)
  | inr more ↦ (let e : min n w ≡ w = omega arith in rw (e, past_mod a w w (omega arith), past_mod a n w more) refl)
]

pub right_same : (a n w : ℕ) → a < 2 ^ w → a / 2 ^ min n w ≡ a / 2 ^ n
right_same a n w small = elim (cases_lt n w) [
  | inl less ↦ (let e : min n w ≡ n = omega arith in rw e refl)
  | inr more ↦ (let e : min n w ≡ w = omega arith in rw e (past_div a w w small (omega arith) ∙ sym (past_div a n w small more)))
]

spread : (q p r k n a : ℕ) → q * p + r ≡ a → p * k ≡ n → a * k ≡ q * n + r * k
spread q p r k n a e f =
    let e' : (q * p + r) * k ≡ a * k = ap (λ x. x * k) e in
    let f' : q * (p * k) ≡ q * n = ap (λ x. q * x) f in
    omega arith

-- the low bits go up and leave room for the high ones
turned : (a k w : ℕ) → k ≤ w → a * 2 ^ k % 2 ^ w ≡ a % 2 ^ (w - k) * 2 ^ k
turned a k w few =
    let split : w ≡ (w - k) + k = omega arith in
    let whole : 2 ^ w ≡ 2 ^ (w - k) * 2 ^ k = ap (λ (x : ℕ). 2 ^ x) split ∙ pow-add 2 (w - k) k in
    let parts : a * 2 ^ k ≡ a / 2 ^ (w - k) * 2 ^ w + a % 2 ^ (w - k) * 2 ^ k = spread (a / 2 ^ (w - k)) (2 ^ (w - k)) (a % 2 ^ (w - k)) (2 ^ k) (2 ^ w) a (shr_split a (w - k)) (sym whole) in
    let rest : a % 2 ^ (w - k) * 2 ^ k < 2 ^ ((w - k) + k) = shl_below (a % 2 ^ (w - k)) (w - k) k (mod_below a (2 ^ (w - k)) (pow_pos (w - k))) in
    let P : ℕ → Type 0 = λ n. a % 2 ^ (w - k) * 2 ^ k < 2 ^ n in
    let small : a % 2 ^ (w - k) * 2 ^ k < 2 ^ w = subst P (sym split) rest in
    ap (λ x. x % 2 ^ w) parts ∙ mod_low (a / 2 ^ (w - k)) w (a % 2 ^ (w - k) * 2 ^ k) small

high_small : (a k w : ℕ) → a < 2 ^ w → k ≤ w → a / 2 ^ (w - k) < 2 ^ k
high_small a k w small few =
    let turn : w ≡ k + (w - k) = omega arith in
    let P : ℕ → Type 0 = λ n. a < 2 ^ n in
    shr_below a k (w - k) (subst P turn small)

-- the word's ends meet
pub rotated_parts : (a k w h : ℕ) → a < 2 ^ w → k ≤ w → h ≡ a * 2 ^ k % 2 ^ w → bit_or h (a / 2 ^ (w - k)) ≡ a * 2 ^ k % 2 ^ w + a / 2 ^ (w - k)
rotated_parts a k w h small few is =
    rw (is, turned a k w few) (or_shifted (a % 2 ^ (w - k)) k (a / 2 ^ (w - k)) (high_small a k w small few))

pub rotated_below : (a k w h : ℕ) → a < 2 ^ w → h < 2 ^ w → bit_or h (a / 2 ^ (w - k)) < 2 ^ w
rotated_below a k w h small low =
    let less : a / 2 ^ (w - k) ≤ a = shr_le a (w - k) in
    or_lt w h (a / 2 ^ (w - k)) low (omega arith)

-- a quotient is below a number where the dividend is below its product
lt_quotient : (x d m : ℕ) → 0 < d → nat_lt (x / d) m ≡ nat_lt x (m * d)
lt_quotient x d m some = elim (cases_lt x (m * d)) [
  | inl less ↦ (let h : x / d < m = div_below x d m some less in grind (arith, nat_tests))
  | inr more ↦ (let h : m ≤ x / d = le-div m x d some more in grind (arith, nat_tests))
]

pub overflows_negative : (under d n : ℕ) → 2 ^ under ≤ d → nat_lt (2 ^ under / 2 ^ n) (2 ^ (under + 1) - d) ≡ ash_overflows under d n
unfolding ash_overflows
overflows_negative under d n negative =
    let sign : nat_le (2 ^ under) d ≡ true = grind (arith, nat_tests) in
    rw sign (lt_quotient (2 ^ under) (2 ^ n) (2 ^ (under + 1) - d) (pow_pos n))

one_less : (x y : ℕ) → 0 < x → nat_lt (x - 1) y ≡ nat_le x y
one_less x y some = grind (arith, nat_tests)

pub overflows_positive : (under d n : ℕ) → d < 2 ^ under → nat_lt ((2 ^ under - 1) / 2 ^ n) d ≡ ash_overflows under d n
unfolding ash_overflows
overflows_positive under d n positive =
    let sign : nat_le (2 ^ under) d ≡ false = grind (arith, nat_tests) in
    rw sign (lt_quotient (2 ^ under - 1) (2 ^ n) d (pow_pos n) ∙ one_less (2 ^ under) (d * 2 ^ n) (pow_pos under))

pub twice : (under : ℕ) → 2 ^ (under + 1) ≡ 2 * 2 ^ under
twice under = rw (pow-add 2 under 1) (omega arith)

-- the sign and the bits below it
pub sign_and_rest : (under d r : ℕ) → d - d % 2 ^ under + r ≡ d / 2 ^ under * 2 ^ under + r
sign_and_rest under d r = let e : d / 2 ^ under * 2 ^ under + d % 2 ^ under ≡ d = shr_split d under in omega arith

pub sign_below : (under d r : ℕ) → d < 2 ^ (under + 1) → r < 2 ^ under → d - d % 2 ^ under + r < 2 ^ (under + 1)
sign_below under d r small rest =
    let both : 2 ^ (under + 1) ≡ 2 * 2 ^ under = twice under in
    let e : d / 2 ^ under * 2 ^ under + d % 2 ^ under ≡ d = shr_split d under in
    let few : d / 2 ^ under < 2 = div_below d (2 ^ under) 2 (pow_pos under) (omega arith) in
    let most : d / 2 ^ under * 2 ^ under ≤ 1 * 2 ^ under = mul-le-mul_right (2 ^ under) (omega arith) in
    omega arith

-- zeros of 64 bits and of 36
pub zeros_of_36 : (a : ℕ) → a < 2 ^ 36 → count_leading_zeros 64 a ≡ 28 + count_leading_zeros 36 a
zeros_of_36 a small =
    let top = leading_length 36 a small in
    let m : ℕ = top.0 in
    let sum : count_leading_zeros 36 a + m ≡ 36 = top.1 in
    sym (leading_unique 64 a (28 + count_leading_zeros 36 a) m (omega arith) top.2 top.3)
