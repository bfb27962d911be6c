-- The digits that are written of a number are a field that reads as it.
use Rattle.std.proofs.Common.{◌≡◌, ◌≢◌, ◌⊎◌, inl, inr, ℕ, ◌+◌, ◌-◌, ◌*◌, ◌/◌, ◌%◌, ◌^◌, ◌<◌, ◌≤◌, List, [], ◌∷◌, ◌++◌, length, decimal, Bool, true, false, if◌then◌else◌, ◌==◌, refl, ap, subst, arith, length-append, lit<, All}
use Rattle.std.proofs.Math.Nat.{pow-le-pow_right, mul-le-mul_right}
use Rattle.std.proofs.lemmas.Bool.{cases_lt}
use Rattle.std.proofs.lemmas.Bool.Decides.{nat_tests}
use Rattle.std.proofs.lemmas.Fmt.{decimal_by_steps, length-decimal-le}
use Rattle.std.proofs.lemmas.List.Elements.{All-cons, All-nil, All-append}
use Rattle.word36.specs.Octal.{octal_padded, octal_value, AreOctalDigits}
use Rattle.word36.proofs.OctalLemmas.{digits-octal_padded, length-octal_padded, octal_value-octal_padded}
use Rattle.script_texts.specs.Script.{IsDigit, IsDecimal, IsOctal, decimal_value}
use Rattle.script_texts.specs.Texts.{octal, trimmed}
use Rattle.script_lang.proofs.Numbers.{decimal_value-append}

-- digits, at least one, that write a number
abbrev pub AreDigitsOf : ℕ → List ℕ → Type 0
AreDigitsOf n text = (1 ≤ length text) × All IsDigit text × (decimal_value text ≡ n)

one_digit : (n : ℕ) → n < 10 → AreDigitsOf n ((48 + n) ∷ [])
one_digit n small = (omega arith, All-cons IsDigit (48 + n) [] (omega arith, omega arith) (All-nil IsDigit), omega arith)

more_digits : (n : ℕ) (ds : List ℕ) → 10 ≤ n → AreDigitsOf (n / 10) ds → AreDigitsOf n (ds ++ (48 + n % 10) ∷ [])
more_digits n ds large h =
    let value = decimal_value-append ds (48 + n % 10) in (
      omega (arith, h.0, length-append ds ((48 + n % 10) ∷ [])),
      All-append IsDigit ds ((48 + n % 10) ∷ []) h.1 (All-cons IsDigit (48 + n % 10) [] (omega arith, omega arith) (All-nil IsDigit)),
      omega (arith, value, h.2),
    )

pub decimal_digits : (n : ℕ) → n < 2 ^ 64 → AreDigitsOf n (decimal n)
decimal_digits n small = decimal_by_steps AreDigitsOf one_digit more_digits n small

pub is_decimal : (most n : ℕ) → 0 < most → n < 10 ^ most → n < 2 ^ 64 → IsDecimal most (decimal n) n
is_decimal most n some few small = let h = decimal_digits n small in (h.0, length-decimal-le most n some few small, h.1, h.2)

either_short : (b : Bool) (xs ys : List ℕ) (n : ℕ) → length xs ≤ n → length ys ≤ n → length (if b then xs else ys) ≤ n
either_short true xs ys n p q = p
either_short false xs ys n p q = q

pub trimmed_short : (xs : List ℕ) → length (trimmed xs) ≤ length xs
trimmed_short [] = omega arith
trimmed_short (c ∷ []) = omega arith
trimmed_short (c ∷ d ∷ ds) = either_short (c == 48) (trimmed (d ∷ ds)) (c ∷ d ∷ ds) (length (c ∷ d ∷ ds)) (omega (arith, trimmed_short (d ∷ ds))) (omega arith)

-- octal digits without a zero in front of others: one, or a number that has so many
abbrev IsTrim : ℕ → List ℕ → Type 0
IsTrim n text = (1 ≤ length text) × AreOctalDigits text × (octal_value text ≡ n) × ((length text ≡ 1) ⊎ (8 ^ (length text - 1) ≤ n))

trim_at : (b : Bool) (n c d : ℕ) (ds : List ℕ) → ((c == 48) ≡ b) → AreOctalDigits (c ∷ d ∷ ds) → octal_value (c ∷ d ∷ ds) ≡ n → IsTrim (octal_value (d ∷ ds)) (trimmed (d ∷ ds)) → IsTrim n (if b then trimmed (d ∷ ds) else c ∷ d ∷ ds)
trim_at true n c d ds is digits value h =
    let zero : c ≡ 48 = grind (arith, nat_tests) in
    let same : octal_value (d ∷ ds) ≡ n = omega (arith, value, ap (λ k. (k - 48) * 8 ^ length (d ∷ ds)) zero) in
    subst (λ k. IsTrim k (trimmed (d ∷ ds))) same h
trim_at false n c d ds is digits value h =
    let some : c ≢ 48 = grind (arith, nat_tests) in
    let digit : 1 ≤ c - 48 = omega (arith, digits.0, some) in
    let most : 1 * 8 ^ length (d ∷ ds) ≤ (c - 48) * 8 ^ length (d ∷ ds) = mul-le-mul_right (8 ^ length (d ∷ ds)) digit in
    let power : 8 ^ (length (c ∷ d ∷ ds) - 1) ≡ 8 ^ length (d ∷ ds) = ap (λ k. 8 ^ k) (omega arith) in
    (omega arith, digits, value, inr (omega (arith, value, most, power)))

trims : (xs : List ℕ) → 1 ≤ length xs → AreOctalDigits xs → IsTrim (octal_value xs) (trimmed xs)
trims [] some digits = absurd (omega (arith, some))
trims (c ∷ []) some digits = (omega arith, digits, refl, inl refl)
trims (c ∷ d ∷ ds) some digits = trim_at (c == 48) (octal_value (c ∷ d ∷ ds)) c d ds refl digits refl (trims (d ∷ ds) (omega arith) digits.2)

trim_short : (most n : ℕ) (text : List ℕ) → 0 < most → n < 8 ^ most → IsTrim n text → length text ≤ most
trim_short most n text some few (a, b, c, inl one) = omega (arith, one, some)
trim_short most n text some few (a, b, c, inr many) = elim (cases_lt most (length text)) [
  | inl over ↦
      let large : 8 ^ most ≤ 8 ^ (length text - 1) = pow-le-pow_right (lit< tt) (omega (arith, over)) in
      absurd (omega (arith, large, many, few))
  | inr within ↦ within
]

-- an octal number of so many digits at most
pub is_octal : (most n : ℕ) → 0 < most → n < 8 ^ most → n < 8 ^ 12 → IsOctal most (octal n) n
is_octal most n some few small =
    let value : octal_value (octal_padded 12 n) ≡ n = octal_value-octal_padded 12 n small in
    let long : length (octal_padded 12 n) ≡ 12 = length-octal_padded 12 n in
    let trim : IsTrim n (octal n) = subst (λ k. IsTrim k (octal n)) value (trims (octal_padded 12 n) (omega (arith, long)) (digits-octal_padded 12 n)) in
    ((trim.0, trim_short most n (octal n) some few trim, trim.1), trim.2)

pub octal_short : (n : ℕ) → length (octal n) ≤ 12
octal_short n = omega (arith, trimmed_short (octal_padded 12 n), length-octal_padded 12 n)

pub digits-octal : (n : ℕ) → AreOctalDigits (octal n)
digits-octal n = let h = trims (octal_padded 12 n) (omega (arith, length-octal_padded 12 n)) (digits-octal_padded 12 n) in h.1
