-- Numbers of decimal and octal digits: how large they are, and how they are read digit by digit.
use Rattle.std.proofs.Common.{◌≡◌, ℕ, suc, ◌+◌, ◌-◌, ◌*◌, ◌^◌, ◌<◌, ◌≤◌, List, [], ◌∷◌, ◌++◌, length, get_or, take, ap, ◌∙◌, arith, length-append, lit<, All}
use Rattle.std.proofs.Math.Nat.{pow-suc, pow-le-pow_right, mul-le-mul_right}
use Rattle.std.proofs.lemmas.Nat.{pow-add}
use Rattle.std.proofs.lemmas.List.{take_more, length-take-le}
use Rattle.std.proofs.lemmas.List.Elements.{All-head, All-tail}
use Rattle.script_texts.specs.Script.{IsDigit, decimal_value}

tenfold : (k : ℕ) → 10 ^ (k + 1) ≡ 10 ^ k * 10
tenfold k = pow-add 10 k 1

weighed : (a p x c : ℕ) → a * (p * 10) + (x * 10 + c) ≡ (a * p + x) * 10 + c
weighed a p x c = grind arith

pub decimal_value-append : (xs : List ℕ) (c : ℕ) → decimal_value (xs ++ c ∷ []) ≡ decimal_value xs * 10 + (c - 48)
decimal_value-append [] c = omega arith
decimal_value-append (x ∷ xs) c =
    let many : length (xs ++ c ∷ []) ≡ length xs + 1 = length-append xs (c ∷ []) in
    let power : 10 ^ length (xs ++ c ∷ []) ≡ 10 ^ length xs * 10 = ap (λ k. 10 ^ k) many ∙ tenfold (length xs) in
    rw (power, decimal_value-append xs c) (weighed (x - 48) (10 ^ length xs) (decimal_value xs) (c - 48))

pub decimal_value-below : (xs : List ℕ) → All IsDigit xs → decimal_value xs < 10 ^ length xs
decimal_value-below [] h = omega arith
decimal_value-below (x ∷ xs) h =
    let rest : decimal_value xs < 10 ^ length xs = decimal_value-below xs (All-tail IsDigit x xs h) in
    let here : IsDigit x = All-head IsDigit x xs h in
    let whole : 10 ^ suc (length xs) ≡ 10 ^ length xs * 10 = pow-suc 10 (length xs) in
    let digit : x - 48 ≤ 9 = omega (arith, here.1) in
    let most : (x - 48) * 10 ^ length xs ≤ 9 * 10 ^ length xs = mul-le-mul_right (10 ^ length xs) digit in
    rw whole (omega arith)

-- so few digits write a number below this power of ten
pub decimal_value-most : (most : ℕ) (xs : List ℕ) → All IsDigit xs → length xs ≤ most → decimal_value xs < 10 ^ most
decimal_value-most most xs h few =
    let value = decimal_value-below xs h in
    let larger : 10 ^ length xs ≤ 10 ^ most = pow-le-pow_right (lit< tt) few in
    omega arith

-- reading one more digit
pub decimal_value-take : (xs : List ℕ) (i : ℕ) → i < length xs → decimal_value (take (i + 1) xs) ≡ decimal_value (take i xs) * 10 + (get_or xs i 0 - 48)
decimal_value-take xs i inside = rw (take_more xs i 0 inside) (decimal_value-append (take i xs) (get_or xs i 0))

-- the first digits of a text, where there are at most nine, write a number that has room for one more
pub decimal_value-room : (xs : List ℕ) (i : ℕ) → All IsDigit (take i xs) → i < length xs → length xs ≤ 9 → decimal_value (take i xs) < 10 ^ 8
decimal_value-room xs i digits inside few =
    let long : length (take i xs) ≡ i = length-take-le i xs (omega arith) in
    decimal_value-most 8 (take i xs) digits (omega arith)
