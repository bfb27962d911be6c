-- Octal texts: their length, their digits, and that reading undoes writing.
use Rattle.std.proofs.Common.{◌≡◌, ℕ, zero, suc, ◌+◌, ◌-◌, ◌*◌, ◌/◌, ◌%◌, ◌^◌, ◌<◌, ◌≤◌, List, [], ◌∷◌, ◌++◌, length, get_or, set, take, drop, refl, sym, ◌∙◌, ap, arith, length-append, append_assoc, lit<}
use Rattle.std.specs.Prelude.{Option, Some, None, MatchOption}
use Rattle.std.proofs.Math.Nat.{pow-suc, pow-le-pow_right, mul-le-mul_right}
use Rattle.std.proofs.lemmas.Nat.{pow-add}
use Rattle.std.proofs.lemmas.List.{drop-set, take_more, length-take-le}
use Rattle.word36.specs.Octal.{octal_padded, AreOctalDigits, octal_value, IsOctalNumber}

pub length-octal_padded : (width n : ℕ) → length (octal_padded width n) ≡ width
unfolding octal_padded
length-octal_padded zero n = refl
length-octal_padded (suc width) n = let e = length-octal_padded width (n / 8) in omega (arith, length-append (octal_padded width (n / 8)) ((n % 8 + 48) ∷ []))

pub digits-append : (xs : List ℕ) (c : ℕ) → AreOctalDigits xs → 48 ≤ c → c < 56 → AreOctalDigits (xs ++ c ∷ [])
digits-append [] c h low high = (low, high, tt)
digits-append (x ∷ xs) c h low high = (h.0, h.1, digits-append xs c h.2 low high)

pub digits-octal_padded : (width n : ℕ) → AreOctalDigits (octal_padded width n)
unfolding octal_padded
digits-octal_padded zero n = tt
digits-octal_padded (suc width) n = digits-append (octal_padded width (n / 8)) (n % 8 + 48) (digits-octal_padded width (n / 8)) (omega arith) (omega arith)

-- each place is one of the digits
pub digit_at : (xs : List ℕ) (i : ℕ) → AreOctalDigits xs → i < length xs → (48 ≤ get_or xs i 0) × (get_or xs i 0 < 56)
digit_at [] i h inside = absurd (omega arith)
digit_at (x ∷ xs) zero h inside = (h.0, h.1)
digit_at (x ∷ xs) (suc i) h inside = digit_at xs i h.2 (omega arith)

eightfold : (k : ℕ) → 8 ^ (k + 1) ≡ 8 ^ k * 8
eightfold k = pow-add 8 k 1

weighed : (a p x c : ℕ) → a * (p * 8) + (x * 8 + c) ≡ (a * p + x) * 8 + c
weighed a p x c = grind arith

pub octal_value-append : (xs : List ℕ) (c : ℕ) → octal_value (xs ++ c ∷ []) ≡ octal_value xs * 8 + (c - 48)
octal_value-append [] c = omega arith
octal_value-append (x ∷ xs) c =
    let many : length (xs ++ c ∷ []) ≡ length xs + 1 = length-append xs (c ∷ []) in
    let power : 8 ^ length (xs ++ c ∷ []) ≡ 8 ^ length xs * 8 = ap (λ k. 8 ^ k) many ∙ eightfold (length xs) in
    rw (power, octal_value-append xs c) (weighed (x - 48) (8 ^ length xs) (octal_value xs) (c - 48))

pub octal_value-octal_padded : (width n : ℕ) → n < 8 ^ width → octal_value (octal_padded width n) ≡ n
unfolding octal_padded
octal_value-octal_padded zero n small = omega arith
octal_value-octal_padded (suc width) n small =
    let whole : 8 ^ (width + 1) ≡ 8 ^ width * 8 = eightfold width in
    let less : n / 8 < 8 ^ width = omega arith in
    let value : octal_value (octal_padded width (n / 8)) ≡ n / 8 = octal_value-octal_padded width (n / 8) less in
    let step : octal_value (octal_padded width (n / 8) ++ (n % 8 + 48) ∷ []) ≡ octal_value (octal_padded width (n / 8)) * 8 + (n % 8 + 48 - 48) = octal_value-append (octal_padded width (n / 8)) (n % 8 + 48) in
    omega arith

pub octal_padded-injective : (width m n : ℕ) → m < 8 ^ width → n < 8 ^ width → octal_padded width m ≡ octal_padded width n → m ≡ n
octal_padded-injective width m n small_m small_n same =
    sym (octal_value-octal_padded width m small_m) ∙ (ap octal_value same ∙ octal_value-octal_padded width n small_n)

pub is_octal-octal_padded : (n : ℕ) → IsOctalNumber 12 (octal_padded 12 n)
is_octal-octal_padded n = let e = length-octal_padded 12 n in (omega arith, omega arith, digits-octal_padded 12 n)

pub octal_value-below : (xs : List ℕ) → AreOctalDigits xs → octal_value xs < 8 ^ length xs
octal_value-below [] h = omega arith
octal_value-below (x ∷ xs) h =
    let rest : octal_value xs < 8 ^ length xs = octal_value-below xs h.2 in
    let whole : 8 ^ suc (length xs) ≡ 8 ^ length xs * 8 = pow-suc 8 (length xs) in
    let digit : x - 48 ≤ 7 = omega (arith, h.1) in
    let most : (x - 48) * 8 ^ length xs ≤ 7 * 8 ^ length xs = mul-le-mul_right (8 ^ length xs) digit in
    rw whole (omega arith)

pub octal_value-word : (xs : List ℕ) → AreOctalDigits xs → length xs ≤ 12 → octal_value xs < 2 ^ 36
octal_value-word xs h few =
    let value = octal_value-below xs h in
    let most : 8 ^ length xs ≤ 8 ^ 12 = pow-le-pow_right (lit< tt) few in
    omega arith

-- writing goes on from the right: one more digit is in its place
pub digit_written : (place n : ℕ) (xs : List ℕ) → 0 < place → place ≤ length xs →
    octal_padded (place - 1) (n / 8) ++ drop (place - 1) (set xs (place - 1) (48 + n % 8)) ≡ octal_padded place n ++ drop place xs
unfolding octal_padded
digit_written zero n xs some room = absurd (omega arith)
digit_written (suc place) n xs some room =
    let here : suc place - 1 ≡ place = omega arith in
    let tail : drop place (set xs place (48 + n % 8)) ≡ (48 + n % 8) ∷ drop (place + 1) xs = drop-set xs place (48 + n % 8) (omega arith) in
    let digit : 48 + n % 8 ≡ n % 8 + 48 = omega arith in
    let next : place + 1 ≡ suc place = omega arith in
    rw here (rw tail (rw (digit, next) (sym (append_assoc (octal_padded place (n / 8)) ((n % 8 + 48) ∷ []) (drop (suc place) xs)))))

-- reading one more digit
pub octal_value-take : (xs : List ℕ) (i : ℕ) → i < length xs → octal_value (take (i + 1) xs) ≡ octal_value (take i xs) * 8 + (get_or xs i 0 - 48)
octal_value-take xs i inside = rw (take_more xs i 0 inside) (octal_value-append (take i xs) (get_or xs i 0))

pub digits-take : (xs : List ℕ) (i : ℕ) → i < length xs → AreOctalDigits (take i xs) → 48 ≤ get_or xs i 0 → get_or xs i 0 < 56 → AreOctalDigits (take (i + 1) xs)
digits-take xs i inside before low high = rw (take_more xs i 0 inside) (digits-append (take i xs) (get_or xs i 0) before low high)

pub octal_value-take-word : (xs : List ℕ) (i : ℕ) → AreOctalDigits (take i xs) → i ≤ length xs → length xs ≤ 12 → octal_value (take i xs) < 2 ^ 36
octal_value-take-word xs i digits inside few = octal_value-word (take i xs) digits (rw (length-take-le i xs inside) (omega arith))

-- the answer of reading: a number of 1 to 12 digits always fits a word
pub read_word : (text : List ℕ) (n : ℕ) (answer : Option ℕ) → IsOctalNumber 12 text → n ≡ octal_value text →
    MatchOption answer (2 ^ 36 ≤ n) (λ w. (w ≡ n) × (n < 2 ^ 36)) →
    MatchOption answer (IsOctalNumber 12 text → ⊥) (λ w. IsOctalNumber 12 text × (w ≡ octal_value text))
read_word text n None is value large =
    let small : octal_value text < 2 ^ 36 = octal_value-word text is.2 is.1 in
    absurd (omega arith)
read_word text n (Some w) is value same = (is, same.0 ∙ value)
