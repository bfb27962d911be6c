-- What octal digits and symbols are.
use Rattle.std.proofs.Common.{◌≡◌, ℕ, ◌^◌, ◌<◌, ◌≤◌, List, [], ◌∷◌, length, Bool, true, false, Option, Some, None, refl, ap, arith, lit<}
use Rattle.std.specs.Prelude.{◌&&◌, nat_le, if◌then◌else◌, MatchOption, IfSome}
use Rattle.std.specs.List.{list_all}
use Rattle.std.proofs.Math.Nat.{pow-le-pow_right}
use Rattle.std.proofs.lemmas.Bool.Decides.{nat_tests}
use Rattle.word36.specs.Octal.{AreOctalDigits, octal_value, IsOctalNumber}
use Rattle.word36.proofs.OctalLemmas.{octal_value-below}
use Rattle.asm_core.specs.Numbers.{is_octal_digit, is_symbol, is_symbol_code, begins_with_letter, octal_number}

pub both : (a b : Bool) → (a && b) ≡ true → (a ≡ true) × (b ≡ true)
both true b h = (refl, h)
both false b h = cc

and_true : (a b : Bool) → a ≡ true → b ≡ true → (a && b) ≡ true
and_true a b h k = rw h k

digit_low : (c : ℕ) → is_octal_digit c ≡ true → 48 ≤ c
digit_low c h = grind (arith, nat_tests)

digit_high : (c : ℕ) → is_octal_digit c ≡ true → c < 56
digit_high c h = grind (arith, nat_tests)

digit_is : (c : ℕ) → 48 ≤ c → c < 56 → is_octal_digit c ≡ true
digit_is c low high = grind (arith, nat_tests)

pub digits_from : (xs : List ℕ) → list_all is_octal_digit xs ≡ true → AreOctalDigits xs
digits_from [] h = tt
digits_from (c ∷ cs) h = let p = both (is_octal_digit c) (list_all is_octal_digit cs) h in (digit_low c p.0, digit_high c p.0, digits_from cs p.1)

pub digits_test : (xs : List ℕ) → AreOctalDigits xs → list_all is_octal_digit xs ≡ true
digits_test [] h = refl
digits_test (c ∷ cs) h = and_true (is_octal_digit c) (list_all is_octal_digit cs) (digit_is c h.0 h.1) (digits_test cs h.2)

abbrev sized : ℕ → ℕ → Bool
sized most n = nat_le 1 n && nat_le n most

size_low : (most n : ℕ) → sized most n ≡ true → 1 ≤ n
size_low most n h = grind (arith, nat_tests)

size_high : (most n : ℕ) → sized most n ≡ true → n ≤ most
size_high most n h = grind (arith, nat_tests)

size_is : (most n : ℕ) → 1 ≤ n → n ≤ most → sized most n ≡ true
size_is most n low high = grind (arith, nat_tests)

module _ (most : ℕ) (text : List ℕ) where
  abbrev test : Bool
  test = (nat_le 1 (length text) && nat_le (length text) most) && list_all is_octal_digit text

  pub octal_from : test ≡ true → IsOctalNumber most text
  octal_from h =
      let p = both (sized most (length text)) (list_all is_octal_digit text) h in
      (size_low most (length text) p.0, size_high most (length text) p.0, digits_from text p.1)

  pub octal_test : IsOctalNumber most text → test ≡ true
  octal_test h = and_true (sized most (length text)) (list_all is_octal_digit text) (size_is most (length text) h.0 h.1) (digits_test text h.2)

  by : (b : Bool) → test ≡ b → (r : Option ℕ) → MatchOption r (IsOctalNumber most text → ⊥) (λ n. IsOctalNumber most text × (n ≡ octal_value text))
      → r ≡ (if b then Some (octal_value text) else None)
  by true e None h = absurd (h (octal_from e))
  by true e (Some n) h = ap Some h.1
  by false e None h = refl
  by false e (Some n) h = absurd (cc (e, octal_test h.0))

  -- what reads an octal number reads this one
  pub octal_read : (r : Option ℕ) → MatchOption r (IsOctalNumber most text → ⊥) (λ n. IsOctalNumber most text × (n ≡ octal_value text)) → r ≡ octal_number most text
  unfolding octal_number
  octal_read r h = by test refl r h

  pub octal_small : (r : Option ℕ) → MatchOption r (IsOctalNumber most text → ⊥) (λ n. IsOctalNumber most text × (n ≡ octal_value text)) → IfSome r (λ n. n < 8 ^ most)
  octal_small None h = tt
  octal_small (Some n) h =
      let value = octal_value-below text h.0.2 in
      let larger : 8 ^ length text ≤ 8 ^ most = pow-le-pow_right (lit< tt) h.0.1 in
      omega (arith, h.1)

-- a symbol is short
pub symbol_short : (text : List ℕ) → is_symbol text ≡ true → length text ≤ 6
unfolding is_symbol
symbol_short text h =
    let p = both (begins_with_letter text && nat_le (length text) 6) (list_all is_symbol_code text) h in
    let q = both (begins_with_letter text) (nat_le (length text) 6) p.0 in
    at (length text) q.1
  where
    at : (n : ℕ) → nat_le n 6 ≡ true → n ≤ 6
    at n h = grind (arith, nat_tests)
