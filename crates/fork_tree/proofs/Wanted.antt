-- An active channel is pending exactly where the words of both have a bit in common.
use Rattle.std.proofs.Common.{◌≡◌, ℕ, zero, suc, ◌+◌, ◌-◌, ◌<◌, ◌≤◌, Bool, true, false, refl, sym, ◌∙◌, ap, arith, eq-eqb, get_or, zero-add}
use Rattle.std.specs.Prelude.{◌==◌, ◌||◌, ◌&&◌, not}
use Rattle.std.specs.List.{list_any, range_with_len}
use Rattle.std.proofs.lemmas.Bool.{eqb-true}
use Rattle.std.proofs.lemmas.List.Folds.{list_any_at}
use Rattle.std.proofs.lemmas.List.FromFn.{get_or-range_with_len, length-range_with_len}
use Rattle.std.proofs.lemmas.Nat.Bits.{bit_at-lt, bit_at-zero}
use Rattle.word36.specs.Words.{bit}
use Rattle.word36.specs.Boolean.{boolean_of}
use Rattle.word36.specs.declared.opcodes.TheConstants.{AND}
use Rattle.ka10_alu.specs.MaskedBits.{AreMaskedClear}
use Rattle.ka10_alu.proofs.MaskedBits.{clear_tells}
use Rattle.plain_model.specs.declared.fork.Psi.{Psi}
use Rattle.plain_model.specs.Inspections.{wants_one}

-- whether a bit is in both
abbrev in_both : ℕ → ℕ → ℕ → Bool
in_both a b c = (bit a c == 1) && (bit b c == 1)

both : (x y : ℕ) → x < 2 → (y ≡ 1 → x ≡ 0) → ((x == 1) && (y == 1)) ≡ false
both zero y h clear = refl
both (suc zero) y h clear = by (y == 1) refl
  where
    by : (b : Bool) → (y == 1) ≡ b → b ≡ false
    by true is = absurd (let no : 1 ≡ 0 = clear (eqb-true y 1 is) in omega arith)
    by false is = refl
both (suc (suc x)) y h clear = absurd (omega arith)

not_both : (x y : ℕ) → x < 2 → ((x == 1) && (y == 1)) ≡ false → y ≡ 1 → x ≡ 0
not_both zero y h fails one = refl
not_both (suc zero) y h fails one = absurd (let no : true ≡ false = sym (eq-eqb y 1 one) ∙ fails in cc no)
not_both (suc (suc x)) y h fails one = absurd (omega arith)

module _ (a b : ℕ) where
  -- no channel is in both where all bits of one are clear in the other
  none_from : AreMaskedClear a b → (c n : ℕ) → c + n ≤ 36 → list_any (in_both a b) (range_with_len c n) ≡ false
  none_from clear c zero h = refl
  none_from clear c (suc n) h =
      ap (λ x. x || list_any (in_both a b) (range_with_len (c + 1) n)) (both (bit a c) (bit b c) (bit_at-lt a (35 - c)) (clear c (omega arith))) ∙ none_from clear (c + 1) n (omega arith)

  clear_from : list_any (in_both a b) (range_with_len 0 36) ≡ false → AreMaskedClear a b
  clear_from none i h one = not_both (bit a i) (bit b i) (bit_at-lt a (35 - i)) (by (in_both a b i) refl) one
    where
      here : get_or (range_with_len 0 36) i 0 ≡ i
      here = get_or-range_with_len 0 36 i 0 h ∙ zero-add i

      by : (x : Bool) → in_both a b i ≡ x → x ≡ false
      by false is = refl
      by true is = sym (list_any_at (in_both a b) (range_with_len 0 36) i 0 (rw length-range_with_len h) (ap (in_both a b) here ∙ is)) ∙ none

  -- so two words have a channel in common exactly where one of their bits is in both
  pub shares_one : not (boolean_of AND a b == 0) ≡ list_any (in_both a b) (range_with_len 0 36)
  shares_one = by (boolean_of AND a b == 0) (list_any (in_both a b) (range_with_len 0 36)) refl refl
    where
      by : (x y : Bool) → (boolean_of AND a b == 0) ≡ x → list_any (in_both a b) (range_with_len 0 36) ≡ y → not x ≡ y
      by true true is one = sym (none_from ((clear_tells a b).0 is) 0 36 (omega arith)) ∙ one
      by true false is one = refl
      by false true is one = refl
      by false false is one = sym ((clear_tells a b).1 (clear_from one)) ∙ is

  -- where one word has no channel, none is in both
  pub none_shared : b ≡ 0 → list_any (in_both a b) (range_with_len 0 36) ≡ false
  none_shared none = none_from (λ i h one. absurd (let no : 0 ≡ 1 = sym (ap (λ w. bit w i) none ∙ bit_at-zero (35 - i)) ∙ one in omega arith)) 0 36 (omega arith)

module _ (psi : Psi) where
  pub wants_is : not (boolean_of AND psi.active psi.pending == 0) ≡ wants_one psi
  wants_is = shares_one psi.active psi.pending

  -- where nothing is pending, nothing is wanted
  pub none_wanted : psi.pending ≡ 0 → false ≡ wants_one psi
  none_wanted none = sym (none_shared psi.active psi.pending none)
