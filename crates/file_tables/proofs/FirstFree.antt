-- The least number of a JFN that is free.
use Rattle.std.proofs.Common.{◌≡◌, ℕ, zero, suc, ◌+◌, ◌<◌, ◌≤◌, Bool, true, false, cond, Option, None, Some, refl, sym, ◌∙◌, ap, arith, ◌⊎◌, inl, inr}
use Rattle.std.specs.Prelude.{IsSome, is_some, not}
use Rattle.std.specs.List.{find, range_with_len}
use Rattle.std.proofs.lemmas.Bool.{cases_lt}
use Rattle.std.specs.FinMap as map
use Rattle.number_map.specs.Numbers.{AreTaken, IsLeastFree}
use Rattle.plain_files.specs.declared.bounds.TheConstants.{MOST_JFNS}
use Rattle.plain_files.specs.OpenFiles.{OpenFile, OpenFiles, free_jfn, is_free}

module _ (m : OpenFiles) where
  taken_is : (n : ℕ) → IsSome (map.get m n) → is_free m n ≡ false
  taken_is n there = ap not there

  free_is : (n : ℕ) → map.get m n ≡ None → is_free m n ≡ true
  free_is n none = ap (λ o. not (is_some o)) none

  none_free : (from len : ℕ) → AreTaken m from (from + len) → find (is_free m) (range_with_len from len) ≡ None
  none_free from zero taken = refl
  none_free from (suc len) taken =
      ap (λ b. cond b (Some from) (find (is_free m) (range_with_len (from + 1) len))) (taken_is from (taken from (omega arith) (omega arith)))
      ∙ none_free (from + 1) len (λ k low high. taken k (omega arith) (omega arith))

  one_free : (from len n : ℕ) → IsLeastFree m from n → n < from + len → find (is_free m) (range_with_len from len) ≡ Some n
  one_free from zero n least high = absurd (omega (arith, least.after))
  one_free from (suc len) n least high = by (one_free (from + 1) len n) (cases_lt from n)
    where
      by : (IsLeastFree m (from + 1) n → n < from + 1 + len → find (is_free m) (range_with_len (from + 1) len) ≡ Some n)
          → (from < n) ⊎ (n ≤ from) → find (is_free m) (range_with_len from (suc len)) ≡ Some n
      by rest (inl before) =
          ap (λ b. cond b (Some from) (find (is_free m) (range_with_len (from + 1) len))) (taken_is from (least.taken from (omega arith) before))
          ∙ rest (record { after = omega arith; free = least.free; taken = λ k low high. least.taken k (omega arith) high }) (omega arith)
      by rest (inr at) =
          let is : n ≡ from = omega (arith, least.after) in
          ap (λ b. cond b (Some from) (find (is_free m) (range_with_len (from + 1) len))) (ap (is_free m) (sym is) ∙ free_is n least.free) ∙ ap Some (sym is)

  found_free : (from len n : ℕ) → find (is_free m) (range_with_len from len) ≡ Some n → (from ≤ n) × (n < from + len) × (is_free m n ≡ true)
  found_free from zero n e = absurd (cc e)
  found_free from (suc len) n e = by (found_free (from + 1) len n) (is_free m from) refl e
    where
      by : (find (is_free m) (range_with_len (from + 1) len) ≡ Some n → (from + 1 ≤ n) × (n < from + 1 + len) × (is_free m n ≡ true))
          → (b : Bool) → is_free m from ≡ b → cond b (Some from) (find (is_free m) (range_with_len (from + 1) len)) ≡ Some n
          → (from ≤ n) × (n < from + suc len) × (is_free m n ≡ true)
      by rest true is found = let same : from ≡ n = cc found in (omega arith, omega arith, ap (is_free m) (sym same) ∙ is)
      by rest false is found = let r = rest found in (omega (arith, r.0), omega (arith, r.1), r.2)

  pub all_taken : AreTaken m 1 (1 + MOST_JFNS) → free_jfn m ≡ None
  unfolding free_jfn
  all_taken taken = none_free 1 MOST_JFNS taken

  pub least_free : (n : ℕ) → n ≤ MOST_JFNS → IsLeastFree m 1 n → free_jfn m ≡ Some n
  unfolding free_jfn
  least_free n high least = one_free 1 MOST_JFNS n least (omega arith)

  pub free_there : (n : ℕ) → free_jfn m ≡ Some n → (1 ≤ n) × (n < 1 + MOST_JFNS) × (map.get m n ≡ None)
  unfolding free_jfn
  free_there n e = let found = found_free 1 MOST_JFNS n e in (found.0, found.1, none (map.get m n) refl found.2)
    where
      none : (o : Option OpenFile) → map.get m n ≡ o → is_free m n ≡ true → map.get m n ≡ None
      none None is free = is
      none (Some j) is free = absurd (let full : false ≡ true = sym (ap (λ x. not (is_some x)) is) ∙ free in cc full)
