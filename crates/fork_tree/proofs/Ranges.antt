-- The first number of a range that passes a test.
use Rattle.std.proofs.Common.{◌≡◌, ℕ, zero, suc, ◌+◌, ◌<◌, ◌≤◌, Bool, true, false, cond, None, Some, refl, sym, ◌∙◌, ap, arith, ◌⊎◌, inl, inr}
use Rattle.std.specs.List.{find, range_with_len}
use Rattle.std.proofs.lemmas.Bool.{cases_lt}

module _ (p : ℕ → Bool) where
  pub first_none : (from len : ℕ) → ((k : ℕ) → from ≤ k → k < from + len → p k ≡ false) → find p (range_with_len from len) ≡ None
  first_none from zero none = refl
  first_none from (suc len) none =
      ap (λ b. cond b (Some from) (find p (range_with_len (from + 1) len))) (none from (omega arith) (omega arith))
      ∙ first_none (from + 1) len (λ k low high. none k (omega arith) (omega arith))

  pub first_found : (from len n : ℕ) → ((k : ℕ) → from ≤ k → k < n → p k ≡ false) → from ≤ n → n < from + len → p n ≡ true → find p (range_with_len from len) ≡ Some n
  first_found from zero n none low high here = absurd (omega arith)
  first_found from (suc len) n none low high here = by (first_found (from + 1) len n) (cases_lt from n)
    where
      by : (((k : ℕ) → from + 1 ≤ k → k < n → p k ≡ false) → from + 1 ≤ n → n < from + 1 + len → p n ≡ true → find p (range_with_len (from + 1) len) ≡ Some n)
          → (from < n) ⊎ (n ≤ from) → find p (range_with_len from (suc len)) ≡ Some n
      by rest (inl before) =
          ap (λ b. cond b (Some from) (find p (range_with_len (from + 1) len))) (none from (omega arith) before)
          ∙ rest (λ k a b. none k (omega arith) b) (omega arith) (omega arith) here
      by rest (inr at) =
          let is : n ≡ from = omega arith in
          ap (λ b. cond b (Some from) (find p (range_with_len (from + 1) len))) (ap p (sym is) ∙ here) ∙ ap Some (sym is)

  pub first_tells : (from len n : ℕ) → find p (range_with_len from len) ≡ Some n → (from ≤ n) × (n < from + len) × (p n ≡ true) × ((k : ℕ) → from ≤ k → k < n → p k ≡ false)
  first_tells from zero n e = absurd (cc e)
  first_tells from (suc len) n e = by (first_tells (from + 1) len n) (p from) refl e
    where
      by : (find p (range_with_len (from + 1) len) ≡ Some n → (from + 1 ≤ n) × (n < from + 1 + len) × (p n ≡ true) × ((k : ℕ) → from + 1 ≤ k → k < n → p k ≡ false))
          → (b : Bool) → p from ≡ b → cond b (Some from) (find p (range_with_len (from + 1) len)) ≡ Some n → (from ≤ n) × (n < from + suc len) × (p n ≡ true) × ((k : ℕ) → from ≤ k → k < n → p k ≡ false)
      by rest true is found = let same : from ≡ n = cc found in (omega arith, omega arith, ap p (sym same) ∙ is, λ k low high. absurd (omega arith))
      by rest false is found = let r = rest found in (omega (arith, r.0), omega (arith, r.1), r.2, λ k low high. before r.3 k low high (cases_lt from k))
        where
          before : ((k : ℕ) → from + 1 ≤ k → k < n → p k ≡ false) → (k : ℕ) → from ≤ k → k < n → (from < k) ⊎ (k ≤ from) → p k ≡ false
          before later k low high (inl above) = later k (omega arith) high
          before later k low high (inr at) = let same : k ≡ from = omega arith in ap p same ∙ is

  pub none_tells : (from len : ℕ) → find p (range_with_len from len) ≡ None → (k : ℕ) → from ≤ k → k < from + len → p k ≡ false
  none_tells from zero e k low high = absurd (omega arith)
  none_tells from (suc len) e k low high = by (none_tells (from + 1) len) (p from) refl e (cases_lt from k)
    where
      by : (find p (range_with_len (from + 1) len) ≡ None → (k : ℕ) → from + 1 ≤ k → k < from + 1 + len → p k ≡ false)
          → (b : Bool) → p from ≡ b → cond b (Some from) (find p (range_with_len (from + 1) len)) ≡ None → (from < k) ⊎ (k ≤ from) → p k ≡ false
      by rest true is found at = absurd (cc found)
      by rest false is found (inl above) = rest found k (omega arith) (omega arith)
      by rest false is found (inr at) = let same : k ≡ from = omega arith in ap p same ∙ is
