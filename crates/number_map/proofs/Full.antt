-- How many values a finite map from numbers has.
use Rattle.std.proofs.Common.{◌≡◌, ◌≢◌, ℕ, zero, suc, ◌+◌, ◌<◌, ◌≤◌, Option, Some, None, true, false, cond, refl, sym, subst, ◌∙◌, ap, arith, ◌⊎◌, inl, inr}
use Rattle.std.proofs.lemmas.Bool.{cases_eq, cases_lt}
use Rattle.std.specs.Prelude.{IsSome, is_some}
use Rattle.std.specs.Ordering.{nat_cmp}
use Rattle.std.specs.FinMap as map
use Rattle.std.proofs.lemmas.Cmp.{nat_cmp_total}
use Rattle.number_map.specs.Numbers.{AreTaken}
use Rattle.number_map.proofs.Keys.{get_put_other, get_gone, get_gone_other, same}
use Rattle.number_map.proofs.Places.{gone_already, put_back}

module _ {V : Type 0} where
  -- no number outside these has a value
  abbrev pub IsWithin : map.FinMap nat_cmp V → ℕ → ℕ → Type 0
  IsWithin m from to = ((k : ℕ) → k < from → map.get m k ≡ None) × ((k : ℕ) → to ≤ k → map.get m k ≡ None)

  nothing : (m : map.FinMap nat_cmp V) (from : ℕ) → IsWithin m from from → map.len m ≡ 0
  nothing m from w = ap map.len (same m map.empty (λ q. none q (cases_lt q from) ∙ sym (map.get-empty nat_cmp q))) ∙ map.len-empty nat_cmp V
    where
      none : (q : ℕ) → (q < from) ⊎ (from ≤ q) → map.get m q ≡ None
      none q (inl h) = w.0 q h
      none q (inr h) = w.1 q h

  without_last : (m : map.FinMap nat_cmp V) (from n : ℕ) → IsWithin m from (from + suc n) → IsWithin (map.remove m (from + n)) from (from + n)
  without_last m from n w = (λ k h. low k h (cases_eq k (from + n)), λ k h. high k h (cases_eq k (from + n)))
    where
      low : (k : ℕ) → k < from → (k ≡ from + n) ⊎ (k ≢ from + n) → map.get (map.remove m (from + n)) k ≡ None
      low k h (inl e) = get_gone m (from + n) k e
      low k h (inr ne) = get_gone_other m (from + n) k ne ∙ w.0 k h

      high : (k : ℕ) → from + n ≤ k → (k ≡ from + n) ⊎ (k ≢ from + n) → map.get (map.remove m (from + n)) k ≡ None
      high k h (inl e) = get_gone m (from + n) k e
      high k h (inr ne) = get_gone_other m (from + n) k ne ∙ w.1 k (omega arith)

  -- a value that is taken away and put back
  len_without : (m : map.FinMap nat_cmp V) (k : ℕ) (v : V) → map.get m k ≡ Some v → map.len m ≡ map.len (map.remove m k) + 1
  len_without m k v there =
      let gone : map.get (map.remove m k) k ≡ None = get_gone m k k refl in
      ap map.len (put_back m k v there)
      ∙ (map.len-insert nat_cmp_total (map.remove m k) k v ∙ ap (λ o. cond (is_some o) (map.len (map.remove m k)) (map.len (map.remove m k) + 1)) gone)

  len_before : (m : map.FinMap nat_cmp V) (k : ℕ) (o : Option V) → map.get m k ≡ o → map.len m ≡ map.len (map.remove m k) + cond (is_some o) 1 0
  len_before m k (Some v) e = len_without m k v e
  len_before m k None e = ap map.len (gone_already m k e) ∙ omega arith

  -- there are at most as many values as numbers
  pub len_most : (m : map.FinMap nat_cmp V) (from n : ℕ) → IsWithin m from (from + n) → map.len m ≤ n
  len_most m from zero w = omega (arith, nothing m from (w.0, λ k h. w.1 k (omega arith)))
  len_most m from (suc n) w = one (map.get m (from + n)) refl (len_most (map.remove m (from + n)) from n (without_last m from n w))
    where
      one : (o : Option V) → map.get m (from + n) ≡ o → map.len (map.remove m (from + n)) ≤ n → map.len m ≤ suc n
      one (Some v) e most = omega (arith, most, len_before m (from + n) (Some v) e)
      one None e most = omega (arith, most, len_before m (from + n) None e)

  -- there are as many where each number has one
  pub len_full : (m : map.FinMap nat_cmp V) (from n : ℕ) → IsWithin m from (from + n) → AreTaken m from (from + n) → map.len m ≡ n
  len_full m from zero w taken = nothing m from (w.0, λ k h. w.1 k (omega arith))
  len_full m from (suc n) w taken =
      one (map.get m (from + n)) refl (taken (from + n) (omega arith) (omega arith))
      (len_full (map.remove m (from + n)) from n (without_last m from n w) (λ k low high. subst IsSome (sym (get_gone_other m (from + n) k (omega arith))) (taken k low (omega arith))))
    where
      one : (o : Option V) → map.get m (from + n) ≡ o → IsSome (map.get m (from + n)) → map.len (map.remove m (from + n)) ≡ n → map.len m ≡ suc n
      one (Some v) e some others = len_without m (from + n) v e ∙ omega (arith, others)
      one None e some others = absurd (let is : false ≡ true = subst IsSome e some in cc is)

  -- there are fewer where a number has none
  pub len_free : (m : map.FinMap nat_cmp V) (from n k : ℕ) (v : V) → IsWithin m from (from + n) → from ≤ k → k < from + n → map.get m k ≡ None → map.len m < n
  len_free m from n k v w low high none =
      let more : map.len (map.insert m k v) ≡ map.len m + 1 = map.len-insert nat_cmp_total m k v ∙ ap (λ o. cond (is_some o) (map.len m) (map.len m + 1)) none in
      omega (arith, more, len_most (map.insert m k v) from n (λ q h. get_put_other m k q v (omega arith) ∙ w.0 q h, λ q h. get_put_other m k q v (omega arith) ∙ w.1 q h))
