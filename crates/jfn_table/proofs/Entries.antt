-- How many values of a finite map from numbers pass a test.
use Rattle.std.proofs.Common.{◌≡◌, ℕ, ◌+◌, ◌≤◌, Bool, cond, List, [], ◌∷◌, map as each, Some, None, ◌≢◌, ◌⊎◌, inl, inr, refl, sym, ◌∙◌, ap, arith}
use Rattle.std.specs.Prelude.{count_by}
use Rattle.std.specs.Ordering.{nat_cmp, is_eq}
use Rattle.std.specs.declared.cmp.Ordering.TheVariants.{Less, Equal, Greater}
use Rattle.std.proofs.lemmas.Cmp.{nat_cmp_total}
use Rattle.std.proofs.lemmas.List.{length-map}
use Rattle.std.proofs.lemmas.List.Sums.{count_by-le-length, sum_by-cons}
use Rattle.std.proofs.lemmas.Bool.{cases_eq}
use Rattle.std.specs.FinMap as map
use Rattle.std.specs.FinMap.{find, put}
use Rattle.std.specs.FinMap.Entries.{by_order}
use Rattle.number_map.proofs.Keys.{get_put, get_put_other, get_gone, get_gone_other, same}
use Rattle.number_map.proofs.Places.{put_back}

module _ {V : Type 0} (p : V → Bool) where
  abbrev one : V → ℕ
  one v = cond (p v) 1 0

  abbrev pub passing : map.FinMap nat_cmp V → ℕ
  passing m = count_by p (map.values m)

  counted : List (ℕ × V) → ℕ
  counted es = count_by p (each (λ e. e.1) es)

  counted_cons : (e : ℕ × V) (es : List (ℕ × V)) → counted (e ∷ es) ≡ one e.1 + counted es
  unfolding counted
  counted_cons e es = sum_by-cons one e.1 (each (λ (x : ℕ × V). x.1) es)

  module _ (n : ℕ) (v : V) where
    counted_put : (es : List (ℕ × V)) → find nat_cmp n es ≡ None → counted (put nat_cmp n v es) ≡ counted es + one v
    counted_put [] none = counted_cons (n, v) [] ∙ omega arith
    counted_put (e ∷ es) none =
        elim (nat_cmp n e.0) as (λ r. nat_cmp n e.0 ≡ r → cond (is_eq r) (Some e.1) (find nat_cmp n es) ≡ None
        → counted (by_order r ((n, v) ∷ e ∷ es) ((e.0, v) ∷ es) (e ∷ put nat_cmp n v es)) ≡ counted (e ∷ es) + one v) [
          | Less ↦ λ is no. omega (arith, counted_cons (n, v) (e ∷ es))
          | Equal ↦ λ is no. absurd (cc no)
          | Greater ↦ λ is no. omega (arith, counted_cons e (put nat_cmp n v es), counted_cons e es, counted_put es no)
        ] refl none

  pub passing_put : (m : map.FinMap nat_cmp V) (n : ℕ) (v : V) → map.get m n ≡ None → passing (map.insert m n v) ≡ passing m + one v
  unfolding counted
  passing_put m n v none =
      ap (λ es. count_by p (each (λ (e : ℕ × V). e.1) es)) (map.entries-insert nat_cmp_total m n v)
      ∙ counted_put n v (map.entries m) (sym (map.get-entries m n) ∙ none)

  pub passing_gone : (m : map.FinMap nat_cmp V) (n : ℕ) (v : V) → map.get m n ≡ Some v → passing m ≡ passing (map.remove m n) + one v
  passing_gone m n v there = ap passing (put_back m n v there) ∙ passing_put (map.remove m n) n v (get_gone m n n refl)

  -- a value in place of another
  replaced : (m : map.FinMap nat_cmp V) (n : ℕ) (v : V) → map.insert m n v ≡ map.insert (map.remove m n) n v
  replaced m n v = same (map.insert m n v) (map.insert (map.remove m n) n v) (λ q. there q (cases_eq q n))
    where
      there : (q : ℕ) → (q ≡ n) ⊎ (q ≢ n) → map.get (map.insert m n v) q ≡ map.get (map.insert (map.remove m n) n v) q
      there q (inl e) = get_put m n q v e ∙ sym (get_put (map.remove m n) n q v e)
      there q (inr ne) = get_put_other m n q v ne ∙ sym (get_put_other (map.remove m n) n q v ne ∙ get_gone_other m n q ne)

  pub passing_replaced : (m : map.FinMap nat_cmp V) (n : ℕ) (old new : V) → map.get m n ≡ Some old → p new ≡ p old → passing (map.insert m n new) ≡ passing m
  passing_replaced m n old new there alike =
      ap passing (replaced m n new) ∙ passing_put (map.remove m n) n new (get_gone m n n refl)
      ∙ (ap (λ b. passing (map.remove m n) + cond b 1 0) alike ∙ sym (passing_gone m n old there))

  -- no more values pass than there are
  pub passing_most : (m : map.FinMap nat_cmp V) → passing m ≤ map.len m
  passing_most m = omega (arith, count_by-le-length p (map.values m), length-map (map.entries m) (λ (e : ℕ × V). e.1), map.len-entries m)
