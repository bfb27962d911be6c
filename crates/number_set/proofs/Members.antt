-- The members of a set of numbers.
use Rattle.std.proofs.Common.{◌≡◌, ◌≢◌, ℕ, zero, suc, ◌<◌, ◌≤◌, ◌⊎◌, inl, inr, Bool, true, false, not, cond, ◌||◌, ◌&&◌, refl, sym, ◌∙◌, ap, arith, rules}
use Rattle.std.proofs.lemmas.Bool.{cases_eq, cases_lt}
use Rattle.std.proofs.lemmas.Cmp.{nat_cmp_total}
use Rattle.std.specs.Ordering.{eq_by_cmp, nat_cmp}
use Rattle.std.specs.Cmp.{unsigned_tied}
use Rattle.std.specs.FinSet as set
use Rattle.number_set.specs.Words.{those_below}

tied : (q k : ℕ) → q ≡ k → eq_by_cmp nat_cmp q k ≡ true
tied q k e = unsigned_tied q k ∙ grind (arith, rules)

untied : (q k : ℕ) → q ≢ k → eq_by_cmp nat_cmp q k ≡ false
untied q k ne = unsigned_tied q k ∙ grind (arith, rules)

module _ (s : set.FinSet nat_cmp) (k q : ℕ) where
  pub added : q ≡ k → set.contains (set.insert s k) q ≡ true
  added e = set.contains-insert nat_cmp_total s k q ∙ ap (λ b. b || set.contains s q) (tied q k e)

  pub added_other : q ≢ k → set.contains (set.insert s k) q ≡ set.contains s q
  added_other ne = set.contains-insert nat_cmp_total s k q ∙ ap (λ b. b || set.contains s q) (untied q k ne)

  pub gone : q ≡ k → set.contains (set.remove s k) q ≡ false
  gone e = set.contains-remove nat_cmp_total s k q ∙ ap (λ b. not b && set.contains s q) (tied q k e)

  pub gone_other : q ≢ k → set.contains (set.remove s k) q ≡ set.contains s q
  gone_other ne = set.contains-remove nat_cmp_total s k q ∙ ap (λ b. not b && set.contains s q) (untied q k ne)

-- sets that have the same members are one
pub same : (s t : set.FinSet nat_cmp) → ((q : ℕ) → set.contains s q ≡ set.contains t q) → s ≡ t
same s t alike = set.same_set nat_cmp_total set.nat_cmp-IsAntisymmetric s t alike

module _ (test : ℕ → Bool) where
  -- no number from the bound on is there
  pub none_beyond : (n q : ℕ) → n ≤ q → set.contains (those_below test n) q ≡ false
  unfolding those_below
  none_beyond zero q far = set.contains-empty nat_cmp q
  none_beyond (suc n) q far = at (test n) (none_beyond n q (omega arith))
    where
      at : (b : Bool) → set.contains (those_below test n) q ≡ false
          → set.contains (cond b (set.insert (those_below test n) n) (those_below test n)) q ≡ false
      at true none = added_other (those_below test n) n q (omega arith) ∙ none
      at false none = none

  -- a number below the bound is there where it passes
  pub there_below : (n q : ℕ) → q < n → set.contains (those_below test n) q ≡ test q
  unfolding those_below
  there_below zero q less = absurd (omega arith)
  there_below (suc n) q less = at (test n) refl (cases_eq q n) (λ lower. there_below n q lower)
    where
      at : (b : Bool) → test n ≡ b → (q ≡ n) ⊎ (q ≢ n) → (q < n → set.contains (those_below test n) q ≡ test q)
          → set.contains (cond b (set.insert (those_below test n) n) (those_below test n)) q ≡ test q
      at true is (inl e) lower = added (those_below test n) n q e ∙ sym (ap test e ∙ is)
      at true is (inr ne) lower = added_other (those_below test n) n q ne ∙ lower (omega arith)
      at false is (inl e) lower = none_beyond n q (omega arith) ∙ sym (ap test e ∙ is)
      at false is (inr ne) lower = lower (omega arith)

  -- no number passes
  pub none_pass : (n : ℕ) → ((q : ℕ) → test q ≡ false) → those_below test n ≡ set.empty
  none_pass n none = same (those_below test n) set.empty (λ q. at q (cases_lt q n) ∙ sym (set.contains-empty nat_cmp q))
    where
      at : (q : ℕ) → (q < n) ⊎ (n ≤ q) → set.contains (those_below test n) q ≡ false
      at q (inl less) = there_below n q less ∙ none q
      at q (inr far) = none_beyond n q far

-- one number more passes
pub one_more : (old new : ℕ → Bool) (bound n : ℕ) → n < bound → new n ≡ true → ((q : ℕ) → q ≢ n → new q ≡ old q)
    → those_below new bound ≡ set.insert (those_below old bound) n
one_more old new bound n below is others = same (those_below new bound) (set.insert (those_below old bound) n) (λ q. at q (cases_eq q n) (cases_lt q bound))
  where
    at : (q : ℕ) → (q ≡ n) ⊎ (q ≢ n) → (q < bound) ⊎ (bound ≤ q) → set.contains (those_below new bound) q ≡ set.contains (set.insert (those_below old bound) n) q
    at q (inl e) where_q = there_below new bound q (omega arith) ∙ ap new e ∙ is ∙ sym (added (those_below old bound) n q e)
    at q (inr ne) (inl less) = there_below new bound q less ∙ others q ne ∙ sym (added_other (those_below old bound) n q ne ∙ there_below old bound q less)
    at q (inr ne) (inr far) = none_beyond new bound q far ∙ sym (added_other (those_below old bound) n q ne ∙ none_beyond old bound q far)

-- one number less passes
pub one_less : (old new : ℕ → Bool) (bound n : ℕ) → n < bound → new n ≡ false → ((q : ℕ) → q ≢ n → new q ≡ old q)
    → those_below new bound ≡ set.remove (those_below old bound) n
one_less old new bound n below is others = same (those_below new bound) (set.remove (those_below old bound) n) (λ q. at q (cases_eq q n) (cases_lt q bound))
  where
    at : (q : ℕ) → (q ≡ n) ⊎ (q ≢ n) → (q < bound) ⊎ (bound ≤ q) → set.contains (those_below new bound) q ≡ set.contains (set.remove (those_below old bound) n) q
    at q (inl e) where_q = there_below new bound q (omega arith) ∙ ap new e ∙ is ∙ sym (gone (those_below old bound) n q e)
    at q (inr ne) (inl less) = there_below new bound q less ∙ others q ne ∙ sym (gone_other (those_below old bound) n q ne ∙ there_below old bound q less)
    at q (inr ne) (inr far) = none_beyond new bound q far ∙ sym (gone_other (those_below old bound) n q ne ∙ none_beyond old bound q far)
