-- The numbers that have a value, as places change.
use Rattle.std.proofs.Common.{◌≡◌, ℕ, ◌<◌, inl, inr, List, get_or, set as put, Option, Some, None, false, refl, sym, ◌∙◌, ap, subst, arith, get_or-set_same, get_or-set_other}
use Rattle.std.specs.Prelude.{IsSome, MatchOption, is_some, replicate}
use Rattle.std.proofs.lemmas.Bool.{cases_eq, cases_lt}
use Rattle.std.proofs.lemmas.List.{get_or-replicate, get_or_past, length-replicate, length-set}
use Rattle.std.specs.Ordering.{nat_cmp}
use Rattle.std.specs.FinMap as map
use Rattle.std.specs.FinSet as set
use Rattle.number_set.specs.Numbers.{AreAllThere, IsLeastAbsent, Numbers}
use Rattle.number_set.proofs.Members.{added, added_other, gone, gone_other}
use Rattle.number_map.specs.Numbers.{AreKept, AreTaken, IsLeastFree, held}
use Rattle.number_map.proofs.Places.{get_held}

module _ {V : Type 0} where
  -- a value is put into a place
  pub kept_put : (places : List (Option V)) (taken : Numbers) (bound n : ℕ) (v : V) → AreKept places taken bound → n < bound
      → AreKept (put places n (Some v)) (record taken { members = set.insert taken.members n }) bound
  kept_put places taken bound n v kept below = record {
    size = length-set places n (Some v) ∙ kept.size;
    bound = kept.bound;
    each = λ k. elim (cases_eq k n) [
      | inl e ↦ added taken.members n k e ∙ sym (ap (λ i. is_some (get_or (put places n (Some v)) i None)) e ∙ ap is_some (get_or-set_same places n (Some v) None (omega (arith, kept.size))))
      | inr ne ↦ added_other taken.members n k ne ∙ kept.each k ∙ sym (ap is_some (get_or-set_other places n k (Some v) None ne))
    ];
  }

  -- the value of a place is taken away
  pub kept_gone : (places : List (Option V)) (taken : Numbers) (bound n : ℕ) → AreKept places taken bound → n < bound
      → AreKept (put places n None) (record taken { members = set.remove taken.members n }) bound
  kept_gone places taken bound n kept below = record {
    size = length-set places n None ∙ kept.size;
    bound = kept.bound;
    each = λ k. elim (cases_eq k n) [
      | inl e ↦ gone taken.members n k e ∙ sym (ap (λ i. is_some (get_or (put places n None) i None)) e ∙ ap is_some (get_or-set_same places n None None (omega (arith, kept.size))))
      | inr ne ↦ gone_other taken.members n k ne ∙ kept.each k ∙ sym (ap is_some (get_or-set_other places n k None None ne))
    ];
  }

  -- no place holds a value
  pub kept_none : (bound : ℕ) → AreKept (replicate {A = Option V} bound None) (record { bound = bound; members = set.empty }) bound
  kept_none bound = record {
    size = length-replicate {A = Option V} bound None;
    bound = refl;
    each = λ k. set.contains-empty nat_cmp k ∙ sym (ap is_some (elim (cases_lt k bound) [
      | inl inside ↦ get_or-replicate {A = Option V} bound k None None inside
      | inr past ↦ get_or_past (replicate {A = Option V} bound None) k None (omega (arith, length-replicate {A = Option V} bound None, past))
    ]));
  }

  empty_is : (o : Option V) → is_some o ≡ false → o ≡ None
  empty_is None e = refl
  empty_is (Some v) e = absurd (cc e)

  -- the least number that isn't taken has no value
  pub least_is : (places : List (Option V)) (taken : Numbers) (bound from : ℕ) (m : map.FinMap nat_cmp V) (o : Option ℕ) → AreKept places taken bound → held 0 places ≡ m
      → MatchOption o (AreAllThere taken from) (IsLeastAbsent taken from) → MatchOption o (AreTaken m from bound) (λ n. (n < bound) × IsLeastFree m from n)
  least_is places taken bound from m None kept is all = λ k low high.
      subst (λ (q : map.FinMap nat_cmp V). IsSome (map.get q k)) is (ap is_some (get_held places k) ∙ sym (kept.each k) ∙ all k low (omega (arith, kept.bound)))
  least_is places taken bound from m (Some n) kept is least = (
    omega (arith, least.below, kept.bound),
    record {
      after = least.after;
      free = empty_is (map.get m n) (ap (λ (q : map.FinMap nat_cmp V). is_some (map.get q n)) (sym is) ∙ ap is_some (get_held places n) ∙ sym (kept.each n) ∙ least.absent);
      taken = λ k low high. ap (λ (q : map.FinMap nat_cmp V). is_some (map.get q k)) (sym is) ∙ ap is_some (get_held places k) ∙ sym (kept.each k) ∙ least.there k low high;
    },
  )
