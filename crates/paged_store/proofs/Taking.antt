-- One home is taken or given up.
use Rattle.std.proofs.Common.{◌≡◌, ℕ, zero, suc, ◌+◌, ◌-◌, ◌<◌, ◌≤◌, inl, inr, List, [], ◌∷◌, length, count_by, replicate, Bool, true, false, not, cond, refl, sym, ◌∙◌, ap, subst, arith, set, get_or}
use Rattle.std.specs.Ordering.{nat_cmp}
use Rattle.std.specs.FinSet as members
use Rattle.std.proofs.lemmas.Bool.{cases_eq, cases_lt, false≢true}
use Rattle.std.proofs.lemmas.List.{get_or-set_same, get_or-set_other, length-set, length-replicate, get_or_past}
use Rattle.std.proofs.lemmas.List.Sums.{sum_by-set, sum_by-cons}
use Rattle.number_set.specs.Numbers.{Numbers, AreAllThere}
use Rattle.number_set.proofs.Members as numbers
use Rattle.page_homes.specs.declared.homes.TheConstants.{MOST_HOMES}
use Rattle.paged_store.specs.TakenHomes.{AreCounted}

false_at : (n h : ℕ) → get_or (replicate n false) h false ≡ false
false_at zero h = refl
false_at (suc n) zero = refl
false_at (suc n) (suc h) = false_at n h

count_free : (n : ℕ) → count_by not (replicate n false) ≡ n
count_free zero = refl
count_free (suc n) = sum_by-cons (λ (b : Bool). cond (not b) 1 0) false (replicate n false) ∙ (let rest = count_free n in omega arith)

pub counted_none : (n : ℕ) → n ≤ MOST_HOMES → AreCounted (replicate n false) (record { bound = n; members = members.empty }) n
counted_none n few = record {
  few = subst (λ (m : ℕ). m ≤ MOST_HOMES) (sym (length-replicate n false)) few;
  bound = sym (length-replicate n false);
  each = λ h. members.contains-empty nat_cmp h ∙ sym (false_at n h);
  count = sym (count_free n);
}

-- how many are free once one home's flag has changed
pub count_set : (flags : List Bool) (h : ℕ) (b : Bool) → h < length flags → count_by not (set flags h b) + cond (not (get_or flags h false)) 1 0 ≡ count_by not flags + cond (not b) 1 0
count_set flags h b below = sum_by-set (λ (c : Bool). cond (not c) 1 0) flags h b false below

pub flag_below : (flags : List Bool) (h : ℕ) → get_or flags h false ≡ true → h < length flags
flag_below flags h taken = elim (cases_lt h (length flags)) [
  | inl below ↦ below
  | inr past ↦ absurd (false≢true (sym (get_or_past flags h false past) ∙ taken))
]

pub counted_taken : (flags : List Bool) (taken : Numbers) (spare h : ℕ) → AreCounted flags taken spare → h < length flags → get_or flags h false ≡ false
    → AreCounted (set flags h true) (record taken { members = members.insert taken.members h }) (spare - 1)
counted_taken flags taken spare h is below free =
    let count = count_set flags h true below in
    let was = ap (λ (b : Bool). let n : ℕ = cond (not b) 1 0 in n) free in
    record {
      few = subst (λ (n : ℕ). n ≤ MOST_HOMES) (sym (length-set flags h true)) is.few;
      bound = is.bound ∙ sym (length-set flags h true);
      each = λ k. elim (cases_eq k h) [
        | inl e ↦ numbers.added taken.members h k e ∙ sym (ap (λ (j : ℕ). get_or (set flags h true) j false) e ∙ get_or-set_same flags h true false below)
        | inr other ↦ numbers.added_other taken.members h k other ∙ is.each k ∙ sym (get_or-set_other flags h k true false other)
      ];
      count = omega (arith, is.count, count, was);
    }

pub counted_released : (flags : List Bool) (taken : Numbers) (spare h : ℕ) → AreCounted flags taken spare → get_or flags h false ≡ true
    → AreCounted (set flags h false) (record taken { members = members.remove taken.members h }) (spare + 1)
counted_released flags taken spare h is used =
    let below = flag_below flags h used in
    let count = count_set flags h false below in
    let was = ap (λ (b : Bool). let n : ℕ = cond (not b) 1 0 in n) used in
    record {
      few = subst (λ (n : ℕ). n ≤ MOST_HOMES) (sym (length-set flags h false)) is.few;
      bound = is.bound ∙ sym (length-set flags h false);
      each = λ k. elim (cases_eq k h) [
        | inl e ↦ numbers.gone taken.members h k e ∙ sym (ap (λ (j : ℕ). get_or (set flags h false) j false) e ∙ get_or-set_same flags h false false below)
        | inr other ↦ numbers.gone_other taken.members h k other ∙ is.each k ∙ sym (get_or-set_other flags h k false false other)
      ];
      count = omega (arith, is.count, count, was);
    }

none_free_in : (flags : List Bool) → ((h : ℕ) → h < length flags → get_or flags h false ≡ true) → count_by not flags ≡ 0
none_free_in [] all = refl
none_free_in (b ∷ flags) all =
    sum_by-cons (λ (c : Bool). cond (not c) 1 0) b flags
    ∙ (let rest = none_free_in flags (λ h below. all (suc h) (omega arith)) in
    let own = ap (λ (c : Bool). let n : ℕ = cond (not c) 1 0 in n) (all 0 (omega arith)) in
    omega (arith, rest, own))

-- where all numbers are taken no home is free
pub none_free : (flags : List Bool) (taken : Numbers) (spare : ℕ) → AreCounted flags taken spare → AreAllThere taken 0 → count_by not flags ≡ 0
none_free flags taken spare is all = none_free_in flags (λ h below. sym (is.each h) ∙ all h (omega arith) (omega (arith, is.bound)))
