-- What is held is held for members, behind units or a deed.
use Rattle.std.proofs.Common.{◌≡◌, ◌≢◌, ℕ, ◌+◌, ◌<◌, List, [], ◌∷◌, length, Bool, true, false, cond, filter, not, Option, None, Some, refl, sym, ◌∙◌, ap, subst, arith}
use Rattle.std.specs.Prelude.{◌==◌, slice_index_or, slice_set}
use Rattle.std.proofs.lemmas.Bool.Decides.{nat_tests}
use Rattle.std.proofs.lemmas.List.{get_or-set_same, get_or-set_other}
use Rattle.machine_names.specs.declared.names.ForkName.{ForkName}
use Rattle.page_contracts.specs.declared.store.TheConstants.{CONSOLE_HOLDER}
use Rattle.page_contracts.specs.Stores.{Loses, Traffic, letting_go}
use Rattle.page_waits.specs.declared.holders.Holders.{Holders}
use Rattle.page_waits.specs.Holders.{AreAll, AreMembers, AreReleased, AreUnheld, holder_at}

module _ (h : Holders) where
  -- whoever was lost, and whatever was let go, those for whom something is held are among these
  pub all_lost : (old new : Traffic) → Loses old new → AreAll h old.holds → AreAll h new.holds
  all_lost old new lost all seat apart none = lost.holds seat ∙ ap (filter (λ home. not (lost.given home))) (all seat apart none)

  pub all_let_go : (holder : ℕ) (old new : ℕ → List ℕ) → new ≡ letting_go old holder → AreAll h old → AreAll h new
  all_let_go holder old new is all seat apart none = ap (λ (hs : ℕ → List ℕ). hs seat) is ∙ by (seat == holder)
    where
      by : (b : Bool) → cond b [] (old seat) ≡ []
      by true = refl
      by false = all seat apart none

  pub all_same : (old new : ℕ → List ℕ) → new ≡ old → AreAll h old → AreAll h new
  all_same old new is all seat apart none = ap (λ (hs : ℕ → List ℕ). hs seat) is ∙ all seat apart none

  -- what is held is held for members
  pub owned_of : (now : ℕ → Option ForkName) (holds : ℕ → List ℕ) → AreAll h holds → AreReleased (holder_at h) now holds → (seat : ℕ) → seat ≢ CONSOLE_HOLDER → now seat ≡ None → holds seat ≡ []
  owned_of now holds all released seat apart none = by (holder_at h seat) refl
    where
      by : (o : Option ForkName) → holder_at h seat ≡ o → holds seat ≡ []
      by None is = all seat apart is
      by (Some f) is = released seat apart (λ same. let no : None ≡ Some f = sym none ∙ same ∙ is in cc no)

  -- nothing is held for a seat whose member is another than it was
  pub released_of : (before now : ℕ → Option ForkName) (holds : ℕ → List ℕ) → AreMembers h before → AreAll h holds → AreReleased (holder_at h) now holds → AreReleased before now holds
  released_of before now holds members all released seat apart changed = by (holder_at h seat) refl
    where
      by : (o : Option ForkName) → holder_at h seat ≡ o → holds seat ≡ []
      by None is = all seat apart is
      by (Some f) is = released seat apart (λ same. changed (same ∙ is ∙ sym (members seat f is)))

-- ---- how they are found, seat by seat

-- one seat more is looked at, for which something is held
pub all_put : (forks : List (Option ForkName)) (seat : ℕ) (o : Option ForkName) (holds : ℕ → List ℕ) → seat < length forks → (seat ≢ CONSOLE_HOLDER → o ≡ None → holds seat ≡ [])
    → ((k : ℕ) → k < seat → k ≢ CONSOLE_HOLDER → slice_index_or forks k None ≡ None → holds k ≡ [])
    → (k : ℕ) → k < seat + 1 → k ≢ CONSOLE_HOLDER → slice_index_or (slice_set forks seat o) k None ≡ None → holds k ≡ []
all_put forks seat o holds long own before k low apart none = by (k == seat) refl
  where
    by : (b : Bool) → (k == seat) ≡ b → holds k ≡ []
    by true e =
        let same : k ≡ seat = grind (arith, nat_tests, e) in
        subst (λ n. holds n ≡ []) (sym same)
        (own (λ is. apart (same ∙ is)) (sym (get_or-set_same forks seat o None long) ∙ ap (λ n. slice_index_or (slice_set forks seat o) n None) (sym same) ∙ none))
    by false e =
        let other : k ≢ seat = grind (arith, nat_tests, e) in
        before k (omega (arith, low, other)) apart (sym (get_or-set_other forks seat k o None other) ∙ none)

pub members_put : (forks : List (Option ForkName)) (seat : ℕ) (o : Option ForkName) (member : ℕ → Option ForkName) → seat < length forks → o ≡ member seat
    → ((k : ℕ) (f : ForkName) → slice_index_or forks k None ≡ Some f → member k ≡ Some f) → (k : ℕ) (f : ForkName) → slice_index_or (slice_set forks seat o) k None ≡ Some f → member k ≡ Some f
members_put forks seat o member long own before k f is = by (k == seat) refl
  where
    by : (b : Bool) → (k == seat) ≡ b → member k ≡ Some f
    by true e =
        let same : k ≡ seat = grind (arith, nat_tests, e) in
        ap member same ∙ sym own ∙ sym (get_or-set_same forks seat o None long) ∙ ap (λ n. slice_index_or (slice_set forks seat o) n None) (sym same) ∙ is
    by false e =
        let other : k ≢ seat = grind (arith, nat_tests, e) in
        before k f (sym (get_or-set_other forks seat k o None other) ∙ is)

-- one seat more, for which nothing is held
pub all_skip : (forks : List (Option ForkName)) (seat : ℕ) (holds : ℕ → List ℕ) → length (holds seat) ≡ 0
    → ((k : ℕ) → k < seat → k ≢ CONSOLE_HOLDER → slice_index_or forks k None ≡ None → holds k ≡ [])
    → (k : ℕ) → k < seat + 1 → k ≢ CONSOLE_HOLDER → slice_index_or forks k None ≡ None → holds k ≡ []
all_skip forks seat holds nothing before k low apart none = by (k == seat) refl
  where
    empty : (xs : List ℕ) → length xs ≡ 0 → xs ≡ []
    empty [] e = refl
    empty (x ∷ xs) e = absurd (omega (arith, e))

    by : (b : Bool) → (k == seat) ≡ b → holds k ≡ []
    by true e =
        let same : k ≡ seat = grind (arith, nat_tests, e) in
        subst (λ n. holds n ≡ []) (sym same) (empty (holds seat) nothing)
    by false e =
        let other : k ≢ seat = grind (arith, nat_tests, e) in
        before k (omega (arith, low, other)) apart none

-- past the last seat no member is
pub all_seats : (forks : List (Option ForkName)) (set : ℕ) (member : ℕ → Option ForkName) (holds : ℕ → List ℕ) → ((k : ℕ) (f : ForkName) → member k ≡ Some f → k < set)
    → ((k : ℕ) → k ≢ CONSOLE_HOLDER → member k ≡ None → holds k ≡ [])
    → ((k : ℕ) → k < set → k ≢ CONSOLE_HOLDER → slice_index_or forks k None ≡ None → holds k ≡ [])
    → (k : ℕ) → k ≢ CONSOLE_HOLDER → slice_index_or forks k None ≡ None → holds k ≡ []
all_seats forks set member holds below owned before k apart none = by (member k) refl
  where
    by : (o : Option ForkName) → member k ≡ o → holds k ≡ []
    by None is = owned k apart is
    by (Some f) is = before k (below k f is) apart none

-- ---- that nothing is held for any seat

pub unheld_same : (old new : ℕ → List ℕ) → new ≡ old → AreUnheld old → AreUnheld new
unheld_same old new is none seat apart = ap (λ (hs : ℕ → List ℕ). hs seat) is ∙ none seat apart

pub unheld_let_go : (holder : ℕ) (old new : ℕ → List ℕ) → new ≡ letting_go old holder → AreUnheld old → AreUnheld new
unheld_let_go holder old new is none seat apart = ap (λ (hs : ℕ → List ℕ). hs seat) is ∙ by (seat == holder)
  where
    by : (b : Bool) → cond b [] (old seat) ≡ []
    by true = refl
    by false = none seat apart

-- one seat more, for which nothing is held
pub unheld_more : (seat : ℕ) (holds : ℕ → List ℕ) → length (holds seat) ≡ 0 → ((k : ℕ) → k < seat → k ≢ CONSOLE_HOLDER → holds k ≡ []) → (k : ℕ) → k < seat + 1 → k ≢ CONSOLE_HOLDER → holds k ≡ []
unheld_more seat holds nothing before k low apart = by (k == seat) refl
  where
    empty : (xs : List ℕ) → length xs ≡ 0 → xs ≡ []
    empty [] e = refl
    empty (x ∷ xs) e = absurd (omega (arith, e))

    by : (b : Bool) → (k == seat) ≡ b → holds k ≡ []
    by true e =
        let same : k ≡ seat = grind (arith, nat_tests, e) in
        subst (λ n. holds n ≡ []) (sym same) (empty (holds seat) nothing)
    by false e =
        let other : k ≢ seat = grind (arith, nat_tests, e) in
        before k (omega (arith, low, other)) apart

-- past the last seat no member is
pub unheld_seats : (set : ℕ) (member : ℕ → Option ForkName) (holds : ℕ → List ℕ) → ((k : ℕ) (f : ForkName) → member k ≡ Some f → k < set)
    → ((k : ℕ) → k ≢ CONSOLE_HOLDER → member k ≡ None → holds k ≡ []) → ((k : ℕ) → k < set → k ≢ CONSOLE_HOLDER → holds k ≡ []) → AreUnheld holds
unheld_seats set member holds below owned before k apart = by (member k) refl
  where
    by : (o : Option ForkName) → member k ≡ o → holds k ≡ []
    by None is = owned k apart is
    by (Some f) is = before k (below k f is) apart
