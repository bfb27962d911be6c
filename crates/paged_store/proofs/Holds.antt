-- What is held for each fork.
use Rattle.std.proofs.Common.{◌≡◌, ◌≢◌, ℕ, ◌<◌, ◌||◌, inl, inr, List, [], ◌∷◌, ◌++◌, length, count_by, Bool, true, false, cond, refl, sym, ◌∙◌, ap, arith, set}
use Rattle.std.proofs.Math.Path.{fun_ext}
use Rattle.std.proofs.lemmas.Bool.{cases_eq, eq-eqb, ne_eqb}
use Rattle.std.proofs.lemmas.List.{get_or-set_same, get_or-set_other, length-set}
use Rattle.std.proofs.lemmas.List.Sums.{sum_by-set, count_by-le-length}
use Rattle.page_contracts.specs.Stores.{holding, with_home, letting_go}
use Rattle.paged_store.specs.HeldHomes.{held_by}
use Rattle.paged_store.specs.Keeping.{is_among}

-- who holds more
pub holding_more : (holders : List (List ℕ)) (k h : ℕ) → k < length holders → is_among h (held_by holders k) ≡ false
    → (λ (i : ℕ). held_by (set holders k (held_by holders k ++ h ∷ [])) i) ≡ holding (λ i. held_by holders i) k h
holding_more holders k h below absent = fun_ext (λ i. elim (cases_eq i k) [
  | inl e ↦
      ap (held_by (set holders k (held_by holders k ++ h ∷ []))) e ∙ get_or-set_same holders k (held_by holders k ++ h ∷ []) [] below
      ∙ sym (ap (λ (b : Bool). cond b (with_home h (held_by holders i)) (held_by holders i)) (eq-eqb i k e) ∙ ap (λ (j : ℕ). with_home h (held_by holders j)) e
      ∙ ap (λ (b : Bool). cond b (held_by holders k) (held_by holders k ++ (h ∷ []))) absent)
  | inr other ↦ get_or-set_other holders k i (held_by holders k ++ h ∷ []) [] other ∙ sym (ap (λ (b : Bool). cond b (with_home h (held_by holders i)) (held_by holders i)) (ne_eqb i k other))
])

-- who holds it already
pub holding_same : (holders : List (List ℕ)) (k h : ℕ) → is_among h (held_by holders k) ≡ true → (λ (i : ℕ). held_by holders i) ≡ holding (λ i. held_by holders i) k h
holding_same holders k h there = fun_ext (λ i. elim (cases_eq i k) [
  | inl e ↦
      sym (ap (λ (b : Bool). cond b (with_home h (held_by holders i)) (held_by holders i)) (eq-eqb i k e)
      ∙ ap (λ (b : Bool). cond b (held_by holders i) (held_by holders i ++ (h ∷ []))) (ap (λ (j : ℕ). is_among h (held_by holders j)) e ∙ there))
  | inr other ↦ sym (ap (λ (b : Bool). cond b (with_home h (held_by holders i)) (held_by holders i)) (ne_eqb i k other))
])

-- who holds nothing any more
pub holds_nothing : (old new : List (List ℕ)) (k : ℕ) → held_by new k ≡ [] → ((i : ℕ) → i ≢ k → held_by new i ≡ held_by old i) → (λ (i : ℕ). held_by new i) ≡ letting_go (λ i. held_by old i) k
holds_nothing old new k none others = fun_ext (λ i. elim (cases_eq i k) [
  | inl e ↦ ap (held_by new) e ∙ none ∙ sym (ap (λ (b : Bool). cond b [] (held_by old i)) (eq-eqb i k e))
  | inr other ↦ others i other ∙ sym (ap (λ (b : Bool). cond b [] (held_by old i)) (ne_eqb i k other))
])

-- not every holder has a home that one of them hasn't
pub count_less : (holders : List (List ℕ)) (k h : ℕ) → k < length holders → is_among h (held_by holders k) ≡ false → count_by (is_among h) holders < length holders
count_less holders k h below absent =
    let changed = sum_by-set (λ (l : List ℕ). cond (is_among h l) 1 0) holders k (h ∷ []) [] below in
    let most = count_by-le-length (is_among h) (set holders k (h ∷ [])) in
    let long = length-set holders k (h ∷ []) in
    let none = ap (λ (b : Bool). let n : ℕ = cond b 1 0 in n) absent in
    let one = ap (λ (b : Bool). let n : ℕ = cond b 1 0 in n) (let e : is_among h (h ∷ []) ≡ true = ap (λ (b : Bool). b || false) (eq-eqb h h refl) in e) in
    omega (arith, changed, most, long, none, one)
