-- A table of options as a map.
use Rattle.std.proofs.Common.{◌≡◌, ℕ, zero, suc, ◌+◌, ◌<◌, List, [], ◌∷◌, length, get_or, set, Option, None, Some, Bool, true, false, cond, refl, sym, ◌∙◌, ap, subst, arith, inl, inr, ◌⊎◌, get_or-set_same, get_or-set_other}
use Rattle.std.proofs.lemmas.Bool.{cases_eq, cases_Bool}
use Rattle.std.specs.declared.cmp.Ordering.{Ordering}
use Rattle.std.specs.declared.cmp.Ordering.TheVariants.{Less, Equal, Greater}
use Rattle.std.specs.Ordering.{eq_by_cmp, is_eq}
use Rattle.std.specs.Cmp.{IsTotalOrder}
use Rattle.std.specs.FinMap as map
use Rattle.monitor_calls.specs.Jobs.{map_from}

-- the key of each entry has the entry's number for its rank
abbrev pub Ranked : {K X : Type 0} → (ℕ → X → K) → (K → ℕ) → ℕ → List (Option X) → Type 0
Ranked {K} {X} key rank n os = (i : ℕ) (x : X) → get_or os i None ≡ Some x → rank (key (n + i) x) ≡ n + i

-- the value of an entry, where it has this key
abbrev pub with_key : {K X V : Type 0} → (K → K → Ordering) → (ℕ → X → K) → (ℕ → X → V) → K → ℕ → Option X → Option V
with_key R key value q n None = None
with_key R key value q n (Some x) = cond (eq_by_cmp R q (key n x)) (Some (value n x)) None

module _ {K X V : Type 0} {R : K → K → Ordering} (o : IsTotalOrder R) (same : map.IsAntisymmetric R) (key : ℕ → X → K) (value : ℕ → X → V) (rank : K → ℕ) where
  ranked_tail : (n : ℕ) (e : Option X) (os : List (Option X)) → Ranked key rank n (e ∷ os) → Ranked key rank (n + 1) os
  ranked_tail n e os r i x is = let there : n + 1 + i ≡ n + suc i = omega arith in subst (λ k. rank (key k x) ≡ k) (sym there) (r (suc i) x is)

  tied : (q k : K) → eq_by_cmp R q k ≡ true → q ≡ k
  tied q k e = same q k (elim (R q k) as (λ r. is_eq r ≡ true → r ≡ Equal) [ Less ↦ λ h. absurd (cc h) | Equal ↦ λ h. refl | Greater ↦ λ h. absurd (cc h) ] e)

  -- a key of another rank does not tie
  apart : (q k : K) → (rank q ≡ rank k → ⊥) → eq_by_cmp R q k ≡ false
  apart q k ne = elim (cases_Bool (eq_by_cmp R q k)) [ inl e ↦ absurd (ne (ap rank (tied q k e))) | inr e ↦ e ]

  below : (n : ℕ) (os : List (Option X)) (q : K) → Ranked key rank n os → rank q < n → map.get (map_from {R = R} key value n os) q ≡ None
  below n [] q r h = map.get-empty R q
  below n (None ∷ os) q r h = below (n + 1) os q (ranked_tail n None os r) (omega arith)
  below n (Some x ∷ os) q r h =
      let rest = below (n + 1) os q (ranked_tail n (Some x) os r) (omega arith) in
      let here : rank (key n x) ≡ n = subst (λ k. rank (key k x) ≡ k) (omega arith) (r 0 x refl) in
      map.get-insert o (map_from key value (n + 1) os) (key n x) (value n x) q
      ∙ ap (λ b. cond b (Some (value n x)) (map.get (map_from {R = R} key value (n + 1) os) q)) (apart q (key n x) (λ e. let f : rank q ≡ n = e ∙ here in omega arith))
      ∙ rest

  -- what is at a key: the value of the entry of its rank, where that has the key
  pub found : (n : ℕ) (os : List (Option X)) (i : ℕ) (q : K) → Ranked key rank n os → rank q ≡ n + i → map.get (map_from {R = R} key value n os) q ≡ with_key R key value q (rank q) (get_or os i None)
  found n [] i q r e = map.get-empty R q
  found n (None ∷ os) zero q r e = below (n + 1) os q (ranked_tail n None os r) (omega arith)
  found n (None ∷ os) (suc i) q r e = found (n + 1) os i q (ranked_tail n None os r) (omega arith)
  found n (Some x ∷ os) zero q r e =
      let rest = below (n + 1) os q (ranked_tail n (Some x) os r) (omega arith) in
      let there : n ≡ rank q = omega arith in
      map.get-insert o (map_from key value (n + 1) os) (key n x) (value n x) q
      ∙ ap (λ m. cond (eq_by_cmp R q (key n x)) (Some (value n x)) m) rest
      ∙ ap (λ k. cond (eq_by_cmp R q (key k x)) (Some (value k x)) None) there
  found n (Some x ∷ os) (suc i) q r e =
      let rest = found (n + 1) os i q (ranked_tail n (Some x) os r) (omega arith) in
      let here : rank (key n x) ≡ n = subst (λ k. rank (key k x) ≡ k) (omega arith) (r 0 x refl) in
      map.get-insert o (map_from key value (n + 1) os) (key n x) (value n x) q
      ∙ ap (λ b. cond b (Some (value n x)) (map.get (map_from {R = R} key value (n + 1) os) q)) (apart q (key n x) (λ h. let f : rank q ≡ n = h ∙ here in omega arith))
      ∙ rest

  shadow : (b : Bool) (v : V) (w : Option V) → ((b ≡ true → ⊥) → w ≡ None) → cond b (Some v) None ≡ cond b (Some v) w
  shadow true v w h = refl
  shadow false v w h = sym (h (λ e. absurd (cc e)))

  -- a key's own entry, where the key does not tie with it
  not_there : (q : K) (n : ℕ) (e : Option X) (y : X) → ((x : X) → e ≡ Some x → key n x ≡ key n y) → (eq_by_cmp R q (key n y) ≡ true → ⊥) → with_key R key value q n e ≡ None
  not_there q n None y h ne = refl
  not_there q n (Some x) y h ne = ap (λ k. cond (eq_by_cmp R q k) (Some (value n x)) None) (h x refl) ∙ elim (cases_Bool (eq_by_cmp R q (key n y))) [ inl t ↦ absurd (ne t) | inr f ↦ ap (λ b. cond b (Some (value n x)) None) f ]

  module _ (os : List (Option X)) (i : ℕ) (y : X) (r : Ranked key rank 0 os) (s : Ranked key rank 0 (set os i (Some y))) (within : i < length os) (old : (x : X) → get_or os i None ≡ Some x → key i x ≡ key i y) where
    set_at : (q : K) → (rank q ≡ i) ⊎ (rank q ≡ i → ⊥) → map.get (map_from {R = R} key value 0 (set os i (Some y))) q ≡ map.get (map.insert (map_from {R = R} key value 0 os) (key i y) (value i y)) q
    set_at q (inl e) =
        found 0 (set os i (Some y)) i q s (omega (arith, e))
        ∙ ap (λ x. with_key R key value q (rank q) x) (get_or-set_same os i (Some y) None within)
        ∙ ap (λ k. cond (eq_by_cmp R q (key k y)) (Some (value k y)) None) e
        ∙ shadow (eq_by_cmp R q (key i y)) (value i y) (map.get (map_from {R = R} key value 0 os) q)
        (λ ne. found 0 os i q r (omega (arith, e)) ∙ ap (λ k. with_key R key value q k (get_or os i None)) e ∙ not_there q i (get_or os i None) y old ne)
        ∙ sym (map.get-insert o (map_from key value 0 os) (key i y) (value i y) q)
    set_at q (inr ne) =
        let rank_y : rank (key i y) ≡ i = let there : 0 + i ≡ i = omega arith in subst (λ k. rank (key k y) ≡ k) there (s i y (get_or-set_same os i (Some y) None within)) in
        found 0 (set os i (Some y)) (rank q) q s (omega arith)
        ∙ ap (λ x. with_key R key value q (rank q) x) (get_or-set_other os i (rank q) (Some y) None ne)
        ∙ sym (found 0 os (rank q) q r (omega arith))
        ∙ sym (map.get-insert o (map_from key value 0 os) (key i y) (value i y) q ∙ ap (λ b. cond b (Some (value i y)) (map.get (map_from {R = R} key value 0 os) q)) (apart q (key i y) (λ e. ne (e ∙ rank_y))))

    -- a table with another entry is the map with that entry's value
    pub map_from_set : map_from {R = R} key value 0 (set os i (Some y)) ≡ map.insert (map_from key value 0 os) (key i y) (value i y)
    map_from_set = map.same_map o same _ _ (λ q. set_at q (cases_eq (rank q) i))
