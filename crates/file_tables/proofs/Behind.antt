-- The entries of a finite map that stand behind a key: the first of them, and those behind that.
use Rattle.std.proofs.Common.{◌≡◌, Bool, true, false, cond, List, [], ◌∷◌, Some, None, refl, sym, ◌∙◌, ap, subst}
use Rattle.std.specs.Prelude.{T, ◌&&◌, IsSome}
use Rattle.std.specs.List.{filter}
use Rattle.std.specs.declared.cmp.Ordering.{Ordering}
use Rattle.std.specs.declared.cmp.Ordering.TheVariants.{Less, Equal, Greater}
use Rattle.std.specs.Ordering.{is_eq, is_lt, ordering_reverse}
use Rattle.std.specs.Cmp.{IsTotalOrder}
use Rattle.std.specs.FinMap.{IsAntisymmetric, find, is_sorted}
use Rattle.std.specs.FinMap.Entries.{below_all}
use Rattle.machine_names.proofs.Keys.{ties_itself}

parts_of : (a b : Bool) → T (a && b) → T a × T b
parts_of true b h = (tt, h)
parts_of false b h = absurd h

both_of : (a b : Bool) → T a → T b → T (a && b)
both_of true b h k = k
both_of false b h k = h

less_is : (r : Ordering) → T (is_lt r) → r ≡ Less
less_is Less h = refl
less_is Equal h = absurd h
less_is Greater h = absurd h

fails : (b : Bool) → (b ≡ true → ⊥) → b ≡ false
fails true h = absurd (h refl)
fails false h = refl

module _ {K X : Type 0} {R : K → K → Ordering} (o : IsTotalOrder R) (apart : IsAntisymmetric R) where
  -- what stands above a key stands above each below that
  higher : (k q : K) (es : List (K × X)) → R k q ≡ Less → T (below_all R q es) → T (below_all R k es)
  higher k q [] less h = tt
  higher k q (e ∷ es) less h =
      let parts = parts_of (is_lt (R q e.0)) (below_all R q es) h in
      both_of (is_lt (R k e.0)) (below_all R k es) (subst (λ r. T (is_lt r)) (sym (o.trans k q e.0 less (less_is (R q e.0) parts.0))) tt) (higher k q es less parts.1)

  none_found : (k : K) (es : List (K × X)) → T (below_all R k es) → find R k es ≡ None
  none_found k [] h = refl
  none_found k (e ∷ es) h =
      let parts = parts_of (is_lt (R k e.0)) (below_all R k es) h in
      ap (λ r. cond (is_eq r) (Some e.1) (find R k es)) (less_is (R k e.0) parts.0) ∙ none_found k es parts.1

  found_first : (e : K × X) (es : List (K × X)) → IsSome (find R e.0 (e ∷ es))
  found_first e es = subst (λ b. IsSome (cond b (Some e.1) (find R e.0 es))) (sym (ties_itself o apart e.0)) refl

  found_later : (q : K) (e : K × X) (es : List (K × X)) → IsSome (find R q es) → IsSome (find R q (e ∷ es))
  found_later q e es some = elim (is_eq (R q e.0)) as (λ b. IsSome (cond b (Some e.1) (find R q es))) [ true ↦ refl | false ↦ some ]

  -- the entries whose keys pass
  abbrev passing : (K → Bool) → List (K × X) → List (K × X)
  passing test es = filter (λ e. test e.0) es

  all_pass : (test : K → Bool) (k : K) (es : List (K × X)) → ((q : K) → R k q ≡ Less → test q ≡ true) → T (below_all R k es) → passing test es ≡ es
  all_pass test k [] up h = refl
  all_pass test k (e ∷ es) up h =
      let parts = parts_of (is_lt (R k e.0)) (below_all R k es) h in
      ap (λ b. cond b (e ∷ passing test es) (passing test es)) (up e.0 (less_is (R k e.0) parts.0)) ∙ ap (λ l. e ∷ l) (all_pass test k es up parts.1)

  pub none_passes : (test : K → Bool) (es : List (K × X)) → ((q : K) → IsSome (find R q es) → test q ≡ true → ⊥) → filter (λ e. test e.0) es ≡ []
  none_passes test [] none = refl
  none_passes test (e ∷ es) none =
      ap (λ b. cond b (e ∷ passing test es) (passing test es)) (fails (test e.0) (none e.0 (found_first e es)))
      ∙ none_passes test es (λ q some. none q (found_later q e es some))

  -- those behind a key
  abbrev behind : K → List (K × X) → List (K × X)
  behind k es = passing (λ q. is_lt (R k q)) es

  -- where the keys that pass are those from one on, these are the first of them and those behind it
  pub first_and_rest : (test : K → Bool) (k : K) (x : X) → test k ≡ true → ((q : K) → R k q ≡ Less → test q ≡ true) → (es : List (K × X)) → T (is_sorted R es)
      → find R k es ≡ Some x → ((q : K) → IsSome (find R q es) → test q ≡ true → R q k ≡ Less → ⊥)
      → filter (λ e. test e.0) es ≡ (k, x) ∷ filter (λ e. is_lt (R k e.0)) es
  first_and_rest test k x passes up [] sorted found first = absurd (cc found)
  first_and_rest test k x passes up (e ∷ es) sorted found first = by (R k e.0) refl (first_and_rest test k x passes up es parts.1)
    where
      parts : T (below_all R e.0 es) × T (is_sorted R es)
      parts = parts_of (below_all R e.0 es) (is_sorted R es) sorted

      by : (r : Ordering) → R k e.0 ≡ r
          → (find R k es ≡ Some x → ((q : K) → IsSome (find R q es) → test q ≡ true → R q k ≡ Less → ⊥) → passing test es ≡ (k, x) ∷ behind k es)
          → filter (λ f. test f.0) (e ∷ es) ≡ (k, x) ∷ filter (λ f. is_lt (R k f.0)) (e ∷ es)
      by Less is further =
          let none = none_found k (e ∷ es) (both_of (is_lt (R k e.0)) (below_all R k es) (subst (λ r. T (is_lt r)) (sym is) tt) (higher k e.0 es is parts.0)) in
          absurd (let never : None ≡ Some x = sym none ∙ found in cc never)
      by Equal is further =
          let same : k ≡ e.0 = apart k e.0 is in
          let here : Some e.1 ≡ Some x = sym (ap (λ r. cond (is_eq r) (Some e.1) (find R k es)) is) ∙ found in
          let value : e.1 ≡ x = cc here in
          let below : T (below_all R k es) = subst (λ q. T (below_all R q es)) (sym same) parts.0 in
          let all : passing test es ≡ es = all_pass test k es up below in
          let none_before : behind k es ≡ es = all_pass (λ q. is_lt (R k q)) k es (λ q less. ap is_lt less) below in
          ap (λ b. cond b (e ∷ passing test es) (passing test es)) (ap test (sym same) ∙ passes) ∙ ap (λ l. e ∷ l) (all ∙ sym none_before)
          ∙ (λ i. (sym same i, value i) ∷ behind k es)
          ∙ ap (λ l. (k, x) ∷ l) (sym (ap (λ r. cond (is_lt r) (e ∷ behind k es) (behind k es)) is))
      by Greater is further =
          let less : R e.0 k ≡ Less = o.antisymm e.0 k ∙ ap ordering_reverse is in
          let fails_here : test e.0 ≡ false = fails (test e.0) (λ holds. first e.0 (found_first e es) holds less) in
          let found_behind : find R k es ≡ Some x = sym (ap (λ r. cond (is_eq r) (Some e.1) (find R k es)) is) ∙ found in
          ap (λ b. cond b (e ∷ passing test es) (passing test es)) fails_here
          ∙ further found_behind (λ q some holds before. first q (found_later q e es some) holds before)
          ∙ ap (λ l. (k, x) ∷ l) (sym (ap (λ r. cond (is_lt r) (e ∷ behind k es) (behind k es)) is))
