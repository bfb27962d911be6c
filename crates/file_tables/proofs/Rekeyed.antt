-- A finite map whose entries are put under other keys.
use Rattle.std.proofs.Common.{◌≡◌, Bool, true, false, cond, List, [], ◌∷◌, map as each, Some, None, refl, sym, ◌∙◌, ap, ◌⊎◌, inl, inr}
use Rattle.std.specs.Option.{option_map}
use Rattle.std.specs.Prelude.{T, ◌&&◌}
use Rattle.std.specs.declared.cmp.Ordering.{Ordering}
use Rattle.std.specs.declared.cmp.Ordering.TheVariants.{Less, Equal, Greater}
use Rattle.std.specs.Ordering.{eq_by_cmp, is_eq, is_lt}
use Rattle.std.specs.Cmp.{IsTotalOrder, eq_by_cmp_equiv}
use Rattle.std.specs.FinMap as map
use Rattle.std.specs.FinMap.{IsAntisymmetric, find, is_sorted}
use Rattle.std.specs.FinMap.Entries.{below_all}
use Rattle.machine_names.proofs.Keys.{ties_itself, same_key}

-- each element has this
abbrev pub Each : {A : Type 0} → (A → Type 0) → List A → Type 0
Each P [] = Unit {0}
Each P (x ∷ xs) = P x × Each P xs

pub of_all : {A : Type 0} (P : A → Type 0) (xs : List A) → ((x : A) → P x) → Each P xs
of_all P [] h = tt
of_all P (x ∷ xs) h = (h x, of_all P xs h)

pub weaker : {A : Type 0} (P Q : A → Type 0) (xs : List A) → ((x : A) → P x → Q x) → Each P xs → Each Q xs
weaker P Q [] h all = tt
weaker P Q (x ∷ xs) h all = (h x all.0, weaker P Q xs h all.1)

both_each : {A : Type 0} (P Q : A → Type 0) (xs : List A) → Each P xs → Each Q xs → Each (λ x. P x × Q x) xs
both_each P Q [] a b = tt
both_each P Q (x ∷ xs) a b = ((a.0, b.0), both_each P Q xs a.1 b.1)

-- one of the elements passes a test, or none does
pub one_or_none : {A : Type 0} (test : A → Bool) (P : A → Type 0) (xs : List A) → Each P xs
    → ((x : A) × P x × (test x ≡ true)) ⊎ Each (λ x. P x × (test x ≡ false)) xs
one_or_none test P [] h = inr tt
one_or_none {A} test P (x ∷ xs) h = by (test x) refl (one_or_none test P xs h.1)
  where
    by : (b : Bool) → test x ≡ b → ((y : A) × P y × (test y ≡ true)) ⊎ Each (λ y. P y × (test y ≡ false)) xs
        → ((y : A) × P y × (test y ≡ true)) ⊎ Each (λ y. P y × (test y ≡ false)) (x ∷ xs)
    by true is rest = inl (x, h.0, is)
    by false is (inl found) = inl found
    by false is (inr none) = inr ((h.0, is), none)

first_of : (a b : Bool) → T (a && b) → T a
first_of true b h = tt
first_of false b h = absurd h

second_of : (a b : Bool) → T (a && b) → T b
second_of true b h = h
second_of false b h = absurd h

less_parts : (r : Ordering) → T (is_lt r) → is_eq r ≡ false
less_parts Less h = refl
less_parts Equal h = absurd h
less_parts Greater h = refl

module _ {K X : Type 0} {R : K → K → Ordering} (o : IsTotalOrder R) (apart : IsAntisymmetric R) where
  behind : (k : K) (es : List (K × X)) → T (below_all R k es) → Each (λ e. eq_by_cmp R e.0 k ≡ false) es
  behind k [] h = tt
  behind k (e ∷ es) h = (
    (eq_by_cmp_equiv o).symm e.0 k ∙ less_parts (R k e.0) (first_of (is_lt (R k e.0)) (below_all R k es) h),
    behind k es (second_of (is_lt (R k e.0)) (below_all R k es) h),
  )

  each_found : (es : List (K × X)) → T (is_sorted R es) → Each (λ e. find R e.0 es ≡ Some e.1) es
  each_found [] h = tt
  each_found (e ∷ es) h = (
    ap (λ b. cond b (Some e.1) (find R e.0 es)) (ties_itself o apart e.0),
    weaker (λ x. (eq_by_cmp R x.0 e.0 ≡ false) × (find R x.0 es ≡ Some x.1)) (λ x. find R x.0 (e ∷ es) ≡ Some x.1) es
        (λ x both. ap (λ b. cond b (Some e.1) (find R x.0 es)) both.0 ∙ both.1)
        (both_each (λ x. eq_by_cmp R x.0 e.0 ≡ false) (λ x. find R x.0 es ≡ Some x.1) es
        (behind e.0 es (first_of (below_all R e.0 es) (is_sorted R es) h)) (each_found es (second_of (below_all R e.0 es) (is_sorted R es) h))),
  )

  -- each entry of a map is what the map has under its key
  pub each_there : (m : map.FinMap R X) → Each (λ e. map.get m e.0 ≡ Some e.1) (map.entries m)
  each_there m = weaker (λ e. find R e.0 (map.entries m) ≡ Some e.1) (λ e. map.get m e.0 ≡ Some e.1) (map.entries m)
      (λ e is. map.get-entries m e.0 ∙ is) (each_found (map.entries m) (map.entries_sorted m))

  module _ {L Y : Type 0} {S : L → L → Ordering} (s : IsTotalOrder S) (key : K → X → L) (value : K → X → Y) where
    abbrev pub rekeyed : List (K × X) → List (L × Y)
    rekeyed es = each (λ (e : K × X). (key e.0 e.1, value e.0 e.1)) es

    module _ (q : L) where
      abbrev pub Parts : K × X → Type 0
      Parts e = eq_by_cmp S q (key e.0 e.1) ≡ false

      finds : (k : K) (es : List (K × X)) → Each (λ e. eq_by_cmp S q (key e.0 e.1) ≡ eq_by_cmp R k e.0) es
          → find S q (rekeyed es) ≡ option_map (value k) (find R k es)
      finds k [] h = refl
      finds k (e ∷ es) h = by (finds k es h.1) (eq_by_cmp R k e.0) refl
        where
          by : find S q (rekeyed es) ≡ option_map (value k) (find R k es) → (b : Bool) → eq_by_cmp R k e.0 ≡ b
              → find S q (rekeyed (e ∷ es)) ≡ option_map (value k) (find R k (e ∷ es))
          by rest true is =
              ap (λ b. cond b (Some (value e.0 e.1)) (find S q (rekeyed es))) (h.0 ∙ is)
              ∙ (ap (λ x. Some (value x e.1)) (sym (same_key o apart k e.0 is))
              ∙ sym (ap (λ b. option_map (value k) (cond b (Some e.1) (find R k es))) is))
          by rest false is =
              ap (λ b. cond b (Some (value e.0 e.1)) (find S q (rekeyed es))) (h.0 ∙ is)
              ∙ (rest ∙ sym (ap (λ b. option_map (value k) (cond b (Some e.1) (find R k es))) is))

      finds_none : (es : List (K × X)) → Each Parts es → find S q (rekeyed es) ≡ None
      finds_none [] h = refl
      finds_none (e ∷ es) h = ap (λ b. cond b (Some (value e.0 e.1)) (find S q (rekeyed es))) h.0 ∙ finds_none es h.1

      -- what the map has under a key is under the other key, where the two keys stand for each other
      pub rekeyed_at : (m : map.FinMap R X) (k : K) → ((e : K × X) → map.get m e.0 ≡ Some e.1 → eq_by_cmp S q (key e.0 e.1) ≡ eq_by_cmp R k e.0)
          → map.get (map.from_entries {R = S} (rekeyed (map.entries m))) q ≡ option_map (value k) (map.get m k)
      rekeyed_at m k alike =
          map.get-from_entries s (rekeyed (map.entries m)) q
          ∙ (finds k (map.entries m) (weaker (λ e. map.get m e.0 ≡ Some e.1) (λ e. eq_by_cmp S q (key e.0 e.1) ≡ eq_by_cmp R k e.0) (map.entries m) alike (each_there m))
          ∙ ap (option_map (value k)) (sym (map.get-entries m k)))

      -- and nothing is under a key for which no key stands
      pub rekeyed_none : (m : map.FinMap R X) → Each Parts (map.entries m) → map.get (map.from_entries {R = S} (rekeyed (map.entries m))) q ≡ None
      rekeyed_none m none = map.get-from_entries s (rekeyed (map.entries m)) q ∙ finds_none (map.entries m) none
