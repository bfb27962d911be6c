-- The values of a finite map, and the first of them that passes a test.
use Rattle.std.proofs.Common.{◌≡◌, List, [], ◌∷◌, map, All, Option, None, Some, Bool, true, false, cond, ◌&&◌, refl, sym, ◌∙◌, ap, subst, T, is_lt, inl, inr}
use Rattle.std.specs.List.{find}
use Rattle.std.specs.declared.cmp.Ordering.{Ordering}
use Rattle.std.specs.declared.cmp.Ordering.TheVariants.{Less, Equal, Greater}
use Rattle.std.specs.Ordering.{eq_by_cmp, is_eq}
use Rattle.std.specs.Cmp.{IsTotalOrder}
use Rattle.std.specs.FinMap as fin
use Rattle.std.specs.FinMap.Entries as entries
use Rattle.std.proofs.lemmas.Bool.{cases_Bool}
use Rattle.std.proofs.lemmas.Cmp.{tied_itself}
use Rattle.std.proofs.lemmas.List.Elements.{All-nil, All-cons, All-head, All-tail}

-- what is found passes, and is one of the list
pub found_passes : {X : Type 0} (p : X → Bool) (xs : List X) (v : X) → find p xs ≡ Some v → p v ≡ true
found_passes p [] v e = absurd (cc e)
found_passes p (x ∷ xs) v e = by (found_passes p xs v) (p x) refl e
  where
    by : (find p xs ≡ Some v → p v ≡ true) → (b : Bool) → p x ≡ b → cond b (Some x) (find p xs) ≡ Some v → p v ≡ true
    by rest true is found = let same : x ≡ v = cc found in ap p (sym same) ∙ is
    by rest false is found = rest found

pub found_holds : {X : Type 0} (P : X → Type 0) (p : X → Bool) (xs : List X) (v : X) → All P xs → find p xs ≡ Some v → P v
found_holds P p [] v all e = absurd (cc e)
found_holds P p (x ∷ xs) v all e = by (found_holds P p xs v (All-tail P x xs all)) (p x) e
  where
    by : (find p xs ≡ Some v → P v) → (b : Bool) → cond b (Some x) (find p xs) ≡ Some v → P v
    by rest true found = let same : x ≡ v = cc found in subst P same (All-head P x xs all)
    by rest false found = rest found

first : (a b : Bool) → T (a && b) → T a
first true b p = tt
first false b p = p

second : (a b : Bool) → T (a && b) → T b
second true b p = p
second false b p = absurd p

apart : (r : Ordering) → T (is_lt r) → is_eq r ≡ false
apart Less p = refl
apart Equal p = absurd p
apart Greater p = absurd p

equal : (r : Ordering) → is_eq r ≡ true → r ≡ Equal
equal Less e = absurd (cc e)
equal Equal e = refl
equal Greater e = absurd (cc e)

module _ {K X : Type 0} (R : K → K → Ordering) (o : IsTotalOrder R) where
  below_absent : (x : K) (es : List (K × X)) → T (entries.below_all R x es) → entries.find R x es ≡ None
  below_absent x [] h = refl
  below_absent x (e ∷ es) h = ap (λ b. cond b (Some e.1) (entries.find R x es)) (apart (R x e.0) (first _ _ h)) ∙ below_absent x es (second _ _ h)

  module _ (P : X → Type 0) where
    each : (es : List (K × X)) → T (entries.is_sorted R es) → ((q : K) (v : X) → entries.find R q es ≡ Some v → P v) → All P (map (λ e. e.1) es)
    each [] s h = All-nil P
    each (e ∷ es) s h =
        All-cons P e.1 (map (λ (y : K × X). y.1) es) (h e.0 e.1 (ap (λ b. cond b (Some e.1) (entries.find R e.0 es)) (ap is_eq (tied_itself o e.0))))
        (each es (second _ _ s) (λ q v found. h q v (ap (λ b. cond b (Some e.1) (entries.find R q es)) (untied q v found) ∙ found)))
      where
        untied : (q : K) (v : X) → entries.find R q es ≡ Some v → eq_by_cmp R q e.0 ≡ false
        untied q v found = elim (cases_Bool (eq_by_cmp R q e.0)) [
          | inl t ↦
              let none : entries.find R e.0 es ≡ None = below_absent e.0 es (first _ _ s) in
              let alike : entries.find R e.0 es ≡ entries.find R q es = entries.find_tied R o q e.0 (equal (R q e.0) t) es in
              absurd (cc (none, alike, found))
          | inr f ↦ f
        ]

    -- what holds of each value that a look-up finds holds of each value
    pub values_all : (m : fin.FinMap R X) → ((q : K) (v : X) → fin.get m q ≡ Some v → P v) → All P (fin.values m)
    values_all m h = each (fin.entries m) (fin.entries_sorted m) (λ q v found. h q v (fin.get-entries m q ∙ found))

  module _ (p : X → Bool) (v : X) (passes : p v ≡ true) where
    here : (x : X) (xs : List X) (b : Bool) → (b ≡ true → x ≡ v) → (b ≡ false → find p xs ≡ Some v) → cond b (Some x) (find p xs) ≡ Some v
    here x xs true one rest = ap Some (one refl)
    here x xs false one rest = rest refl

    later : (x : X) (b c : Bool) (found : Option X) → cond b (Some x) found ≡ Some v → p x ≡ c → c ≡ false → found ≡ Some v
    later x true c found e is fails = absurd (let f : x ≡ v = cc in let g : true ≡ false = sym passes ∙ ap p (sym f) ∙ is ∙ fails in cc g)
    later x false c found e is fails = e

    abbrev Only : X → Type 0
    Only x = p x ≡ true → x ≡ v

    only_in : (q : K) (es : List (K × X)) → entries.find R q es ≡ Some v → All Only (map (λ e. e.1) es) → find p (map (λ e. e.1) es) ≡ Some v
    only_in q [] e one = absurd (cc e)
    only_in q (x ∷ es) e one =
        let rest = map (λ (y : K × X). y.1) es in
        here x.1 rest (p x.1) (All-head Only x.1 rest one) (λ fails. only_in q es (later x.1 (eq_by_cmp R q x.0) (p x.1) (entries.find R q es) e refl fails) (All-tail Only x.1 rest one))

    -- the one value that passes is found
    pub found_only : (m : fin.FinMap R X) (q : K) → fin.get m q ≡ Some v → ((k : K) (x : X) → fin.get m k ≡ Some x → p x ≡ true → x ≡ v) → find p (fin.values m) ≡ Some v
    found_only m q e one = only_in q (fin.entries m) (sym (fin.get-entries m q) ∙ e) (values_all Only m one)
