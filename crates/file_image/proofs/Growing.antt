-- How a text that is written goes on, and a text for each thing of a list.
use Rattle.std.proofs.Common.{◌≡◌, ℕ, ◌+◌, ◌<◌, List, [], ◌∷◌, ◌++◌, length, get_or, take, drop, Option, Some, Result, Ok, Err, OnOk, OnErr, sym, ◌∙◌, ap, subst, append_assoc, take-append-drop, take-add}
use Rattle.std.specs.List.{flat_map}
use Rattle.std.proofs.lemmas.Grind.{flat_map-append}
use Rattle.std.proofs.lemmas.List.{append-nil, drop_more, take_more}
use Rattle.outside.specs.declared.failure.Failed.{Failed}
use Rattle.outside.specs.Told.{Grows, Stays}
use Rattle.texts.specs.Wrote.{GrowsPartly}

-- what is known whatever a result is
pub any_ok : {A : Type 0} {P : Type 0} (r : Result A Failed) → P → OnOk r P
any_ok (Ok x) p = p
any_ok (Err e) p = tt

pub any_err : {A : Type 0} {P : Type 0} (r : Result A Failed) → P → OnErr r P
any_err (Ok x) p = tt
any_err (Err e) p = p

pub map_ok : {A : Type 0} {P Q : Type 0} (r : Result A Failed) → (P → Q) → OnOk r P → OnOk r Q
map_ok (Ok x) f p = f p
map_ok (Err e) f p = tt

pub map_err : {A : Type 0} {P Q : Type 0} (r : Result A Failed) → (P → Q) → OnErr r P → OnErr r Q
map_err (Ok x) f p = tt
map_err (Err e) f p = f p

module _ (a b : Option (List ℕ)) where
  pub grows_none : Grows a a []
  grows_none xs h = h ∙ ap Some (sym (append-nil xs))

  pub grows_same : (x y : List ℕ) → x ≡ y → Grows a b x → Grows a b y
  grows_same x y same f = subst (Grows a b) same f

  pub partly_same : (x y : List ℕ) → x ≡ y → GrowsPartly a b x → GrowsPartly a b y
  partly_same x y same f = subst (GrowsPartly a b) same f

  -- a front of a text is one of a longer text
  pub partly_longer : (x y : List ℕ) → GrowsPartly a b x → GrowsPartly a b (x ++ y)
  partly_longer x y f xs h = let p = f xs h in (p.0, p.1 ++ y, p.2, ap (λ l. l ++ y) p.3 ∙ append_assoc p.0 p.1 y)

module _ (a b c : Option (List ℕ)) where
  -- one text after another
  pub grows_then : (x y : List ℕ) → Grows a b x → Grows b c y → Grows a c (x ++ y)
  grows_then x y f g xs h = g (xs ++ x) (f xs h) ∙ ap Some (append_assoc xs x y)

  -- some bytes more of one text
  pub grows_more : (bytes : List ℕ) (at n : ℕ) → Grows a b (take at bytes) → Grows b c (take n (drop at bytes)) → Grows a c (take (at + n) bytes)
  grows_more bytes at n f g = subst (Grows a c) (sym (take-add at n bytes)) (grows_then (take at bytes) (take n (drop at bytes)) f g)

  -- a failure behind a front
  pub partly_at : (bytes : List ℕ) (at : ℕ) → Grows a b (take at bytes) → Stays b c → GrowsPartly a c bytes
  partly_at bytes at f g xs h = (take at bytes, drop at bytes, g (xs ++ take at bytes) (f xs h), sym (take-append-drop at bytes))

  pub partly_then : (x y : List ℕ) → Grows a b x → GrowsPartly b c y → GrowsPartly a c (x ++ y)
  partly_then x y f g xs h =
      let p = g (xs ++ x) (f xs h) in
      (x ++ p.0, p.1, p.2 ∙ ap Some (append_assoc xs x p.0), ap (λ l. x ++ l) p.3 ∙ sym (append_assoc x p.0 p.1))

module _ {X : Type 0} (f : X → List ℕ) (xs : List X) (i : ℕ) (d : X) (below : i < length xs) where
  pub flat_more : flat_map f (take (i + 1) xs) ≡ flat_map f (take i xs) ++ f (get_or xs i d)
  flat_more =
      ap (flat_map f) (take_more xs i d below) ∙ flat_map-append f (take i xs) (get_or xs i d ∷ []) ∙ ap (λ l. flat_map f (take i xs) ++ l) (append-nil (f (get_or xs i d)))

  pub flat_split : flat_map f xs ≡ flat_map f (take i xs) ++ (f (get_or xs i d) ++ flat_map f (drop (i + 1) xs))
  flat_split =
      ap (flat_map f) (sym (take-append-drop i xs)) ∙ flat_map-append f (take i xs) (drop i xs) ∙ ap (λ l. flat_map f (take i xs) ++ flat_map f l) (drop_more xs i d below)
