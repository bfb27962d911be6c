-- Orders of frames.
use Rattle.std.proofs.Common.{◌≡◌, ◌≢◌, ℕ, ◌≤◌, ◌==◌, ◌⊎◌, inl, inr, List, [], ◌∷◌, ◌++◌, length, Bool, true, false, not, cond, eqb, ◌||◌, refl, sym, ◌∙◌, ap, subst, arith}
use Rattle.std.proofs.lemmas.List.Elements.{filter-append}
use Rattle.std.specs.List.{IsDistinct, AllByRecursion}
use Rattle.std.proofs.lemmas.Map.Keys.{IsDistinct-cons}
use Rattle.std.proofs.lemmas.Map.Steps.{length-le_from_distinct_below}
use Rattle.frame_order.specs.FrameOrder.{Order, stands_in, without, IsOnce, IsOrder}

-- a frame that is one of these is none that is not
pub other_frame : (f g : ℕ) (fs : List ℕ) → stands_in f fs ≡ true → stands_in g fs ≡ false → f ≢ g
other_frame f g fs here absent same = let e : stands_in f fs ≡ stands_in g fs = ap (λ h. stands_in h fs) same in cc

same_test : (f g : ℕ) → f ≡ g → (f == g) ≡ true
same_test f g e = grind arith

or_false : (a b : Bool) → (a || b) ≡ false → (a ≡ false) × (b ≡ false)
or_false true b e = absurd cc
or_false false b e = (refl, e)

or_true : (a b : Bool) → b ≡ true → (a || b) ≡ true
or_true true b e = refl
or_true false b e = e

pub not_first : (f g : ℕ) (gs : List ℕ) → stands_in f (g ∷ gs) ≡ false → f ≢ g
not_first f g gs absent same =
    let no : (f == g) ≡ false = (or_false (f == g) (stands_in f gs) absent).0 in
    let yes : (f == g) ≡ true = same_test f g same in
    cc

pub not_behind : (f g : ℕ) (gs : List ℕ) → stands_in f (g ∷ gs) ≡ false → stands_in f gs ≡ false
not_behind f g gs absent = (or_false (f == g) (stands_in f gs) absent).1

pub stands_first : (f : ℕ) (fs : List ℕ) → stands_in f (f ∷ fs) ≡ true
stands_first f fs = ap (λ (b : Bool). b || stands_in f fs) (same_test f f refl)

pub stands_behind : (f g : ℕ) (gs : List ℕ) → stands_in f gs ≡ true → stands_in f (g ∷ gs) ≡ true
stands_behind f g gs here = or_true (f == g) (stands_in f gs) here

pub absent_first : (f g : ℕ) (gs : List ℕ) → f ≢ g → stands_in f gs ≡ false → stands_in f (g ∷ gs) ≡ false
absent_first f g gs other absent = grind (arith, absent)

-- a frame is the first or behind it
pub first_or_behind : (f g : ℕ) (gs : List ℕ) → stands_in f (g ∷ gs) ≡ true → (f ≡ g) ⊎ (stands_in f gs ≡ true)
first_or_behind f g gs here = grind arith

-- in two pieces
pub stands_in-append : (f : ℕ) (gs hs : List ℕ) → stands_in f (gs ++ hs) ≡ (stands_in f gs || stands_in f hs)
stands_in-append f [] hs = refl
stands_in-append f (g ∷ gs) hs = grind (arith, stands_in-append f gs hs)

pub front_absent : (f : ℕ) (gs hs : List ℕ) → stands_in f (gs ++ hs) ≡ false → stands_in f gs ≡ false
front_absent f gs hs absent = (or_false (stands_in f gs) (stands_in f hs) (sym (stands_in-append f gs hs) ∙ absent)).0

pub rest_absent : (f : ℕ) (gs hs : List ℕ) → stands_in f (gs ++ hs) ≡ false → stands_in f hs ≡ false
rest_absent f gs hs absent = (or_false (stands_in f gs) (stands_in f hs) (sym (stands_in-append f gs hs) ∙ absent)).1

or_cases : (a b : Bool) → (a || b) ≡ true → (a ≡ true) ⊎ (b ≡ true)
or_cases true b e = inl refl
or_cases false b e = inr e

-- a frame of an order to which one was added is of that order, or the one
pub stands_push : (g f : ℕ) (gs : List ℕ) → stands_in g (gs ++ f ∷ []) ≡ true → (stands_in g gs ≡ true) ⊎ (g ≡ f)
stands_push g f gs here =
    elim (or_cases (stands_in g gs) (stands_in g (f ∷ [])) (sym (stands_in-append g gs (f ∷ [])) ∙ here)) [
      | inl before ↦ inl before
      | inr last ↦ elim (first_or_behind g f [] last) [ inl same ↦ inr same | inr none ↦ absurd cc ]
    ]

-- a frame of the two sides of another is of the whole
pub stands_around : (g f : ℕ) (gs hs : List ℕ) → stands_in g (gs ++ hs) ≡ true → stands_in g (gs ++ f ∷ hs) ≡ true
stands_around g f [] hs here = stands_behind g f hs here
stands_around g f (h ∷ gs) hs here = elim (first_or_behind g h (gs ++ hs) here) [
  | inl same ↦ subst (λ (k : ℕ). stands_in g (k ∷ (gs ++ f ∷ hs)) ≡ true) same (stands_first g (gs ++ f ∷ hs))
  | inr behind ↦ stands_behind g h (gs ++ f ∷ hs) (stands_around g f gs hs behind)
]

pub not_true : (b : Bool) → (b ≡ true → ⊥) → b ≡ false
not_true true refuted = absurd (refuted refl)
not_true false refuted = refl

-- all frames are there still where none was taken away
pub without_absent : (f : ℕ) (gs : List ℕ) → stands_in f gs ≡ false → without f gs ≡ gs
without_absent f [] absent = refl
without_absent f (g ∷ gs) absent = grind (arith, without_absent f gs (not_behind f g gs absent))

without_first : (f : ℕ) (gs : List ℕ) → without f (f ∷ gs) ≡ without f gs
without_first f gs = ap (λ (b : Bool). cond (not b) (f ∷ without f gs) (without f gs)) (same_test f f refl)

all_apart : (f : ℕ) (gs : List ℕ) → stands_in f gs ≡ false → AllByRecursion (λ g. eqb f g ≡ false) gs
all_apart f [] absent = tt
all_apart f (g ∷ gs) absent =
    let pieces = or_false (f == g) (stands_in f gs) absent in
    (pieces.0, all_apart f gs pieces.1)

-- where a frame stands
pub record Found (f : ℕ) (fs : List ℕ) : Type 0 where
  pub front : List ℕ
  pub rest : List ℕ
  pub is : fs ≡ front ++ f ∷ rest

pub found : (f : ℕ) (fs : List ℕ) → stands_in f fs ≡ true → Found f fs
found f [] here = absurd cc
found f (g ∷ gs) here = elim (first_or_behind f g gs here) [
  | inl same ↦ record { front = []; rest = gs; is = ap (λ h. h ∷ gs) (sym same) }
  | inr behind ↦
      let there = found f gs behind in
      record { front = g ∷ there.front; rest = there.rest; is = ap (λ (hs : List ℕ). g ∷ hs) there.is }
]

-- a frame that stands on neither side of another
pub record IsBeside (g f : ℕ) (front rest : List ℕ) : Type 0 where
  pub front_absent : stands_in g front ≡ false
  pub other : g ≢ f
  pub rest_absent : stands_in g rest ≡ false
  pub absent : stands_in g (front ++ rest) ≡ false

pub beside : (g f : ℕ) (front rest : List ℕ) → stands_in g (front ++ f ∷ rest) ≡ false → IsBeside g f front rest
beside g f front rest absent =
    let pieces = or_false (stands_in g front) (stands_in g (f ∷ rest)) (sym (stands_in-append g front (f ∷ rest)) ∙ absent) in
    record {
      front_absent = pieces.0;
      other = not_first g f rest pieces.1;
      rest_absent = not_behind g f rest pieces.1;
      absent = grind (arith, stands_in-append g front rest, pieces.0, not_behind g f rest pieces.1);
    }

-- a frame that is there once stands on neither side of itself, and without it the others are there once
pub record IsOnceAt (f : ℕ) (front rest : List ℕ) : Type 0 where
  pub front_absent : stands_in f front ≡ false
  pub rest_absent : stands_in f rest ≡ false
  pub once : IsOnce (front ++ rest)

pub once_at : (f : ℕ) (front rest : List ℕ) → IsOnce (front ++ f ∷ rest) → IsOnceAt f front rest
once_at f [] rest once = record { front_absent = refl; rest_absent = once.0; once = once.1 }
once_at f (g ∷ gs) rest once =
    let further = once_at f gs rest once.1 in
    let apart = beside g f gs rest once.0 in
    record {
      front_absent = absent_first f g gs (λ same. apart.other (sym same)) further.front_absent;
      rest_absent = further.rest_absent;
      once = (apart.absent, further.once);
    }

pub once_push : (f : ℕ) (gs : List ℕ) → IsOnce gs → stands_in f gs ≡ false → IsOnce (gs ++ f ∷ [])
once_push f [] once absent = (refl, tt)
once_push f (g ∷ gs) once absent =
    let here : stands_in g (gs ++ f ∷ []) ≡ false =
    stands_in-append g gs (f ∷ [])
    ∙ ap (λ (b : Bool). b || stands_in g (f ∷ [])) once.0 ∙ absent_first g f [] (λ same. not_first f g gs absent (sym same)) refl in
    (here, once_push f gs once.1 (not_behind f g gs absent))

-- without a frame that stands there, the two sides are left
pub without_found : (f : ℕ) (front rest : List ℕ) → IsOnce (front ++ f ∷ rest) → without f (front ++ f ∷ rest) ≡ front ++ rest
without_found f front rest once =
    let at = once_at f front rest once in
    filter-append (λ g. not (f == g)) front (f ∷ rest)
    ∙ ap (λ (gs : List ℕ). gs ++ without f (f ∷ rest)) (without_absent f front at.front_absent)
    ∙ ap (λ (gs : List ℕ). front ++ gs) (without_first f rest ∙ without_absent f rest at.rest_absent)

-- no more frames are there than there are
distinct : (fs : List ℕ) → IsOnce fs → IsDistinct eqb fs
unfolding IsDistinct
distinct [] once = tt
distinct (f ∷ fs) once = IsDistinct-cons eqb f fs (all_apart f fs once.0) (distinct fs once.1)

pub order_fits : (o : Order) → IsOrder o → length o.order ≤ o.frames
order_fits o is = length-le_from_distinct_below o.order o.frames (distinct o.order is.once) is.below
