-- Frames by home.
use Rattle.std.proofs.Common.{◌≡◌, ◌≢◌, ℕ, zero, suc, ◌<◌, inl, inr, [], ◌∷◌, length, Option, None, Some, Bool, true, false, cond, refl, sym, ◌∙◌, ap, subst, set}
use Rattle.std.specs.Option.{option_map}
use Rattle.std.proofs.lemmas.Bool.{cases_eq, cases_lt, false≢true, eqb-true, eq-eqb}
use Rattle.std.proofs.lemmas.List.{get_or-set_same, get_or-set_other, get_or_past}
use Rattle.frame_table.specs.declared.tenant.Tenant.{Tenant}
use Rattle.page_residence.specs.Resident.{Seats, seat, home_at, is_given, frame_for, IsSingle}

pub given_home : (h : ℕ) (s : Option Tenant) → is_given h s ≡ true → option_map (λ t. t.home.0) s ≡ Some h
given_home h None is = absurd (false≢true is)
given_home h (Some t) is = ap Some (sym (eqb-true h t.home.0 is))

pub home_given : (h : ℕ) (s : Option Tenant) → option_map (λ t. t.home.0) s ≡ Some h → is_given h s ≡ true
home_given h None is = absurd cc
home_given h (Some t) is = eq-eqb h t.home.0 (let e : h ≡ t.home.0 = cc in e)

suc_is : (o : Option ℕ) (f : ℕ) → option_map suc o ≡ Some f → (g : ℕ) × (o ≡ Some g) × (f ≡ suc g)
suc_is None f is = absurd cc
suc_is (Some g) f is = (g, refl, let e : f ≡ suc g = cc in e)

-- the frame for a home is given to it
pub frame_has : (seats : Seats) (h f : ℕ) → frame_for seats h ≡ Some f → home_at seats f ≡ Some h
unfolding frame_for
frame_has [] h f is = absurd cc
frame_has (s ∷ seats) h f is = at (is_given h s) refl is (frame_has seats h)
  where
    at : (b : Bool) → is_given h s ≡ b → cond b (Some 0) (option_map suc (frame_for seats h)) ≡ Some f → ((g : ℕ) → frame_for seats h ≡ Some g → home_at seats g ≡ Some h)
        → home_at (s ∷ seats) f ≡ Some h
    at true given is rest = let e : 0 ≡ f = cc in subst (λ (g : ℕ). home_at (s ∷ seats) g ≡ Some h) e (given_home h s given)
    at false given is rest =
        let one = suc_is (frame_for seats h) f is in
        subst (λ (g : ℕ). home_at (s ∷ seats) g ≡ Some h) (sym one.2) (rest one.0 one.1)

-- where there is none, none is given to it
pub none_has : (seats : Seats) (h : ℕ) → frame_for seats h ≡ None → (f : ℕ) → home_at seats f ≡ Some h → ⊥
unfolding frame_for
none_has [] h is f has = absurd cc
none_has (s ∷ seats) h is f has = at (is_given h s) refl is f has (none_has seats h)
  where
    past : (o : Option ℕ) → option_map suc o ≡ None → o ≡ None
    past None is = refl
    past (Some g) is = absurd cc

    at : (b : Bool) → is_given h s ≡ b → cond b (Some 0) (option_map suc (frame_for seats h)) ≡ None → (f : ℕ) → home_at (s ∷ seats) f ≡ Some h
        → (frame_for seats h ≡ None → (g : ℕ) → home_at seats g ≡ Some h → ⊥) → ⊥
    at true given is f has rest = absurd cc
    at false given is zero has rest = false≢true (sym given ∙ home_given h s has)
    at false given is (suc g) has rest = rest (past (frame_for seats h) is) g has

abbrev pub FrameCases : Seats → ℕ → Option ℕ → Type 0
FrameCases seats h None = (f : ℕ) → home_at seats f ≡ Some h → ⊥
FrameCases seats h (Some f) = home_at seats f ≡ Some h

-- a home's frame, if it has one
pub frame_cases : (seats : Seats) (h : ℕ) (o : Option ℕ) → frame_for seats h ≡ o → FrameCases seats h o
frame_cases seats h None is = none_has seats h is
frame_cases seats h (Some f) is = frame_has seats h f is

pub frame_is : (seats : Seats) (h f : ℕ) → IsSingle seats → home_at seats f ≡ Some h → frame_for seats h ≡ Some f
frame_is seats h f single has = at (frame_for seats h) refl
  where
    at : (o : Option ℕ) → frame_for seats h ≡ o → o ≡ Some f
    at None is = absurd (none_has seats h is f has)
    at (Some g) is = ap Some (single g f h (frame_has seats h g is) has)

pub frame_none : (seats : Seats) (h : ℕ) → ((f : ℕ) → home_at seats f ≡ Some h → ⊥) → frame_for seats h ≡ None
frame_none seats h none = at (frame_for seats h) refl
  where
    at : (o : Option ℕ) → frame_for seats h ≡ o → o ≡ None
    at None is = refl
    at (Some g) is = absurd (none g (frame_has seats h g is))

-- a frame that is given is one of the frames
pub home_below : (seats : Seats) (f h : ℕ) → home_at seats f ≡ Some h → f < length seats
home_below seats f h has = elim (cases_lt f (length seats)) [
  | inl below ↦ below
  | inr past ↦ let no : None ≡ Some h = sym (ap (option_map (λ t. t.home.0)) (get_or_past seats f None past)) ∙ has in absurd cc
]

pub seat_same : (seats : Seats) (f : ℕ) (s : Option Tenant) → f < length seats → seat (set seats f s) f ≡ s
seat_same seats f s below = get_or-set_same seats f s None below

pub seat_other : (seats : Seats) (f g : ℕ) (s : Option Tenant) → g ≢ f → seat (set seats f s) g ≡ seat seats g
seat_other seats f g s ne = get_or-set_other seats f g s None ne

-- the home of a frame is another one, if any
abbrev pub IsFor : ℕ → Option Tenant → Type 0
IsFor h s = (k : ℕ) → option_map (λ t. t.home.0) s ≡ Some k → k ≡ h

-- a frame is given to a home, or taken from it: other homes keep their frames
pub frame_other : (seats : Seats) (f h k : ℕ) (s : Option Tenant) → IsSingle seats → IsSingle (set seats f s) → f < length seats → IsFor h (seat seats f) → IsFor h s → k ≢ h
    → frame_for (set seats f s) k ≡ frame_for seats k
frame_other seats f h k s single single' below before after ne = at (frame_for seats k) refl
  where
    at : (o : Option ℕ) → frame_for seats k ≡ o → frame_for (set seats f s) k ≡ o
    at None is = frame_none (set seats f s) k (λ g has. elim (cases_eq g f) [
      | inl e ↦ ne (after k (ap (option_map (λ t. t.home.0)) (sym (ap (seat (set seats f s)) e ∙ seat_same seats f s below)) ∙ has))
      | inr other ↦ none_has seats k is g (ap (option_map (λ t. t.home.0)) (sym (seat_other seats f g s other)) ∙ has)
    ])
    at (Some g) is =
        let has = frame_has seats k g is in
        let other : g ≢ f = λ e. ne (before k (ap (home_at seats) (sym e) ∙ has)) in
        frame_is (set seats f s) k g single' (ap (option_map (λ t. t.home.0)) (seat_other seats f g s other) ∙ has)

-- no other frame is given to its home
pub single_set : (seats : Seats) (f : ℕ) (s : Option Tenant) → IsSingle seats → f < length seats
    → ((g h : ℕ) → g ≢ f → option_map (λ t. t.home.0) s ≡ Some h → home_at seats g ≡ Some h → ⊥) → IsSingle (set seats f s)
single_set seats f s single below apart g k h one two = elim (cases_eq g f) [
  | inl e ↦ elim (cases_eq k f) [
    | inl e' ↦ e ∙ sym e'
    | inr other ↦ absurd (apart k h other (own g e one) (there k other two))
  ]
  | inr other ↦ elim (cases_eq k f) [
    | inl e ↦ absurd (apart g h other (own k e two) (there g other one))
    | inr other' ↦ single g k h (there g other one) (there k other' two)
  ]
]
  where
    own : (i : ℕ) → i ≡ f → home_at (set seats f s) i ≡ Some h → option_map (λ t. t.home.0) s ≡ Some h
    own i e has = ap (option_map (λ t. t.home.0)) (sym (ap (seat (set seats f s)) e ∙ seat_same seats f s below)) ∙ has

    there : (i : ℕ) → i ≢ f → home_at (set seats f s) i ≡ Some h → home_at seats i ≡ Some h
    there i other has = ap (option_map (λ t. t.home.0)) (sym (seat_other seats f i s other)) ∙ has

-- a seat keeps its home
pub frame_kept : (seats : Seats) (f k : ℕ) (s : Option Tenant) → IsSingle seats → f < length seats → option_map (λ t. t.home.0) s ≡ home_at seats f → frame_for (set seats f s) k ≡ frame_for seats k
frame_kept seats f k s single below same = at (frame_for seats k) refl
  where
    homes : (g : ℕ) → home_at (set seats f s) g ≡ home_at seats g
    homes g = elim (cases_eq g f) [
      | inl e ↦ ap (option_map (λ t. t.home.0)) (ap (seat (set seats f s)) e ∙ seat_same seats f s below) ∙ same ∙ ap (home_at seats) (sym e)
      | inr other ↦ ap (option_map (λ t. t.home.0)) (seat_other seats f g s other)
    ]

    at : (o : Option ℕ) → frame_for seats k ≡ o → frame_for (set seats f s) k ≡ o
    at None is = frame_none (set seats f s) k (λ g has. none_has seats k is g (sym (homes g) ∙ has))
    at (Some g) is =
        frame_is (set seats f s) k g (λ i j h one two. single i j h (sym (homes i) ∙ one) (sym (homes j) ∙ two)) (homes g ∙ frame_has seats k g is)

-- frames keep their homes
pub frame_alike : (seats seats' : Seats) (k : ℕ) → IsSingle seats → ((g : ℕ) → home_at seats' g ≡ home_at seats g) → frame_for seats' k ≡ frame_for seats k
frame_alike seats seats' k single homes = at (frame_for seats k) refl
  where
    at : (o : Option ℕ) → frame_for seats k ≡ o → frame_for seats' k ≡ o
    at None is = frame_none seats' k (λ g has. none_has seats k is g (sym (homes g) ∙ has))
    at (Some g) is =
        frame_is seats' k g (λ i j h one two. single i j h (sym (homes i) ∙ one) (sym (homes j) ∙ two)) (homes g ∙ frame_has seats k g is)
