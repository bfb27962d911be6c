-- Frames in an order.
use Rattle.std.specs.Prelude.{◌≡◌, ℕ, zero, suc, ◌<◌, ◌==◌, List, [], ◌∷◌, filter, Bool, true, false, not, nat_eq, ⊤}
use Rattle.std.specs.List.{list_any}

-- some of the frames below a number, in an order
pub record Order : Type 0 where
  pub frames : ℕ
  pub order : List ℕ

-- whether a frame is one of these
abbrev pub stands_in : ℕ → List ℕ → Bool
stands_in f gs = list_any (nat_eq f) gs

-- all of these but one frame
abbrev pub without : ℕ → List ℕ → List ℕ
without f gs = filter (λ g. not (f == g)) gs

-- no frame is there twice
abbrev pub IsOnce : List ℕ → Type 0
IsOnce [] = ⊤
IsOnce (f ∷ fs) = (stands_in f fs ≡ false) × IsOnce fs

-- each frame is there once at most, and is below their number
pub record IsOrder (o : Order) : Type 0 where
  pub once : IsOnce o.order
  pub below : (f : ℕ) → stands_in f o.order ≡ true → f < o.frames

-- as many as there should be: a place, the place behind it, and so on
abbrev pub threaded : (ℕ → ℕ) → ℕ → ℕ → List ℕ
threaded behind zero f = []
threaded behind (suc n) f = f ∷ threaded behind n (behind f)
