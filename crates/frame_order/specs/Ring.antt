-- How two arrays thread an order.
use Rattle.std.specs.Prelude.{◌≡◌, ℕ, ◌+◌, ◌≤◌, List, [], ◌∷◌, length, slice_index}
use Rattle.frame_order.specs.FrameOrder.{Order, IsOrder, threaded}

-- from one place to another, with these between: each place knows the one behind it, which knows it as the one before
unfoldable pub IsThread : (ℕ → ℕ) → (ℕ → ℕ) → ℕ → List ℕ → ℕ → Type 0
IsThread before behind a [] b = (behind a ≡ b) × (before b ≡ a)
IsThread before behind a (x ∷ xs) b = (behind a ≡ x) × (before x ≡ a) × IsThread before behind x xs b

-- the frames from the one behind the end on
abbrev pub ring_order : ℕ → ℕ → List ℕ → List ℕ
ring_order end len behind = threaded (slice_index behind) len (slice_index behind end)

-- the order of a ring
abbrev pub ring_view : ℕ → ℕ → List ℕ → Order
ring_view end len behind = record { frames = end; order = ring_order end len behind }

-- the arrays have a place for each frame and one for the end, and thread an order from the end to the end
pub record IsRing (end len : ℕ) (before behind : List ℕ) : Type 0 where
  pub before_size : length before ≡ end + 1
  pub behind_size : length behind ≡ end + 1
  pub before_inside : (f : ℕ) → slice_index before f ≤ end
  pub behind_inside : (f : ℕ) → slice_index behind f ≤ end
  pub thread : IsThread (slice_index before) (slice_index behind) end (ring_order end len behind) end
  pub order : IsOrder (ring_view end len behind)
