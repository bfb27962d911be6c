-- Finite maps from numbers.
use Rattle.std.specs.Prelude.{◌≡◌, ℕ, ◌+◌, ◌≤◌, ◌<◌, List, [], ◌∷◌, Option, None, Some, IsSome, is_some, length, slice_index_or}
use Rattle.std.specs.Ordering.{nat_cmp}
use Rattle.std.specs.FinMap as map
use Rattle.std.specs.FinSet as set
use Rattle.number_set.specs.Numbers.{Numbers}

-- the values that stand in a row of places, each under the number of its place, the first under n
unfoldable pub held : {V : Type 0} → ℕ → List (Option V) → map.FinMap nat_cmp V
held n [] = map.empty
held n (None ∷ places) = held (n + 1) places
held n (Some v ∷ places) = map.insert (held (n + 1) places) n v

-- There is a place for each number below the bound, and the numbers are known whose places hold a value.
pub record AreKept {V : Type 0} (places : List (Option V)) (taken : Numbers) (count : ℕ) : Type 0 where
  pub size : length places ≡ count
  pub bound : taken.bound ≡ count
  pub each : (k : ℕ) → set.contains taken.members k ≡ is_some (slice_index_or places k None)

module _ {V : Type 0} (m : map.FinMap nat_cmp V) (from : ℕ) where
  -- each of these numbers has a value
  abbrev pub AreTaken : ℕ → Type 0
  AreTaken to = (k : ℕ) → from ≤ k → k < to → IsSome (map.get m k)

  -- the least number from one on that has no value
  pub record IsLeastFree (n : ℕ) : Type 0 where
    pub after : from ≤ n
    pub free : map.get m n ≡ None
    pub taken : AreTaken n
