-- Counts, and the sums of each two of them.
use Rattle.std.specs.Prelude.{◌≡◌, ℕ, zero, suc, ◌+◌, ◌*◌, ◌/◌, ◌<◌, List, length, slice_index}

-- so many counts together, from the first on
abbrev pub first_counts : (ℕ → ℕ) → ℕ → ℕ
first_counts f zero = 0
first_counts f (suc m) = first_counts f m + f m

-- the sum of each two neighbours, where there are several counts, stands above them
pub record AreSumsAbove (counts above : List ℕ) : Type 0 where
  pub several : 1 < length counts
  pub size : length above ≡ (length counts + 1) / 2
  pub each : (i : ℕ) → slice_index above i ≡ slice_index counts (2 * i) + slice_index counts (2 * i + 1)
