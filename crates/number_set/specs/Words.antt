-- How words keep a set of numbers.
use Rattle.std.specs.Prelude.{◌≡◌, ℕ, zero, suc, ◌+◌, ◌*◌, ◌-◌, ◌/◌, ◌%◌, ◌^◌, ◌≤◌, ◌<◌, ◌==◌, List, length, Bool, slice_index, if◌then◌else◌}
use Rattle.std.specs.Ordering.{nat_cmp}
use Rattle.std.specs.Int.{bit_at}
use Rattle.std.specs.FinSet as set
use Rattle.number_set.specs.Numbers.{Numbers}

-- the numbers below a bound that pass a test
unfoldable pub those_below : (ℕ → Bool) → ℕ → set.FinSet nat_cmp
those_below test zero = set.empty
those_below test (suc n) = if test n then set.insert (those_below test n) n else those_below test n

-- whether the bit of a number is set, 64 bits to a word
abbrev pub has_bit : List ℕ → ℕ → Bool
has_bit words n = bit_at (slice_index words (n / 64)) (n % 64) == 1

-- whether all bits of a word are set
abbrev pub is_full : List ℕ → ℕ → Bool
is_full words w = slice_index words w == 2 ^ 64 - 1

-- the numbers whose bits are set
abbrev pub numbers_of : ℕ → List ℕ → Numbers
numbers_of bound words = record { bound = bound; members = those_below (has_bit words) bound }

-- these are the words that are full, where there are several
pub record AreFull (words : List ℕ) (full : Numbers) : Type 0 where
  pub several : 1 < length words
  pub bound : full.bound ≡ length words
  pub each : (w : ℕ) → set.contains full.members w ≡ is_full words w

-- there are as many words as the numbers below the bound need, which fits a word itself
pub record IsRoom (bound count : ℕ) : Type 0 where
  pub fits : bound < 2 ^ 64
  pub enough : bound ≤ 64 * count
  pub few : 64 * count < bound + 64

-- the first of a word's 64 bits, from one on, that isn't set; the end of the word where each is
pub record IsFirstClear (word from i : ℕ) : Type 0 where
  pub after : from ≤ i
  pub within : i ≤ 64
  pub clear : i < 64 → bit_at word i ≡ 0
  pub passed : (k : ℕ) → from ≤ k → k < i → bit_at word k ≡ 1
