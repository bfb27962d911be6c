-- How the homes that are taken are kept.
use Rattle.std.specs.Prelude.{◌≡◌, ℕ, ◌≤◌, List, Bool, false, not, count_by, length, slice_index_or}
use Rattle.std.specs.FinSet as set
use Rattle.number_set.specs.Numbers.{Numbers}
use Rattle.page_homes.specs.declared.homes.TheConstants.{MOST_HOMES}

-- the homes that are taken are a set of numbers, and it is known how many are free
pub record AreCounted (flags : List Bool) (taken : Numbers) (spare : ℕ) : Type 0 where
  pub few : length flags ≤ MOST_HOMES
  pub bound : taken.bound ≡ length flags
  pub each : (h : ℕ) → set.contains taken.members h ≡ slice_index_or flags h false
  pub count : spare ≡ count_by not flags
