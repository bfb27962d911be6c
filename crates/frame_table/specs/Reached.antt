-- What is known of the ages of frames.
use Rattle.std.specs.Prelude.{◌≡◌, ℕ, List, length, Option, None, true, slice_index_or}
use Rattle.tournament.specs.Keys.{goes_first, key_of}
use Rattle.frame_table.specs.declared.tenant.Tenant.{Tenant}
use Rattle.frame_table.specs.Seats.{leaving}

-- if a frame may give up its page, an age is known of it, and it is as old or used since
abbrev pub HasReached : List (Option ℕ) → List (Option Tenant) → ℕ → Type 0
HasReached keys seats f = goes_first (key_of keys f) (leaving (slice_index_or seats f None)) ≡ true

-- so it is of each frame
pub record AreReached (keys : List (Option ℕ)) (seats : List (Option Tenant)) : Type 0 where
  pub size : length keys ≡ length seats
  pub each : (f : ℕ) → HasReached keys seats f
