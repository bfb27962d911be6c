-- Which of the frames goes next.
use Rattle.std.specs.Prelude.{◌≡◌, ℕ, ◌<◌, ◌≤◌, List, length, Option, None, Some, nat_le, if◌then◌else◌, slice_index_or}
use Rattle.page_homes.specs.declared.homes.FrameId.{FrameId}
use Rattle.frame_table.specs.declared.tenant.Tenant.{Tenant}
use Rattle.frame_table.specs.Seats.{leaving}

-- the older of a frame with its age, and of another; of equals the first
abbrev pub older : Option (ℕ × ℕ) → ℕ → Option ℕ → Option (ℕ × ℕ)
older one f None = one
older None f (Some age) = Some (f, age)
older (Some one) f (Some age) = if nat_le one.1 age then Some one else Some (f, age)

-- of the frames below a number that may give up their page one has the least age, and is the first that has it
pub record HasLeastBelow (seats : List (Option Tenant)) (n f age : ℕ) : Type 0 where
  pub below : f < n
  pub has : leaving (slice_index_or seats f None) ≡ Some age
  pub oldest : (g a : ℕ) → g < n → leaving (slice_index_or seats g None) ≡ Some a → age ≤ a
  pub first : (g : ℕ) → g < n → leaving (slice_index_or seats g None) ≡ Some age → f ≤ g

abbrev pub IsOldestBelow : List (Option Tenant) → ℕ → Option (ℕ × ℕ) → Type 0
IsOldestBelow seats n None = (g : ℕ) → g < n → leaving (slice_index_or seats g None) ≡ None
IsOldestBelow seats n (Some one) = HasLeastBelow seats n one.0 one.1

-- of all frames it is the oldest that may give up its page; where there is none, no frame may
abbrev pub GoesFirst : List (Option Tenant) → Option FrameId → Type 0
GoesFirst seats None = (g : ℕ) → g < length seats → leaving (slice_index_or seats g None) ≡ None
GoesFirst seats (Some f) = (age : ℕ) × HasLeastBelow seats (length seats) f.0 age
