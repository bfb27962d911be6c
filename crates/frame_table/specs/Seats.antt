-- How the frames are kept.
use Rattle.std.specs.Prelude.{◌≡◌, ℕ, ◌<◌, ◌^◌, List, length, Option, None, Some, is_none, is_some, count_by, if◌then◌else◌}
use Rattle.std.specs.Ordering.{nat_cmp}
use Rattle.std.specs.FinMap as map
use Rattle.std.specs.FinSet as set
use Rattle.number_set.specs.Numbers.{Numbers}
use Rattle.page_homes.specs.declared.homes.Home.{Home}
use Rattle.page_homes.specs.declared.homes.FrameId.{FrameId}
use Rattle.frame_table.specs.declared.tenant.Tenant.{Tenant}
use Rattle.frame_table.specs.Core.{Core, IsCore, can_go, home_in, seat_of}

-- the frames as they are kept in
abbrev pub core_of : List (Option Tenant) → List (List ℕ) → ℕ → Core
core_of seats words uses = record { seats = seats; words = words; uses = uses }

-- the age of a page that may leave its frame
abbrev pub leaving_age : Tenant → Option ℕ
leaving_age t = if can_go t then Some t.age else None

-- the age of a frame that may give up its page
abbrev pub leaving : Option Tenant → Option ℕ
leaving None = None
leaving (Some t) = leaving_age t

-- It is known which frames are taken, and how many are free;
-- and each home's frame is found by the home's number.
pub record AreKept (c : Core) (taken : Numbers) (homes : map.FinMap nat_cmp FrameId) (vacant : ℕ) : Type 0 where
  pub core : IsCore c
  pub small : length c.seats < 2 ^ 32
  pub bound : taken.bound ≡ length c.seats
  pub occupied : (f : ℕ) → set.contains taken.members f ≡ is_some (seat_of c f)
  pub found : (h : ℕ) (f : FrameId) → map.get homes h ≡ Some f → home_in c f.0 ≡ Some (record { 0 = h })
  pub listed : (f : ℕ) (h : Home) → home_in c f ≡ Some h → map.get homes h.0 ≡ Some (record { 0 = f })
  pub free : vacant ≡ count_by is_none c.seats
