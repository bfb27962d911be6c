-- The frames of core.
use Rattle.std.specs.Prelude.{◌≡◌, ◌≢◌, ℕ, ◌+◌, ◌-◌, ◌^◌, ◌<◌, ◌≤◌, ◌==◌, List, [], length, Option, None, Some, is_some, IsSome, Bool, true, false, min, not, ◌&&◌, slice_index_or, slice_set, if◌then◌else◌}
use Rattle.std.specs.Option.{option_map, option_map_or}
use Rattle.page_homes.specs.declared.homes.Home.{Home}
use Rattle.page_homes.specs.declared.homes.TheConstants.{MOST_HOMES}
use Rattle.frame_table.specs.declared.tenant.Tenant.{Tenant}
use Rattle.frame_table.specs.declared.tenant.TheConstants.{MOST_PINS}

-- the frames by number, each free or taken; the words of each; and the number of the next use
pub record Core : Type 0 where
  pub seats : List (Option Tenant)
  pub words : List (List ℕ)
  pub uses : ℕ

-- what takes a frame; nothing where it is free
abbrev pub seat_of : Core → ℕ → Option Tenant
seat_of c f = slice_index_or c.seats f None

-- the words of a frame
abbrev pub words_of : Core → ℕ → List ℕ
words_of c f = slice_index_or c.words f []

-- the home whose page a frame holds
abbrev pub home_in : Core → ℕ → Option Home
home_in c f = option_map (λ t. t.home) (seat_of c f)

-- no frame holds the page of a home
abbrev pub IsAway : Core → Home → Type 0
IsAway c h = (f : ℕ) → home_in c f ≢ Some h

-- how many holds of a frame are not spent
abbrev pub holds_of : Core → ℕ → ℕ
holds_of c f = option_map_or (λ t. t.holds) (seat_of c f) 0

-- how many pins a frame has
abbrev pub pins_of : Core → ℕ → ℕ
pins_of c f = option_map_or (λ t. t.pins) (seat_of c f) 0

-- whether a hold or a pin keeps a page in its frame
abbrev pub is_kept : Tenant → Bool
is_kept t = not ((t.holds == 0) && (t.pins == 0))

abbrev pub is_held : Core → ℕ → Bool
is_held c f = option_map_or is_kept (seat_of c f) false

-- whether a transfer of a frame is queued
abbrev pub is_moving : Core → ℕ → Bool
is_moving c f = option_map_or (λ t. t.in_transfer) (seat_of c f) false

-- the age of a frame: the number of its last use
abbrev pub age_of : Core → ℕ → ℕ
age_of c f = option_map_or (λ t. t.age) (seat_of c f) 0

-- whether a page may leave its frame: it is neither held nor in transfer
abbrev pub can_go : Tenant → Bool
can_go t = not (is_kept t) && not t.in_transfer

-- whether a frame may give up its page
abbrev pub can_leave : Core → ℕ → Bool
can_leave c f = option_map_or can_go (seat_of c f) false

-- of the frames that may give up their page the one of least age, then least number
pub record IsVictim (c : Core) (f : ℕ) : Type 0 where
  pub leaves : can_leave c f ≡ true
  pub oldest : (g : ℕ) → can_leave c g ≡ true → age_of c f ≤ age_of c g
  pub least : (g : ℕ) → can_leave c g ≡ true → age_of c g ≡ age_of c f → f ≤ g

-- every frame is taken
abbrev pub AreAllTaken : Core → Type 0
AreAllTaken c = (f : ℕ) → f < length c.seats → IsSome (seat_of c f)

-- the free frame of least number
pub record IsLeastFree (c : Core) (f : ℕ) : Type 0 where
  pub below : f < length c.seats
  pub free : seat_of c f ≡ None
  pub taken : (k : ℕ) → k < f → IsSome (seat_of c k)

-- something of what takes a frame is changed
abbrev pub with_tenant : Core → ℕ → (Tenant → Tenant) → Core
with_tenant c f g = record c { seats = slice_set c.seats f (option_map g (seat_of c f)) }

-- a frame has other words
abbrev pub with_words : Core → ℕ → List ℕ → Core
with_words c f ws = record c { words = slice_set c.words f ws }

-- the last number of a use
abbrev pub LAST_USE : ℕ
LAST_USE = 2 ^ 64 - 1

-- the number of the use after one; at their end the numbers stand still
abbrev pub next_use : ℕ → ℕ
next_use n = min (n + 1) LAST_USE

-- a page that has just got a frame
abbrev pub new_tenant : Home → ℕ → Tenant
new_tenant h age = record { home = h; age = age; holds = 0; pins = 0; in_transfer = false }

-- a frame gets the page of a home, which is a use of it; its words stay
abbrev pub with_page : Core → ℕ → Home → Core
with_page c f h = record c { seats = slice_set c.seats f (Some (new_tenant h c.uses)); uses = next_use c.uses }

-- a frame is free
abbrev pub without_page : Core → ℕ → Core
without_page c f = record c { seats = slice_set c.seats f None }

-- a frame that is taken is used
abbrev pub used : Core → ℕ → Core
used c f = if is_some (seat_of c f) then record (with_tenant c f (λ t. record t { age = c.uses })) { uses = next_use c.uses } else c

-- No two frames hold the page of one home; each home is below their number, and no frame has more pins than it may.
-- Before the last number of a use each age is that of an earlier one, and each frame has words.
pub record IsCore (c : Core) : Type 0 where
  pub single : (f g : ℕ) (h : Home) → home_in c f ≡ Some h → home_in c g ≡ Some h → f ≡ g
  pub below : (f : ℕ) (h : Home) → home_in c f ≡ Some h → h.0 < MOST_HOMES
  pub pinned : (f : ℕ) (t : Tenant) → seat_of c f ≡ Some t → t.pins ≤ MOST_PINS
  pub numbered : c.uses ≤ LAST_USE
  pub aged : (f : ℕ) (t : Tenant) → seat_of c f ≡ Some t → c.uses < LAST_USE → t.age < c.uses
  pub worded : length c.words ≡ length c.seats
