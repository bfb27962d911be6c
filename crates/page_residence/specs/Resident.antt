-- Which home's page each frame has, which transfers move it, and where the pages of all homes are.
use Rattle.std.specs.Prelude.{◌≡◌, ◌≤◌, ◌⊎◌, ℕ, suc, ◌<◌, ◌==◌, ◌≢◌, List, [], ◌∷◌, length, map, Bool, true, false, not, ◌&&◌, Option, None, Some, IsSome, is_some, is_none, count_by, if◌then◌else◌, slice_index_or, slice_set}
use Rattle.std.specs.Option.{option_map, option_map_or}
use Rattle.outside.specs.Drums.{IsPage}
use Rattle.page_contracts.specs.declared.answers.Found.{Found}
use Rattle.page_contracts.specs.Stores.{HomePlace, LAST_USE, free, away, here, next_use}
use Rattle.page_contracts.specs.Stores as meaning
use Rattle.frame_table.specs.declared.tenant.Tenant.{Tenant}
use Rattle.frame_table.specs.Core.{Core}
use Rattle.frame_order.specs.FrameOrder.{stands_in}
use Rattle.drum_queue.specs.declared.transfer.Transfer.{Transfer}
use Rattle.drum_queue.specs.declared.transfer.Transfer.TheVariants.{Read, Write}
use Rattle.drum_queue.specs.Transfers.{Transfers, frame_of, transfer_of}

-- what takes each frame; nothing where it is free
abbrev pub Seats : Type 0
Seats = List (Option Tenant)

abbrev pub seat : Seats → ℕ → Option Tenant
seat seats f = slice_index_or seats f None

-- the home whose page a frame is given to
abbrev pub home_at : Seats → ℕ → Option ℕ
home_at seats f = option_map (λ t. t.home.0) (seat seats f)

-- whether a frame is given to the page of a home
abbrev pub is_given : ℕ → Option Tenant → Bool
is_given h s = option_map_or (λ t. h == t.home.0) s false

-- the frame that is given to the page of a home
unfoldable pub frame_for : Seats → ℕ → Option ℕ
frame_for [] h = None
frame_for (s ∷ seats) h = if is_given h s then Some 0 else option_map suc (frame_for seats h)

-- the home of a transfer
abbrev pub home_of : Transfer → ℕ
home_of (Read f h) = h.0
home_of (Write f h) = h.0

-- whether a transfer is there and reads
abbrev pub reads : Option Transfer → Bool
reads None = false
reads (Some (Read f h)) = true
reads (Some (Write f h)) = false

-- a transfer by its home alone
abbrev pub meant : Transfer → meaning.Transfer
meant (Read f h) = meaning.arrival h.0
meant (Write f h) = meaning.departure h.0

-- the words of a frame
abbrev pub page_in : List (List ℕ) → ℕ → List ℕ
page_in words f = slice_index_or words f []

-- where a page is that has this frame, or none: its words are in a frame once they have been read
abbrev pub place_in : List (List ℕ) → List Transfer → Option ℕ → HomePlace
place_in words queue None = away
place_in words queue (Some f) = if reads (transfer_of f queue) then away else here (page_in words f)

-- and the handle of where its words are
abbrev pub found_in : List Transfer → Option ℕ → Option Found
found_in queue None = None
found_in queue (Some f) = if reads (transfer_of f queue) then None else Some (record { 0 = f })

-- where the page of a home is, if it is taken
unfoldable pub framed : Seats → List (List ℕ) → List Transfer → ℕ → HomePlace
framed seats words queue h = place_in words queue (frame_for seats h)

-- the handle of where the words of a home's page are
unfoldable pub found_at : Seats → List Transfer → ℕ → Option Found
found_at seats queue h = found_in queue (frame_for seats h)

-- where pages are, with the homes that are not taken
abbrev pub placed : Bool → HomePlace → HomePlace
placed taken p = if taken then p else free

unfoldable pub places_from : ℕ → List Bool → (ℕ → HomePlace) → List HomePlace
places_from n [] p = []
places_from n (b ∷ flags) p = placed b (p n) ∷ places_from (suc n) flags p

abbrev pub places : List Bool → (ℕ → HomePlace) → List HomePlace
places flags p = places_from 0 flags p

-- whether a transfer of a frame is queued, as its seat has it
abbrev pub is_moving : Option Tenant → Bool
is_moving s = option_map_or (λ t. t.in_transfer) s false

abbrev pub pins_in : Option Tenant → ℕ
pins_in s = option_map_or (λ t. t.pins) s 0

abbrev pub holds_in : Option Tenant → ℕ
holds_in s = option_map_or (λ t. t.holds) s 0

-- the age of what takes a frame: the number of its last use
abbrev pub age_in : Option Tenant → ℕ
age_in s = option_map_or (λ t. t.age) s 0

-- the home whose page a frame has, once its words have been read, and the age of the frame with this page
unfoldable pub tenant_at : Seats → List Transfer → ℕ → Option ℕ
tenant_at seats queue f = if reads (transfer_of f queue) then None else home_at seats f

unfoldable pub age_at : Seats → List Transfer → ℕ → ℕ
age_at seats queue f = if reads (transfer_of f queue) then 0 else age_in (seat seats f)

-- no home has two frames
abbrev pub IsSingle : Seats → Type 0
IsSingle seats = (f g h : ℕ) → home_at seats f ≡ Some h → home_at seats g ≡ Some h → f ≡ g

-- the same as tests
abbrev pub is_bound : Seats → List Transfer → Bool
is_bound seats [] = true
is_bound seats (t ∷ ts) = is_given (home_of t) (seat seats (frame_of t)) && is_bound seats ts

abbrev pub is_once : List ℕ → Bool
is_once [] = true
is_once (f ∷ fs) = not (stands_in f fs) && is_once fs

-- Frames and transfers agree: no home has two frames, and no frame two transfers; a frame is marked exactly while a transfer of it is queued,
-- which is that of its home; nobody holds a frame but by a pin; and the words of a frame are a page but where they are still to be read.
pub record IsResident (c : Core) (q : Transfers) : Type 0 where
  pub sized : q.frames ≡ length c.seats
  pub worded : length c.words ≡ length c.seats
  pub single : IsSingle c.seats
  pub once : is_once (map frame_of q.queued) ≡ true
  pub bound : is_bound c.seats q.queued ≡ true
  pub moving : (f : ℕ) → is_moving (seat c.seats f) ≡ is_some (transfer_of f q.queued)
  pub spent : (f : ℕ) → holds_in (seat c.seats f) ≡ 0
  pub pages : (f h : ℕ) → home_at c.seats f ≡ Some h → reads (transfer_of f q.queued) ≡ false → IsPage (page_in c.words f)

-- No age is that of a use to come: each is the number of an earlier one, until the last.
pub record AreAged (c : Core) : Type 0 where
  pub numbered : c.uses ≤ LAST_USE
  pub each : (f : ℕ) → is_some (seat c.seats f) ≡ true → (age_in (seat c.seats f) ≤ c.uses) × (c.uses < LAST_USE → age_in (seat c.seats f) < c.uses)

-- a frame has the page of a home, whose words are not still to be read
pub record HasWords (seats : Seats) (queue : List Transfer) (f : ℕ) : Type 0 where
  pub home : ℕ
  pub given : home_at seats f ≡ Some home
  pub read : reads (transfer_of f queue) ≡ false

-- each frame keeps its home and its pins
pub record SeatsStay (old new : Seats) : Type 0 where
  pub size : length new ≡ length old
  pub homes : (f : ℕ) → home_at new f ≡ home_at old f
  pub pins : (f : ℕ) → pins_in (seat new f) ≡ pins_in (seat old f)
  pub spare : count_by is_none new ≡ count_by is_none old

-- each frame keeps its age
abbrev pub AgesStay : Seats → Seats → Type 0
AgesStay old new = (f : ℕ) → age_in (seat new f) ≡ age_in (seat old f)

-- a frame that is taken has the number of this use as its age, and the next use has the next number; the others keep their ages
pub record IsRenewed (f : ℕ) (old new : Seats) (uses uses' : ℕ) : Type 0 where
  pub own : is_some (seat new f) ≡ true → (age_in (seat new f) ≡ uses) × (uses' ≡ next_use uses)
  pub none : is_some (seat new f) ≡ false → uses' ≡ uses
  pub grows : uses ≤ uses'
  pub others : (g : ℕ) → g ≢ f → age_in (seat new g) ≡ age_in (seat old g)

-- the free frame of least number is given to the page of a home, and nobody has pinned it
pub record IsGivenTo (h f : ℕ) (old new : Seats) : Type 0 where
  pub below : f < length old
  pub vacant : seat old f ≡ None
  pub least : (g : ℕ) → g < f → IsSome (seat old g)
  pub tenant : Tenant
  pub home : tenant.home.0 ≡ h
  pub unpinned : tenant.pins ≡ 0
  pub seats : new ≡ slice_set old f (Some tenant)

-- a frame is made free
pub record IsTakenFrom (h f : ℕ) (old new : Seats) : Type 0 where
  pub had : home_at old f ≡ Some h
  pub seats : new ≡ slice_set old f None

-- the pins of one frame alone change
pub record IsRepinned (f pins : ℕ) (old new : Seats) : Type 0 where
  pub size : length new ≡ length old
  pub homes : (g : ℕ) → home_at new g ≡ home_at old g
  pub others : (g : ℕ) → g ≢ f → pins_in (seat new g) ≡ pins_in (seat old g)
  pub own : pins_in (seat new f) ≡ pins
  pub spare : count_by is_none new ≡ count_by is_none old
  pub ages : AgesStay old new
