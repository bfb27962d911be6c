-- The seats of pages, and the list of last uses that they mean.
use Rattle.std.specs.Prelude.{◌≡◌, ◌≢◌, ◌⊎◌, ℕ, suc, ◌+◌, ◌*◌, ◌%◌, ◌^◌, ◌<◌, ◌≤◌, Bool, true, false, List, [], ◌∷◌, Option, if◌then◌else◌, length, map, take, slice_index, slice_index_or, MatchOption}
use Rattle.std.specs.List.{remove}
use Rattle.machine_names.specs.declared.names.PageName.{PageName}
use Rattle.sum_tree.specs.Marks.{marks_below}
use Rattle.page_study.specs.Memories.{has, is_page}
use Rattle.page_study.specs.declared.seats.LastUse.{LastUse}
use Rattle.page_study.specs.declared.seats.Seat.{Seat}
use Rattle.page_study.specs.declared.seats.Found.{Found}
use Rattle.page_study.specs.declared.latest_pages.LatestPages.{LatestPages}

abbrev pub no_use : LastUse
no_use = record { page = record { tty = record { 0 = 0 }; serial = 0 }; number = 0 }

abbrev pub seat_at : List Seat → ℕ → Seat
seat_at seats p = slice_index_or seats p (record { last = no_use; behind = 0 })

abbrev pub page_of : List Seat → ℕ → PageName
page_of seats p = (seat_at seats p).last.page

abbrev pub is_taken : List Bool → ℕ → Bool
is_taken taken p = slice_index_or taken p false

-- the last uses that have a seat, in the order of the seats
abbrev pub uses : List Bool → List Seat → List LastUse
uses [] seats = []
uses (t ∷ ts) [] = []
uses (t ∷ ts) (s ∷ ss) = if t then s.last ∷ uses ts ss else uses ts ss

-- THE LIST THAT THE SEATS MEAN
abbrev pub uses_of : LatestPages → List LastUse
uses_of s = uses s.taken s.seats.items

abbrev pub pages_of : List LastUse → List PageName
pages_of us = map (λ (u : LastUse). u.page) us

-- which of so many buckets a page is of
abbrev pub bucket : ℕ → PageName → ℕ
bucket count n = (n.serial % count + 1031 * n.tty.0) % count

-- the first seat of a bucket from one on; the end where there is none
pub record IsNextIn (seats : List Seat) (count h from at : ℕ) : Type 0 where
  pub after : from ≤ at
  pub passed : (p : ℕ) → from ≤ p → p < at → p < length seats → bucket count (page_of seats p) ≢ h
  pub here : at < length seats → bucket count (page_of seats at) ≡ h

-- the seats of each bucket are linked, from the first one that isn't free
pub record IsLinked (s : LatestPages) : Type 0 where
  pub some : 1 ≤ s.room
  pub places : s.room < length s.seats.items
  pub marks : length s.taken ≡ length s.seats.items
  pub buckets : 1 ≤ length s.heads.items
  pub few : length s.heads.items < 2 ^ 32
  pub within : s.next ≤ length s.seats.items
  pub heads : (h : ℕ) → h < length s.heads.items → IsNextIn s.seats.items (length s.heads.items) h s.next (slice_index s.heads.items h)
  pub links : (q : ℕ) → s.next ≤ q → q < length s.seats.items
      → IsNextIn s.seats.items (length s.heads.items) (bucket (length s.heads.items) (page_of s.seats.items q)) (suc q) (seat_at s.seats.items q).behind

pub record IsTidy (s : LatestPages) : Type 0 where
  pub linked : IsLinked s
  pub free : (p : ℕ) → p < s.next → is_taken s.taken p ≡ false

-- a page has no seat
abbrev pub IsNowhere : LatestPages → PageName → Type 0
IsNowhere s n = (p : ℕ) → p < length s.seats.items → is_taken s.taken p ≡ true → is_page n (page_of s.seats.items p) ≡ false

-- a page has this seat
pub record IsSeatOf (s : LatestPages) (n : PageName) (at : ℕ) : Type 0 where
  pub within : at < length s.seats.items
  pub taken : is_taken s.taken at ≡ true
  pub page : is_page n (page_of s.seats.items at) ≡ true

-- a list is the front of another, with so many of it at least
pub record IsCut (room : ℕ) (us cut : List LastUse) : Type 0 where
  pub kept : ℕ
  pub most : room ≤ kept
  pub is : cut ≡ take kept us

-- a page is taken away from a list, where it is there
abbrev pub TakesOut : List LastUse → PageName → List LastUse → Option Found → Type 0
TakesOut us n left found =
    MatchOption found ((has n (pages_of us) ≡ false) × (left ≡ us))
    (λ f. (f.distance < length us) × (slice_index_or us f.distance no_use ≡ record { page = n; number = f.number }) × (left ≡ remove us f.distance))

-- a use more, behind a list of which some of the front is kept
pub record Refers (room : ℕ) (us : List LastUse) (last : LastUse) (new : List LastUse) (found : Option Found) : Type 0 where
  pub cut : List LastUse
  pub is_cut : IsCut room us cut
  pub left : List LastUse
  pub taken_out : TakesOut cut last.page left found
  pub first : new ≡ last ∷ left

-- the pages from a seat on are seated anew
pub record AreMoving (s : LatestPages) (k : ℕ) : Type 0 where
  pub linked : IsLinked s
  pub below : k ≤ s.next
  pub gap : (p : ℕ) → k ≤ p → p < s.next → is_taken s.taken p ≡ false
  pub count : s.next + length (uses_of s) ≡ length s.seats.items + marks_below s.taken k
  pub full : (s.next ≡ length s.seats.items) ⊎ (length (uses_of s) ≤ s.room)
