-- What a store keeps beside its frames: the homes that are taken, and what is held for whom.
use Rattle.std.specs.Prelude.{◌≡◌, ◌≢◌, ℕ, ◌≤◌, ◌==◌, List, [], ◌∷◌, length, Bool, true, false, not, ◌&&◌, Option, None, Some, is_some, count_by, slice_index_or}
use Rattle.std.specs.List.{list_any}
use Rattle.page_contracts.specs.declared.store.TheConstants.{CONSOLE_HOLDER, MOST_HOLDERS}
use Rattle.page_contracts.specs.Stores.{members_of, most_held}
use Rattle.page_homes.specs.declared.homes.TheConstants.{MOST_HOMES}
use Rattle.drum_queue.specs.declared.transfer.Transfer.{Transfer}
use Rattle.drum_queue.specs.Transfers.{transfer_of}
use Rattle.paged_store.specs.UntoldNeeds.{Needs}
use Rattle.paged_store.specs.HeldHomes.{held_by}
use Rattle.page_residence.specs.Resident.{Seats, seat, home_at, frame_for, pins_in}

-- whether a home is among those that are held
abbrev pub is_among : ℕ → List ℕ → Bool
is_among h hs = list_any (λ x. x == h) hs

-- whether each is there once
abbrev pub is_distinct : List ℕ → Bool
is_distinct [] = true
is_distinct (h ∷ hs) = not (is_among h hs) && is_distinct hs

-- whether a page has a frame, of which no transfer is queued
abbrev pub still_in : List Transfer → Option ℕ → Bool
still_in queue None = false
still_in queue (Some f) = not (is_some (transfer_of f queue))

unfoldable pub is_still : Seats → List Transfer → ℕ → Bool
is_still seats queue h = still_in queue (frame_for seats h)

-- The homes of frames are taken. What is held is in a frame and stays there; nothing is held twice for one holder, no more than may be for each, and nothing but
-- for members and the console; and a frame has a pin for each holder of its home.
pub record IsKept (seats : Seats) (queue : List Transfer) (flags : List Bool) (holders : List (List ℕ)) (untold : Needs) : Type 0 where
  pub few : length flags ≤ MOST_HOMES
  pub room : length holders ≡ MOST_HOLDERS
  pub homes : untold.homes ≡ length flags
  pub framed : (f h : ℕ) → home_at seats f ≡ Some h → slice_index_or flags h false ≡ true
  pub held : (k h : ℕ) → is_among h (held_by holders k) ≡ true → is_still seats queue h ≡ true
  pub once : (k : ℕ) → is_distinct (held_by holders k) ≡ true
  pub few_held : (k : ℕ) → length (held_by holders k) ≤ most_held k
  pub none_held : (k : ℕ) → members_of (length seats) ≤ k → k ≢ CONSOLE_HOLDER → held_by holders k ≡ []
  pub pinned : (f h : ℕ) → home_at seats f ≡ Some h → pins_in (seat seats f) ≡ count_by (is_among h) holders
