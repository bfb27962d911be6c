-- What one step of a store leaves as it was.
use Rattle.std.specs.Prelude.{◌≡◌, ℕ, ◌==◌, ◌∷◌, ◌++◌, List, [], filter, length, not, count_by, is_none, Option, None, Some, slice_set}
use Rattle.std.specs.Option.{option_map_or}
use Rattle.page_contracts.specs.Stores as meaning
use Rattle.drum_queue.specs.Transfers.{transfer_of}
use Rattle.paged_store.specs.declared.store.PagedStore.{PagedStore}
use Rattle.paged_store.specs.HeldHomes.{held_by}
use Rattle.page_residence.specs.Resident.{Seats, AgesStay, home_at, reads}

-- each frame keeps its home
pub record SeatsRest (old new : Seats) : Type 0 where
  pub size : length new ≡ length old
  pub homes : (f : ℕ) → home_at new f ≡ home_at old f
  pub spare : count_by is_none new ≡ count_by is_none old

-- no page comes into a frame or leaves one, and no word changes
pub record IsInPlace (old new : PagedStore) : Type 0 where
  pub seats : SeatsRest old.core.frames.seats new.core.frames.seats
  pub words : new.core.frames.words ≡ old.core.frames.words
  pub reads_stay : (f : ℕ) → reads (transfer_of f new.core.queue.queued) ≡ reads (transfer_of f old.core.queue.queued)
  pub homes : new.homes ≡ old.homes

-- nor is a page used
pub record IsAtRest (old new : PagedStore) : Type 0 where
  pub seats : SeatsRest old.core.frames.seats new.core.frames.seats
  pub ages : AgesStay old.core.frames.seats new.core.frames.seats
  pub uses : new.core.frames.uses ≡ old.core.frames.uses
  pub words : new.core.frames.words ≡ old.core.frames.words
  pub reads_stay : (f : ℕ) → reads (transfer_of f new.core.queue.queued) ≡ reads (transfer_of f old.core.queue.queued)
  pub homes : new.homes ≡ old.homes

-- the departure of a frame's page
abbrev pub departing : Seats → Option ℕ → List meaning.Transfer
departing seats None = []
departing seats (Some f) = option_map_or (λ home. meaning.departure home ∷ []) (home_at seats f) []

-- the last home that was held for a holder isn't any more
pub record HasReleased (holder : ℕ) (old new : List (List ℕ)) : Type 0 where
  pub home : ℕ
  pub rest : List ℕ
  pub was : held_by old holder ≡ rest ++ home ∷ []
  pub is : new ≡ slice_set old holder rest

-- all of these homes but one
abbrev pub all_but : ℕ → List ℕ → List ℕ
all_but h hs = filter (λ x. not (x == h)) hs
