-- How transfers stand by frame, beside the order of the frames.
use Rattle.std.specs.Prelude.{◌≡◌, ℕ, List, length, filter_map, Option, None, Some, is_some, slice_index_or}
use Rattle.frame_order.specs.FrameOrder.{Order, IsOrder, stands_in}
use Rattle.drum_queue.specs.declared.transfer.Transfer.{Transfer}
use Rattle.drum_queue.specs.Transfers.{Transfers, frame_of}

-- what stands at the place of a frame
abbrev pub place : List (Option Transfer) → ℕ → Option Transfer
place ts f = slice_index_or ts f None

-- the transfers of these frames
abbrev pub listed : List (Option Transfer) → List ℕ → List Transfer
listed ts fs = filter_map (place ts) fs

-- the transfers in the order of their frames
abbrev pub queue_view : Order → List (Option Transfer) → Transfers
queue_view o ts = record { frames = o.frames; queued = listed ts o.order }

-- each frame has a place, where a transfer stands exactly while the frame is in the order, one of this frame
pub record IsPlaced (o : Order) (ts : List (Option Transfer)) : Type 0 where
  pub size : length ts ≡ o.frames
  pub stands : (f : ℕ) → is_some (place ts f) ≡ stands_in f o.order
  pub own : (f : ℕ) (t : Transfer) → place ts f ≡ Some t → f ≡ frame_of t
  pub order : IsOrder o
