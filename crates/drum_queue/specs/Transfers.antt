-- Transfers between frames and the drum.
use Rattle.std.specs.Prelude.{ℕ, ◌==◌, List, filter, map, Option, None, Some, Bool, true, false, not}
use Rattle.std.specs.List.{find}
use Rattle.frame_order.specs.FrameOrder.{IsOrder}
use Rattle.drum_queue.specs.declared.transfer.Transfer.{Transfer}
use Rattle.drum_queue.specs.declared.transfer.Transfer.TheVariants.{Read, Write}

-- what is queued: the number that all frames are below, and the transfers, the oldest first
pub record Transfers : Type 0 where
  pub frames : ℕ
  pub queued : List Transfer

-- the frame that a transfer is of
abbrev pub frame_of : Transfer → ℕ
frame_of (Read f h) = f.0
frame_of (Write f h) = f.0

-- whether a transfer writes a page, and does not read one
abbrev pub is_write : Transfer → Bool
is_write (Read f h) = false
is_write (Write f h) = true

-- whether a transfer is of a frame
abbrev pub is_of : ℕ → Transfer → Bool
is_of f t = f == frame_of t

-- the transfer of a frame, if one is queued
abbrev pub transfer_of : ℕ → List Transfer → Option Transfer
transfer_of f ts = find (is_of f) ts

-- whether a transfer is there and writes
abbrev pub writes : Option Transfer → Bool
writes None = false
writes (Some t) = is_write t

-- all of these but those of one frame
abbrev pub without : ℕ → List Transfer → List Transfer
without f ts = filter (λ t. not (is_of f t)) ts

-- a frame has one transfer at most, and is below their number
abbrev pub IsSingle : Transfers → Type 0
IsSingle q = IsOrder (record { frames = q.frames; order = map frame_of q.queued })
