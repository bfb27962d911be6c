-- Which page may leave its frame, and which goes next.
use Rattle.std.specs.Prelude.{◌≡◌, ℕ, suc, [], ◌∷◌, List, nat_le, Option, None, Some, if◌then◌else◌}
use Rattle.std.specs.Option.{option_map}
use Rattle.frame_table.specs.Seats.{leaving}
use Rattle.drum_queue.specs.declared.transfer.Transfer.{Transfer}
use Rattle.drum_queue.specs.Transfers.{transfer_of}
use Rattle.page_residence.specs.Resident.{Seats, seat, home_at, pins_in}

-- the page of a home may leave its frame
pub record MayLeave (seats : Seats) (queue : List Transfer) (f h : ℕ) : Type 0 where
  pub given : home_at seats f ≡ Some h
  pub unpinned : pins_in (seat seats f) ≡ 0
  pub idle : transfer_of f queue ≡ None

-- the first of the frames from one on with the least age, and this age
abbrev pub earlier : ℕ → Option ℕ → Option (ℕ × ℕ) → Option (ℕ × ℕ)
earlier n None best = best
earlier n (Some age) None = Some (n, age)
earlier n (Some age) (Some best) = if nat_le age best.1 then Some (n, age) else Some best

unfoldable pub least_from : ℕ → Seats → Option (ℕ × ℕ)
least_from n [] = None
least_from n (s ∷ seats) = earlier n (leaving s) (least_from (suc n) seats)

-- the frame whose page goes next
abbrev pub victim_of : Seats → Option ℕ
victim_of seats = option_map (λ best. best.0) (least_from 0 seats)
