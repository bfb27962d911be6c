-- HOW MUCH IS LEFT TO BE TRANSFERRED until a unit can be done, while the plain state stays.
use Rattle.std.specs.Prelude.{ℕ, ◌+◌, ◌*◌, List, length, Bool, false, not, ◌&&◌, if◌then◌else◌, Option, None, Some, count_by}
use Rattle.page_contracts.specs.declared.answers.Need.{Need}
use Rattle.page_contracts.specs.declared.answers.Need.TheVariants.{Page, Frame}
use Rattle.page_contracts.specs.Stores.{HomePlace, is_here, Transfer, is_arrival, home_of, most_held}
use Rattle.page_waits.specs.Seats.{has, missing, to_hold, sum_below, any_below}
use Rattle.page_waits.specs.Waits.{awaits}

-- whether a seat waits for a page that it doesn't want any more
abbrev pub is_stale : List ℕ → Option Need → Bool
is_stale wanted None = false
is_stale wanted (Some Frame) = false
is_stale wanted (Some (Page home)) = not (has home.0 wanted)

-- how often a page may still come for a seat
abbrev pub seat_left : ℕ → List ℕ → Option Need → List ℕ → ℕ
seat_left most wanted waits held = if is_stale wanted waits then most + most + 1 else to_hold most (length held) (missing wanted held)

-- whether a page comes for which no seat waits
abbrev pub is_lone : ℕ → (ℕ → Option Need) → Transfer → Bool
is_lone set waiting t = is_arrival t && not (any_below set (λ k. awaits (home_of t) (waiting k)))

-- how many pages come for which no seat waits
abbrev pub lone : ℕ → (ℕ → Option Need) → List Transfer → ℕ
lone set waiting queue = count_by (is_lone set waiting) queue

-- Each transfer that ends makes this less: a page that leaves its frame counts one; a page that comes counts two, for nobody or for each seat that waits
-- for it, and then one in its frame.
unfoldable pub left : ℕ → (ℕ → List ℕ) → (ℕ → Option Need) → (ℕ → List ℕ) → List HomePlace → List Transfer → ℕ
left set wanted waiting holds homes queue =
    count_by is_here homes + 2 * sum_below set (λ k. seat_left (most_held k) (wanted k) (waiting k) (holds k)) + 2 * lone set waiting queue
