use Rattle.std.proofs.Common.{◌≡◌, ℕ, ◌-◌, ◌<◌, ◌≤◌, true, false, length}
use Rattle.page_study.specs.Memories.{is_page}
use Rattle.page_study.specs.Seats.{bucket, is_taken, page_of}
use Rattle.page_study.proofs.latest_pages.LatestPages.seat_of.Given as goal

abbrev pub invariant-loop-at : goal.invariant-loop-at
invariant-loop-at l =
    (l.self.next ≤ l.at)
    × ((p : ℕ) → p < l.at → p < length l.self.seats.items → is_taken l.self.taken p ≡ true → is_page l.page (page_of l.self.seats.items p) ≡ false)
    × (l.at < length l.self.seats.items → bucket (length l.self.heads.items) (page_of l.self.seats.items l.at) ≡ bucket (length l.self.heads.items) l.page)

abbrev pub decreases-loop-at : goal.decreases-loop-at
decreases-loop-at l = length l.self.seats.items - l.at
