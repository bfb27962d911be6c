use Rattle.std.proofs.Common.{◌≡◌, length}
use Rattle.page_study.specs.Seats.{AreMoving, IsCut, uses_of}
use Rattle.page_study.proofs.latest_pages.LatestPages.seat_anew.Given as goal

abbrev pub invariant-loop-at : goal.invariant-loop-at
invariant-loop-at l = record {
  moving : AreMoving l.self l.at;
  cut : IsCut l.fn.self.room (uses_of l.fn.self) (uses_of l.self);
  room : l.self.room ≡ l.fn.self.room;
  seats : length l.self.seats.items ≡ l.end;
}
