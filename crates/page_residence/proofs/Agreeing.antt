-- How frames and transfers agree, transfer by transfer.
use Rattle.std.proofs.Common.{refl, not, ◌≡◌, ℕ, List, [], ◌∷◌, length, map, true, false, is_some, Some}
use Rattle.std.proofs.lemmas.Bool.{and_parts, and_from, not-true, not_from_false}
use Rattle.outside.specs.Drums.{IsPage}
use Rattle.frame_table.specs.Core.{Core}
use Rattle.frame_order.specs.FrameOrder.{IsOnce, stands_in}
use Rattle.drum_queue.specs.declared.transfer.Transfer.{Transfer}
use Rattle.drum_queue.specs.Transfers.{Transfers, frame_of, transfer_of}
use Rattle.page_residence.specs.Resident.{Seats, seat, home_at, home_of, reads, page_in, is_moving, holds_in, IsSingle, is_bound, is_once, is_given, IsResident}
use Rattle.page_residence.proofs.Seating.{given_home, home_given}

-- each transfer is of a frame and the home that it is given to
abbrev pub AreBound : Seats → List Transfer → Type 0
AreBound seats [] = Unit {0}
AreBound seats (t ∷ ts) = (home_at seats (frame_of t) ≡ Some (home_of t)) × AreBound seats ts

pub record Agrees (c : Core) (q : Transfers) : Type 0 where
  pub sized : q.frames ≡ length c.seats
  pub worded : length c.words ≡ length c.seats
  pub single : IsSingle c.seats
  pub once : IsOnce (map frame_of q.queued)
  pub bound : AreBound c.seats q.queued
  pub moving : (f : ℕ) → is_moving (seat c.seats f) ≡ is_some (transfer_of f q.queued)
  pub spent : (f : ℕ) → holds_in (seat c.seats f) ≡ 0
  pub pages : (f h : ℕ) → home_at c.seats f ≡ Some h → reads (transfer_of f q.queued) ≡ false → IsPage (page_in c.words f)

-- between the tests and these
bound_agrees : (seats : Seats) (q : List Transfer) → is_bound seats q ≡ true → AreBound seats q
bound_agrees seats [] is = tt
bound_agrees seats (t ∷ ts) is =
    let both = and_parts (is_given (home_of t) (seat seats (frame_of t))) (is_bound seats ts) is in
    (given_home (home_of t) (seat seats (frame_of t)) both.0, bound_agrees seats ts both.1)

agrees_bound : (seats : Seats) (q : List Transfer) → AreBound seats q → is_bound seats q ≡ true
agrees_bound seats [] is = refl
agrees_bound seats (t ∷ ts) is =
    and_from (is_given (home_of t) (seat seats (frame_of t))) (is_bound seats ts) (home_given (home_of t) (seat seats (frame_of t)) is.0) (agrees_bound seats ts is.1)

once_agrees : (fs : List ℕ) → is_once fs ≡ true → IsOnce fs
once_agrees [] is = tt
once_agrees (f ∷ fs) is =
    let both = and_parts (not (stands_in f fs)) (is_once fs) is in
    (not-true (stands_in f fs) both.0, once_agrees fs both.1)

agrees_once : (fs : List ℕ) → IsOnce fs → is_once fs ≡ true
agrees_once [] is = refl
agrees_once (f ∷ fs) is = and_from (not (stands_in f fs)) (is_once fs) (not_from_false (stands_in f fs) is.0) (agrees_once fs is.1)

pub agrees : (c : Core) (q : Transfers) → IsResident c q → Agrees c q
agrees c q r = record {
  sized = r.sized;
  worded = r.worded;
  single = r.single;
  once = once_agrees (map frame_of q.queued) r.once;
  bound = bound_agrees c.seats q.queued r.bound;
  moving = r.moving;
  spent = r.spent;
  pages = r.pages;
}

pub resides : (c : Core) (q : Transfers) → Agrees c q → IsResident c q
resides c q r = record {
  sized = r.sized;
  worded = r.worded;
  single = r.single;
  once = agrees_once (map frame_of q.queued) r.once;
  bound = agrees_bound c.seats q.queued r.bound;
  moving = r.moving;
  spent = r.spent;
  pages = r.pages;
}
