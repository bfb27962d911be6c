-- Each frame is free, has a page that is shown, or waits for one.
use Rattle.std.proofs.Common.{◌≡◌, ℕ, zero, suc, ◌+◌, ◌<◌, ◌==◌, inl, inr, List, [], ◌∷◌, length, map, count_by, Option, None, Some, is_some, Bool, true, false, cond, ◌&&◌, refl, sym, ◌∙◌, ap, subst, arith, get_or}
use Rattle.std.specs.Prelude.{is_none}
use Rattle.std.specs.List.{list_any}
use Rattle.std.specs.Option.{option_map, option_map_or}
use Rattle.std.proofs.lemmas.Bool.{cases_lt, false≢true, true≢false}
use Rattle.std.proofs.lemmas.Bool.Decides.{eqb_tells}
use Rattle.std.proofs.lemmas.List.{get_or_past}
use Rattle.page_contracts.specs.Stores.{HomePlace, arrives, away, free, here, is_arrival, is_here, moves, place}
use Rattle.page_contracts.specs.Stores as meaning
use Rattle.page_contracts.proofs.Sums.{any_count, count_cons, count_moves, count_places, none_count, one_if, sum_add, sum_has, sum_none, sum_once, sum_swap, sum_to}
use Rattle.frame_table.specs.Core.{Core}
use Rattle.frame_table.specs.declared.tenant.Tenant.{Tenant}
use Rattle.drum_queue.specs.Transfers.{Transfers, transfer_of}
use Rattle.page_residence.specs.Resident.{Seats, frame_for, framed, home_at, meant, placed, places, reads, seat}
use Rattle.page_residence.proofs.Agreeing.{Agrees}
use Rattle.page_residence.proofs.Meant.{arrivals, moving_of, no_arrivals, not_moving}
use Rattle.page_residence.proofs.Placing.{gone_in, place_at, place_taken, places_length, reading_in, shown_in}
use Rattle.page_residence.proofs.Seating.{frame_has, home_below, none_has}

-- how many frames are taken
taken_seats : (seats : Seats) → sum_to (length seats) (λ f. one_if (is_some (home_at seats f))) + count_by is_none seats ≡ length seats
taken_seats [] = refl
taken_seats (s ∷ ss) = (let own = one s in let rest = taken_seats ss in omega (arith, own, rest, count_cons is_none s ss))
  where
    one : (o : Option Tenant) → one_if (is_some (option_map (λ t. t.home.0) o)) + one_if (is_none o) ≡ 1
    one None = refl
    one (Some t) = refl

arrive_so : (h : ℕ) (t : meaning.Transfer) → (is_arrival t && moves h t) ≡ arrives h t
arrive_so h (meaning.arrival other) = refl
arrive_so h (meaning.departure other) = refl

not_shown : (b : Bool) → is_here (placed b away) ≡ false
not_shown true = refl
not_shown false = refl

module _ (c : Core) (q : Transfers) (r : Agrees c q) (flags : List Bool) (marked : (f h : ℕ) → home_at c.seats f ≡ Some h → get_or flags h false ≡ true) where
  abbrev pub shown : List HomePlace
  shown = places flags (framed c.seats c.words q.queued)

  abbrev pub has : ℕ → ℕ → Bool
  has f h = option_map_or (λ k. k == h) (home_at c.seats f) false

  flag_below : (h : ℕ) → get_or flags h false ≡ true → h < length flags
  flag_below h is = elim (cases_lt h (length flags)) [ inl below ↦ below | inr past ↦ absurd (false≢true (sym (get_or_past flags h false past) ∙ is)) ]

  has_it : (f h : ℕ) (o : Option ℕ) → home_at c.seats f ≡ o → option_map_or (λ k. k == h) o false ≡ true → home_at c.seats f ≡ Some h
  has_it f h None is e = absurd (false≢true e)
  has_it f h (Some k) is e = elim (eqb_tells k h) [ inl t ↦ is ∙ ap (λ (n : ℕ). let o : Option ℕ = Some n in o) t.1 | inr t ↦ absurd (false≢true (sym t.0 ∙ e)) ]

  it_has : (f h : ℕ) → home_at c.seats f ≡ Some h → has f h ≡ true
  it_has f h is = ap (λ (o : Option ℕ). option_map_or (λ k. k == h) o false) is ∙ elim (eqb_tells h h) [ inl t ↦ t.0 | inr t ↦ absurd (t.1 refl) ]

  frame_one : (f : ℕ) (o : Option ℕ) → home_at c.seats f ≡ o → sum_to (length flags) (λ h. one_if (has f h)) ≡ one_if (is_some (home_at c.seats f))
  frame_one f None is =
      let none : one_if (is_some (home_at c.seats f)) ≡ 0 = ap (λ (o : Option ℕ). one_if (is_some o)) is in
      sum_none (length flags) (λ h. one_if (has f h)) (λ h below. ap (λ (o : Option ℕ). one_if (option_map_or (λ k. k == h) o false)) is) ∙ sym none
  frame_one f (Some k) is =
      let some : one_if (is_some (home_at c.seats f)) ≡ 1 = ap (λ (o : Option ℕ). one_if (is_some o)) is in
      let least = sum_has (length flags) (λ h. one_if (has f h)) k (flag_below k (marked f k is)) in
      let own : one_if (has f k) ≡ 1 = ap one_if (it_has f k is) in
      let most = sum_once (length flags) 1 (λ h. has f h) (λ i j a b. (let two : Some i ≡ Some j = sym (has_it f i (home_at c.seats f) refl a) ∙ has_it f j (home_at c.seats f) refl b in let e : i ≡ j = cc in e)) in
      omega (arith, some, least, own, most)

  home_one : (h : ℕ) (o : Option ℕ) → frame_for c.seats h ≡ o → sum_to (length c.seats) (λ f. one_if (has f h)) ≡ one_if (is_here (place shown h)) + count_by (arrives h) (map meant q.queued)
  home_one h None is =
      let sum = sum_none (length c.seats) (λ f. one_if (has f h)) (λ f below. at f (has f h) refl) in
      let gone = place_at flags (framed c.seats c.words q.queued) h ∙ ap (placed (get_or flags h false)) (gone_in c.seats c.words q.queued h is) in
      let none : one_if (is_here (place shown h)) ≡ 0 = ap (λ (p : HomePlace). one_if (is_here p)) gone ∙ ap one_if (not_shown (get_or flags h false)) in
      let calm = none_count (arrives h) (map meant q.queued) (no_arrivals c q r h is).any in
      omega (arith, sum, none, calm)
    where
      at : (f : ℕ) (b : Bool) → has f h ≡ b → one_if b ≡ 0
      at f true e = absurd (none_has c.seats h is f (has_it f h (home_at c.seats f) refl e))
      at f false e = refl
  home_one h (Some f) is = by (reads (transfer_of f q.queued)) refl
    where
      given : home_at c.seats f ≡ Some h
      given = frame_has c.seats h f is

      there : place shown h ≡ framed c.seats c.words q.queued h
      there = place_taken flags (framed c.seats c.words q.queued) h (marked f h given)

      by : (b : Bool) → reads (transfer_of f q.queued) ≡ b → sum_to (length c.seats) (λ g. one_if (has g h)) ≡ one_if (is_here (place shown h)) + count_by (arrives h) (map meant q.queued)
      by b reading =
          let least = sum_has (length c.seats) (λ g. one_if (has g h)) f (home_below c.seats f h given) in
          let own : one_if (has f h) ≡ 1 = ap one_if (it_has f h given) in
          let most = sum_once (length c.seats) 1 (λ g. has g h) (λ i j a b. r.single i j h (has_it i h (home_at c.seats i) refl a) (has_it j h (home_at c.seats j) refl b)) in
          let parts = shares b reading in
          omega (arith, least, own, most, parts)
        where
          shares : (b : Bool) → reads (transfer_of f q.queued) ≡ b → one_if (is_here (place shown h)) + count_by (arrives h) (map meant q.queued) ≡ 1
          shares true reading =
              let none : one_if (is_here (place shown h)) ≡ 0 = ap (λ (p : HomePlace). one_if (is_here p)) (there ∙ reading_in c.seats c.words q.queued h f is reading) in
              let one : one_if (list_any (arrives h) (map meant q.queued)) ≡ 1 = ap one_if ((arrivals c q r h f given).any ∙ reading) in
              omega (arith, none, one, any_count (arrives h) (map meant q.queued), (arrivals c q r h f given).few)
          shares false reading =
              let some : one_if (is_here (place shown h)) ≡ 1 = ap (λ (p : HomePlace). one_if (is_here p)) (there ∙ shown_in c.seats c.words q.queued h f is reading) in
              omega (arith, some, none_count (arrives h) (map meant q.queued) ((arrivals c q r h f given).any ∙ reading))

  moved_below : (h : ℕ) → list_any (moves h) (map meant q.queued) ≡ true → h < length flags
  moved_below h some = at (frame_for c.seats h) refl
    where
      at : (o : Option ℕ) → frame_for c.seats h ≡ o → h < length flags
      at None is = absurd (false≢true (sym (not_moving c q r h is).any ∙ some))
      at (Some f) is = flag_below h (marked f h (frame_has c.seats h f is))

  pub frames_shared : count_by is_none c.seats + count_by is_here shown + count_by is_arrival (map meant q.queued) ≡ length c.seats
  frames_shared =
      let n = length flags in
      let queue = map meant q.queued in
      let homes = ap (sum_to n) (λ i h. home_one h (frame_for c.seats h) refl i) in
      let split = sum_add n (λ h. one_if (is_here (place shown h))) (λ h. count_by (arrives h) queue) in
      let turned = sum_swap n (length c.seats) (λ h f. one_if (has f h)) in
      let frames = ap (sum_to (length c.seats)) (λ i f. frame_one f (home_at c.seats f) refl i) in
      let places_count = count_places is_here free shown in
      let long : sum_to (length shown) (λ h. one_if (is_here (place shown h))) ≡ sum_to n (λ h. one_if (is_here (place shown h))) = ap (λ (m : ℕ). sum_to m (λ h. one_if (is_here (place shown h)))) (places_length flags (framed c.seats c.words q.queued)) in
      let comes = count_moves n is_arrival queue moved_below in
      let each : sum_to n (λ h. count_by (λ t. is_arrival t && moves h t) queue) ≡ sum_to n (λ h. count_by (arrives h) queue) = ap (sum_to n) (λ i h. count_by (λ t. arrive_so h t i) queue) in
      omega (arith, homes, split, turned, frames, places_count, long, comes, each, taken_seats c.seats)
