-- A transfer ends: less is left to do.
use Rattle.std.proofs.Common.{◌≡◌, ◌≢◌, ℕ, ◌+◌, ◌*◌, ◌<◌, ◌≤◌, List, ◌∷◌, length, Bool, true, false, not, ◌&&◌, cond, Option, None, Some, refl, sym, ◌∙◌, ap, subst, arith, length-set}
use Rattle.std.specs.Prelude.{◌==◌, count_by, slice_set, nat_lt}
use Rattle.std.specs.List.{list_any}
use Rattle.std.proofs.lemmas.Bool.Decides.{nat_tests}
use Rattle.std.proofs.lemmas.List.{get_or_past}
use Rattle.std.proofs.lemmas.List.Sums.{sum_by-set}
use Rattle.page_homes.specs.declared.homes.Home.{Home}
use Rattle.page_contracts.specs.declared.answers.Need.{Need}
use Rattle.page_contracts.specs.declared.answers.Need.TheVariants.{Page, Frame}
use Rattle.page_contracts.specs.Stores.{HomePlace, free, place, is_here, Transfer, arrival, departure, home_of, need_of, is_arrival, moves, most_held}
use Rattle.page_waits.specs.Seats.{has, missing, to_hold, any_below}
use Rattle.page_waits.specs.Holding.{held_more}
use Rattle.page_waits.specs.Waits.{woken, awaits}
use Rattle.page_waits.specs.Left.{seat_left, is_lone, lone, left}
use Rattle.page_waits.proofs.Sums.{one_if, sum_less}
use Rattle.page_waits.proofs.Seat.{seat_less}
use Rattle.page_waits.proofs.Lone.{lone_cons, lone_same, awaits_woken}

-- a page in a frame has a home
pub here_below : (homes : List HomePlace) (h : ℕ) → is_here (place homes h) ≡ true → h < length homes
here_below homes h is = by (nat_lt h (length homes)) refl
  where
    by : (b : Bool) → nat_lt h (length homes) ≡ b → h < length homes
    by true e = grind (arith, nat_tests, e)
    by false e =
        let past : length homes ≤ h = grind (arith, nat_tests, e) in
        absurd (cc (sym is ∙ ap is_here (get_or_past homes h free past)))

module _ (most home : ℕ) (wanted held : List ℕ) (away : has home held ≡ false) (few : length wanted < most) (low : length held ≤ most) where
  -- a seat as a page comes
  pub seat_came : (w : Option Need) → seat_left most wanted (woken (Page (record { 0 = home })) w) (cond (awaits home w) (held_more most home held) held) + one_if (awaits home w) ≤ seat_left most wanted w held
  seat_came None = omega arith
  seat_came (Some Frame) = omega arith
  seat_came (Some (Page x)) = by (home == x.0) refl
    where
      by : (b : Bool) → (home == x.0) ≡ b
          → seat_left most wanted (cond b None (Some (Page x))) (cond b (held_more most home held) held) + one_if b ≤ seat_left most wanted (Some (Page x)) held
      by true e =
          let same : home ≡ x.0 = grind (arith, nat_tests, e) in
          subst (λ h. to_hold most (length (held_more most home held)) (missing wanted (held_more most home held)) + 1 ≤ cond (not (has h wanted)) (most + most + 1) (to_hold most (length held) (missing wanted held))) same (seat_less most home wanted held away few low)
      by false e = omega arith

-- a seat as a page has left
pub seat_left_by : (most : ℕ) (wanted held : List ℕ) (w : Option Need) → seat_left most wanted (woken Frame w) held ≤ seat_left most wanted w held
seat_left_by most wanted held None = omega arith
seat_left_by most wanted held (Some Frame) = omega arith
seat_left_by most wanted held (Some (Page x)) = omega arith

module _ (set : ℕ) (wanted : ℕ → List ℕ) (waiting waiting' : ℕ → Option Need) (holds holds' : ℕ → List ℕ) (homes homes' : List HomePlace) (t : Transfer) (q : List Transfer)
    (here : is_here (place homes' (home_of t)) ≡ is_arrival t) (homes_are : homes' ≡ slice_set homes (home_of t) (place homes' (home_of t))) (was : is_here (place homes (home_of t)) ≡ not (is_arrival t))
    (alone : list_any (moves (home_of t)) q ≡ false) (wakes : (k : ℕ) → waiting' k ≡ woken (need_of t) (waiting k))
    (held : (k : ℕ) → k < set → holds' k ≡ cond (is_arrival t && awaits (home_of t) (waiting k)) (held_more (most_held k) (home_of t) (holds k)) (holds k))
    (away : is_arrival t ≡ true → (k : ℕ) → has (home_of t) (holds k) ≡ false) (low : (k : ℕ) → length (holds k) ≤ most_held k) (few : (k : ℕ) → length (wanted k) < most_held k) where
  -- as many pages are in frames, but for the one
  frames : count_by is_here homes' + one_if (not (is_arrival t)) ≡ count_by is_here homes + one_if (is_arrival t)
  frames =
      let below : home_of t < length homes = either_way (is_arrival t) refl in
      let counted : count_by is_here (slice_set homes (home_of t) (place homes' (home_of t))) + one_if (is_here (place homes (home_of t))) ≡ count_by is_here homes + one_if (is_here (place homes' (home_of t))) =
      sum_by-set (λ p. cond (is_here p) 1 0) homes (home_of t) (place homes' (home_of t)) free below in
      omega (arith, counted, ap (λ (ps : List HomePlace). count_by is_here ps) homes_are, ap one_if here, ap one_if was)
    where
      either_way : (b : Bool) → is_arrival t ≡ b → home_of t < length homes
      either_way true e =
          let there = here_below homes' (home_of t) (here ∙ e) in
          omega (arith, there, ap length homes_are, length-set homes (home_of t) (place homes' (home_of t)))
      either_way false e = here_below homes (home_of t) (was ∙ ap not e)

  -- each seat
  seat : (k : ℕ) → k < set → seat_left (most_held k) (wanted k) (waiting' k) (holds' k) + one_if (is_arrival t && awaits (home_of t) (waiting k)) ≤ seat_left (most_held k) (wanted k) (waiting k) (holds k)
  seat k below =
      subst (λ w. seat_left (most_held k) (wanted k) w (holds' k) + one_if (is_arrival t && awaits (home_of t) (waiting k)) ≤ seat_left (most_held k) (wanted k) (waiting k) (holds k)) (sym (wakes k))
      (subst (λ hs. seat_left (most_held k) (wanted k) (woken (need_of t) (waiting k)) hs + one_if (is_arrival t && awaits (home_of t) (waiting k)) ≤ seat_left (most_held k) (wanted k) (waiting k) (holds k)) (sym (held k below)) (by t away))
    where
      by : (u : Transfer) → (is_arrival u ≡ true → (k : ℕ) → has (home_of u) (holds k) ≡ false)
          → seat_left (most_held k) (wanted k) (woken (need_of u) (waiting k)) (cond (is_arrival u && awaits (home_of u) (waiting k)) (held_more (most_held k) (home_of u) (holds k)) (holds k)) + one_if (is_arrival u && awaits (home_of u) (waiting k)) ≤ seat_left (most_held k) (wanted k) (waiting k) (holds k)
      by (arrival h) none = seat_came (most_held k) h (wanted k) (holds k) (none refl k) (few k) (low k) (waiting k)
      by (departure h) none = omega (arith, seat_left_by (most_held k) (wanted k) (holds k) (waiting k))

  rest : lone set waiting' q ≡ lone set waiting q
  rest = lone_same set waiting waiting' q (home_of t) alone (λ h k apart. ap (awaits h) (wakes k) ∙ awaits_woken (need_of t) h (waiting k) (other t apart))
    where
      number : Need → ℕ
      number (Page home) = home.0
      number Frame = 0

      other : (u : Transfer) {h : ℕ} → h ≢ home_of u → (home : Home) → need_of u ≡ Page home → h ≢ home.0
      other (arrival x) apart home e = λ same. apart (same ∙ sym (ap number e))
      other (departure x) apart home e = absurd (cc e)

  pub ended_less : left set wanted waiting' holds' homes' q + 1 ≤ left set wanted waiting holds homes (t ∷ q)
  unfolding left
  ended_less =
      let sums = sum_less set (λ k. seat_left (most_held k) (wanted k) (waiting' k) (holds' k)) (λ k. seat_left (most_held k) (wanted k) (waiting k) (holds k)) (λ k. is_arrival t && awaits (home_of t) (waiting k)) seat in
      omega (arith, frames, sums, rest, lone_cons set waiting t q, both t)
    where
      both : (u : Transfer) → one_if (is_arrival u) + 1 ≤ one_if (not (is_arrival u)) + 2 * one_if (any_below set (λ k. is_arrival u && awaits (home_of u) (waiting k))) + 2 * one_if (is_lone set waiting u)
      both (arrival h) = omega (arith, whether (any_below set (λ k. awaits h (waiting k))))
        where
          whether : (b : Bool) → 2 ≤ 2 * one_if b + 2 * one_if (not b)
          whether true = omega arith
          whether false = omega arith
      both (departure h) = omega arith
