-- Somebody begins to wait, and a transfer may be queued: no more is left to do. And how much is left at most.
use Rattle.std.proofs.Common.{◌≡◌, ◌≢◌, ℕ, ◌+◌, ◌<◌, ◌≤◌, List, [], ◌∷◌, ◌++◌, length, Bool, true, false, not, cond, Option, None, Some, refl, sym, ◌∙◌, ap, subst, arith}
use Rattle.std.specs.Prelude.{◌==◌}
use Rattle.std.proofs.lemmas.Bool.Decides.{nat_tests}
use Rattle.std.proofs.lemmas.List.Sums.{count_by-le-length}
use Rattle.page_homes.specs.declared.homes.Home.{Home}
use Rattle.page_contracts.specs.declared.answers.Need.{Need}
use Rattle.page_contracts.specs.declared.answers.Need.TheVariants.{Page, Frame}
use Rattle.page_contracts.specs.Stores.{HomePlace, is_here, Transfer, arrival, departure, most_held}
use Rattle.page_contracts.specs.declared.store.TheConstants.{CONSOLE_HOLDER}
use Rattle.page_waits.specs.Seats.{has, missing, to_hold}
use Rattle.page_waits.specs.Waits.{awaits}
use Rattle.page_waits.specs.Left.{is_stale, seat_left, is_lone, lone, left}
use Rattle.page_waits.proofs.Sums.{one_if, sum_less, sum_most, any_at}
use Rattle.page_waits.proofs.Missing.{to_hold_most}
use Rattle.page_waits.proofs.Lone.{lone_cons, lone_append, lone_less}

module _ (set : ℕ) (waiting : ℕ → Option Need) where
  -- a page that somebody waits for doesn't come for nobody
  pub lone_awaited : (home seat : ℕ) → seat < set → awaits home (waiting seat) ≡ true → lone set waiting (arrival home ∷ []) ≡ 0
  lone_awaited home seat below is =
      let some = any_at set seat (λ k. awaits home (waiting k)) below is in
      lone_cons set waiting (arrival home) [] ∙ ap (λ b. one_if (not b) + 0) some

  pub lone_departure : (home : ℕ) → lone set waiting (departure home ∷ []) ≡ 0
  lone_departure home = lone_cons set waiting (departure home) []

module _ (set : ℕ) (wanted : ℕ → List ℕ) (waiting waiting' : ℕ → Option Need) (holds : ℕ → List ℕ) (homes : List HomePlace) (queue added : List Transfer) (seat : ℕ) (need : Need)
    (own : waiting' seat ≡ Some need) (others : (k : ℕ) → k ≢ seat → waiting' k ≡ waiting k) (woke : waiting seat ≡ None)
    (fresh : (home : Home) → need ≡ Page home → has home.0 (wanted seat) ≡ true) (nobody : lone set waiting' added ≡ 0) where
  not_stale : (n : Need) → need ≡ n → is_stale (wanted seat) (Some n) ≡ false
  not_stale Frame is = refl
  not_stale (Page home) is = ap not (fresh home is)

  each : (k : ℕ) → seat_left (most_held k) (wanted k) (waiting' k) (holds k) ≤ seat_left (most_held k) (wanted k) (waiting k) (holds k)
  each k = by (k == seat) refl
    where
      by : (b : Bool) → (k == seat) ≡ b → seat_left (most_held k) (wanted k) (waiting' k) (holds k) ≤ seat_left (most_held k) (wanted k) (waiting k) (holds k)
      by true e =
          let same : seat ≡ k = grind (arith, nat_tests, e) in
          subst (λ j. seat_left (most_held j) (wanted j) (waiting' j) (holds j) ≤ seat_left (most_held j) (wanted j) (waiting j) (holds j)) same
          (omega (
            arith,
            ap (λ w. seat_left (most_held seat) (wanted seat) w (holds seat)) own,
            ap (λ w. seat_left (most_held seat) (wanted seat) w (holds seat)) woke,
            ap (λ b. cond b (most_held seat + most_held seat + 1) (to_hold (most_held seat) (length (holds seat)) (missing (wanted seat) (holds seat)))) (not_stale need refl),
          ))
      by false e =
          let apart : k ≢ seat = grind (arith, nat_tests, e) in
          omega (arith, ap (λ w. seat_left (most_held k) (wanted k) w (holds k)) (others k apart))

  waits_on : (h k : ℕ) → awaits h (waiting k) ≡ true → awaits h (waiting' k) ≡ true
  waits_on h k is = by (k == seat) refl
    where
      by : (b : Bool) → (k == seat) ≡ b → awaits h (waiting' k) ≡ true
      by true e =
          let same : k ≡ seat = grind (arith, nat_tests, e) in
          absurd (cc (sym is ∙ ap (λ j. awaits h (waiting j)) same ∙ ap (awaits h) woke))
      by false e =
          let apart : k ≢ seat = grind (arith, nat_tests, e) in
          ap (awaits h) (others k apart) ∙ is

  pub begun_no_more : left set wanted waiting' holds homes (queue ++ added) ≤ left set wanted waiting holds homes queue
  unfolding left
  begun_no_more =
      let sums = sum_less set (λ k. seat_left (most_held k) (wanted k) (waiting' k) (holds k)) (λ k. seat_left (most_held k) (wanted k) (waiting k) (holds k)) (λ k. false) (λ k below. omega (arith, each k)) in
      omega (arith, sums, lone_append set waiting' queue added, nobody, lone_less set waiting waiting' queue waits_on)

-- so much is left at most
pub left_most : (set : ℕ) (wanted : ℕ → List ℕ) (waiting : ℕ → Option Need) (holds : ℕ → List ℕ) (homes : List HomePlace) (queue : List Transfer)
    → set ≤ 64 → length homes ≤ 16384 → length queue ≤ length homes → left set wanted waiting holds homes queue < 4294967296
unfolding left
left_most set wanted waiting holds homes queue few most within =
    omega (
      arith,
      few,
      most,
      within,
      count_by-le-length is_here homes,
      count_by-le-length (is_lone set waiting) queue,
      sum_most set (λ k. seat_left (most_held k) (wanted k) (waiting k) (holds k)) (λ k. one (most_held k) (most_few k) (is_stale (wanted k) (waiting k)) (length (holds k)) (missing (wanted k) (holds k))),
    )
  where
    most_few : (k : ℕ) → most_held k ≤ 128
    most_few k = by (k == CONSOLE_HOLDER)
      where
        by : (b : Bool) → cond b 16 128 ≤ 128
        by true = omega arith
        by false = omega arith

    one : (m : ℕ) → m ≤ 128 → (b : Bool) (c n : ℕ) → cond b (m + m + 1) (to_hold m c n) ≤ 257
    one m low true c n = omega (arith, low)
    one m low false c n = omega (arith, low, to_hold_most m c n)
