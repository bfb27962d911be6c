-- Members by their numbers, and the schedule at the beginning.
use Rattle.std.proofs.Common.{◌≡◌, ◌≢◌, ℕ, zero, suc, ◌+◌, ◌*◌, ◌<◌, ◌≤◌, ◌==◌, inl, inr, List, [], ◌∷◌, ◌++◌, length, map, true, None, Some, slice_get, slice_index, slice_index_or, replicate, refl, sym, ◌∙◌, ap, subst, arith}
use Rattle.std.specs.List.{find}
use Rattle.std.proofs.lemmas.Bool.{cases_eq}
use Rattle.std.proofs.lemmas.List.{length-replicate}
use Rattle.machine_names.specs.declared.names.TheConstants.{QUANTUM, TERMINALS, LAST_SERIAL}
use Rattle.frame_order.specs.FrameOrder.{Order, IsOnce, stands_in}
use Rattle.frame_order.proofs.Changes.{same_test, other_test}
use Rattle.frame_order.proofs.Orders.{not_true, stands_first, stands_behind, first_or_behind}
use Rattle.job_sched.specs.declared.member.Waiter.{Waiter}
use Rattle.job_sched.specs.Rows.{Rows, IsRows, row, up_to}
use Rattle.job_sched.specs.Schedules.{Schedule, empty, member_of, members, has_seat, seats_of, size, waits_in}
use Rattle.job_sched.specs.Units.{IsTimed}
use Rattle.job_sched.specs.Places.{spot, all_places, schedule_of, IsSeated, IsKept}
use Rattle.job_sched.proofs.Leaving.{once_both}
use Rattle.job_sched.proofs.Moves.{first_of}
use Rattle.job_sched.proofs.RowChanges.{length-up, stands_up, up_once, zeros}
use Rattle.job_sched.proofs.Looks.{find_none, find_own, in_members, in_rows, members_at}

-- the first of those that are ready
pub head_of : (r : Rows) (spots : List Waiter) (spare : List ℕ) (used : ℕ) (s : Schedule) (p : ℕ) → schedule_of r spots spare used ≡ s → slice_get (row r 2) 0 ≡ Some p
    → slice_get s.ready 0 ≡ Some (member_of (spot spots p))
head_of r spots spare used s p view first =
    let at = first_of (row r 2) p first in
    ap (λ (t : Schedule). slice_get t.ready 0) (sym view) ∙ ap (λ (ys : List ℕ). slice_get (map (λ q. member_of (spot spots q)) ys) 0) at.1

pub length-places : {A : Type 0} (g : ℕ → A) (xs : List ℕ) → length (map g xs) ≡ length xs
length-places g [] = refl
length-places g (x ∷ xs) = ap suc (length-places g xs)

module _ (r : Rows) (numbers : Order) (spots : List Waiter) (places seats : List ℕ) (used : ℕ) (kept : IsKept r numbers spots places seats used) (k p : ℕ) where
  pub size_is : (s : Schedule) → schedule_of r spots numbers.order used ≡ s → size s ≡ numbers.frames
  size_is s view =
      let ready = length-places (λ q. member_of (spot spots q)) (row r 2) in
      let waiting = length-places (spot spots) (row r 3) in
      let full = kept.full in
      ap size (sym view) ∙ omega arith

  tells_seat : (spot spots p).seat ≡ k → IsSeated numbers spots seats p → (q : ℕ) → IsSeated numbers spots seats q → (k == (spot spots q).seat) ≡ (p == q)
  tells_seat is mine q its = elim (cases_eq p q) [
    | inl same ↦ same_test k (spot spots q).seat (sym is ∙ ap (λ (i : ℕ). (spot spots i).seat) same) ∙ sym (same_test p q same)
    | inr other ↦
        other_test k (spot spots q).seat (λ e. other (sym mine.leads ∙ ap (slice_index seats) (is ∙ e) ∙ its.leads)) ∙ sym (other_test p q other)
  ]

  member_seated : (q : ℕ) → stands_in q (row r 2 ++ row r 3) ≡ true → IsSeated numbers spots seats q
  member_seated q at = elim (in_rows q (row r 2) (row r 3) at) [
    | inl ready ↦ kept.seated 2 q (omega arith) ready
    | inr waiting ↦ kept.seated 3 q (omega arith) waiting
  ]

  pub seat_found : (j : ℕ) → 2 ≤ j → j < 4 → stands_in p (row r j) ≡ true → (spot spots p).seat ≡ k
      → find (has_seat k) (members (schedule_of r spots numbers.order used)) ≡ Some (member_of (spot spots p))
  seat_found j low high here is =
      ap (find (has_seat k)) (members_at r spots numbers.order used)
      ∙ find_own (λ q. member_of (spot spots q)) (has_seat k) p (row r 2 ++ row r 3)
      (λ q at. tells_seat is (kept.seated j p low here) q (member_seated q at)) (in_members p j r low high here)

  pub seat_none : slice_index seats k ≡ p → (stands_in p (row r 2 ++ row r 3) ≡ true → (spot spots p).seat ≢ k)
      → find (has_seat k) (members (schedule_of r spots numbers.order used)) ≡ None
  seat_none leads none =
      ap (find (has_seat k)) (members_at r spots numbers.order used)
      ∙ find_none (λ q. member_of (spot spots q)) (has_seat k) (row r 2 ++ row r 3)
      (λ q at. other_test k (spot spots q).seat (λ e.
      let same : p ≡ q = sym leads ∙ ap (slice_index seats) e ∙ (member_seated q at).leads in
      none (subst (λ (i : ℕ). stands_in i (row r 2 ++ row r 3) ≡ true) (sym same) at) (ap (λ (i : ℕ). (spot spots i).seat) same ∙ sym e)))

  -- so among those that wait
  pub waiter_seated : stands_in p (row r 3) ≡ true → (spot spots p).seat ≡ k → find (waits_in k) (map (spot spots) (row r 3)) ≡ Some (spot spots p)
  waiter_seated here is =
      find_own (spot spots) (waits_in k) p (row r 3) (λ q at. tells_seat is (kept.seated 3 p (omega arith) here) q (kept.seated 3 q (omega arith) at)) here

  pub nobody_seated : slice_index seats k ≡ p → (stands_in p (row r 3) ≡ true → (spot spots p).seat ≢ k) → find (waits_in k) (map (spot spots) (row r 3)) ≡ None
  nobody_seated leads none =
      find_none (spot spots) (waits_in k) (row r 3)
      (λ q at. other_test k (spot spots q).seat (λ e.
      let same : p ≡ q = sym leads ∙ ap (slice_index seats) e ∙ (kept.seated 3 q (omega arith) at).leads in
      none (subst (λ (i : ℕ). stands_in i (row r 3) ≡ true) (sym same) at) (ap (λ (i : ℕ). (spot spots i).seat) same ∙ sym e)))

-- places that are there once, each with a number of its own, have numbers that are there once; and each is that of a place
pub number_there : (h : ℕ → ℕ) (n : ℕ) (xs : List ℕ) → stands_in n (map h xs) ≡ true → (q : ℕ) × ((stands_in q xs ≡ true) × (h q ≡ n))
number_there h n [] here = absurd cc
number_there h n (x ∷ xs) here = elim (first_or_behind n (h x) (map h xs) here) [
  | inl same ↦ (x, (stands_first x xs, sym same))
  | inr behind ↦ let at = number_there h n xs behind in (at.0, (stands_behind at.0 x xs at.1.0, at.1.1))
]

pub once_numbers : (h : ℕ → ℕ) (xs : List ℕ) → IsOnce xs → ((p q : ℕ) → stands_in p xs ≡ true → stands_in q xs ≡ true → h p ≡ h q → p ≡ q) → IsOnce (map h xs)
once_numbers h [] once own = tt
once_numbers h (x ∷ xs) once own = (
  not_true _ (λ here.
      let at = number_there h (h x) xs here in
      let it : x ≡ at.0 = own x at.0 (stands_first x xs) (stands_behind at.0 x xs at.1.0) (sym at.1.1) in
      let no : stands_in x xs ≡ true = subst (λ (i : ℕ). stands_in i xs ≡ true) (sym it) at.1.0 in
      absurd (cc (no, once.0))),
  once_numbers h xs once.1 (λ p q here there same. own p q (stands_behind p x xs here) (stands_behind q x xs there) same),
)

map_seats : (spots : List Waiter) (xs : List ℕ) → map (λ m. m.seat) (map (λ q. member_of (spot spots q)) xs) ≡ map (λ q. (spot spots q).seat) xs
map_seats spots [] = refl
map_seats spots (x ∷ xs) = ap (λ (ks : List ℕ). (spot spots x).seat ∷ ks) (map_seats spots xs)

module _ (r : Rows) (numbers : Order) (spots : List Waiter) (places seats : List ℕ) (used : ℕ) (kept : IsKept r numbers spots places seats used) where
  has_number : (q : ℕ) → stands_in q (row r 2 ++ row r 3) ≡ true → IsSeated numbers spots seats q
  has_number q at = elim (in_rows q (row r 2) (row r 3) at) [
    | inl ready ↦ kept.seated 2 q (omega arith) ready
    | inr waiting ↦ kept.seated 3 q (omega arith) waiting
  ]

  pub seats_at : seats_of (schedule_of r spots numbers.order used) ≡ map (λ q. (spot spots q).seat) (row r 2 ++ row r 3)
  seats_at = ap (map (λ m. m.seat)) (members_at r spots numbers.order used) ∙ map_seats spots (row r 2 ++ row r 3)

  pub seats_once : IsOnce (seats_of (schedule_of r spots numbers.order used))
  seats_once =
      let rs = kept.names.rows in
      subst IsOnce (sym seats_at)
      (once_numbers (λ q. (spot spots q).seat) (row r 2 ++ row r 3)
      (once_both (row r 2) (row r 3) (rs.once 2) (rs.once 3) (λ q a b. let no = rs.apart 2 3 q a b in absurd (omega arith)))
      (λ p q here there same. sym (has_number p here).leads ∙ ap (slice_index seats) same ∙ (has_number q there).leads))

  pub seats_below : (k : ℕ) → stands_in k (seats_of (schedule_of r spots numbers.order used)) ≡ true → k < numbers.frames
  seats_below k here =
      let at = number_there (λ q. (spot spots q).seat) k (row r 2 ++ row r 3) (subst (λ (ks : List ℕ). stands_in k ks ≡ true) seats_at here) in
      let below = (has_number at.0 at.1.0).below in
      let is = at.1.1 in
      omega arith

-- all numbers in the first row
no_row : (n k p : ℕ) → stands_in p (slice_index_or (up_to n ∷ [] ∷ [] ∷ [] ∷ []) (suc k) []) ≡ true → ⊥
no_row n zero p here = absurd cc
no_row n (suc zero) p here = absurd cc
no_row n (suc (suc zero)) p here = absurd cc
no_row n (suc (suc (suc k))) p here = absurd cc

nowhere : (n k p : ℕ) → 1 ≤ k → stands_in p (slice_index_or (up_to n ∷ [] ∷ [] ∷ [] ∷ []) k []) ≡ true → ⊥
nowhere n zero p some here = absurd (omega arith)
nowhere n (suc k) p some here = no_row n k p here

once_at_first : (n k : ℕ) → IsOnce (slice_index_or (up_to n ∷ [] ∷ [] ∷ [] ∷ []) k [])
once_at_first n zero = up_once n
once_at_first n (suc zero) = tt
once_at_first n (suc (suc zero)) = tt
once_at_first n (suc (suc (suc zero))) = tt
once_at_first n (suc (suc (suc (suc k)))) = tt

below_first : (n k p : ℕ) → stands_in p (slice_index_or (up_to n ∷ [] ∷ [] ∷ [] ∷ []) k []) ≡ true → p < n
below_first n zero p here = stands_up p n here
below_first n (suc k) p here = absurd (no_row n k p here)

apart_first : (n j k p : ℕ) → stands_in p (slice_index_or (up_to n ∷ [] ∷ [] ∷ [] ∷ []) j []) ≡ true → stands_in p (slice_index_or (up_to n ∷ [] ∷ [] ∷ [] ∷ []) k []) ≡ true → j ≡ k
apart_first n zero zero p here there = refl
apart_first n zero (suc k) p here there = absurd (no_row n k p there)
apart_first n (suc j) k p here there = absurd (no_row n j p here)

rows_first : (n : ℕ) → IsRows (record { numbers = n; rows = up_to n ∷ [] ∷ [] ∷ [] ∷ [] })
rows_first n = record {
  once = once_at_first n;
  below = below_first n;
  apart = apart_first n;
  total = let long = length-up n in omega arith;
}

pub kept_empty : (n set : ℕ) (r : Rows) (numbers : Order) (spots : List Waiter) (places seats : List ℕ)
    → r ≡ record { numbers = n; rows = up_to n ∷ [] ∷ [] ∷ [] ∷ [] } → n ≡ all_places → numbers ≡ record { frames = set; order = up_to set } → set ≤ 63 → 1 ≤ set
    → length spots ≡ all_places → (m : ℕ) → places ≡ replicate m 0 → m ≡ TERMINALS * (LAST_SERIAL + 1) → seats ≡ replicate set 0
    → IsKept r numbers spots places seats 0
kept_empty n set r numbers spots places seats rows_are places_are numbers_are few some spots_are m names_are many seats_are =
    subst (λ (r : Rows). IsKept r numbers spots places seats 0) (sym rows_are)
    (subst (λ (o : Order). IsKept (record { numbers = n; rows = up_to n ∷ [] ∷ [] ∷ [] ∷ [] }) o spots places seats 0) (sym numbers_are)
    (record {
      names = record {
        rows = rows_first n;
        four = refl;
        bound = places_are;
        all_spots = spots_are;
        all_names = ap length names_are ∙ length-replicate {A = ℕ} m 0 ∙ many;
        inside = λ i. let zero_there = ap (λ (ms : List ℕ). slice_index ms i) names_are ∙ zeros m i in omega arith;
        placed = λ k p some here. absurd (nowhere n k p some here);
      };
      all_seats = ap length seats_are ∙ length-replicate {A = ℕ} set 0;
      inside = λ i. let zero_there = ap (λ (ms : List ℕ). slice_index ms i) seats_are ∙ zeros set i in omega arith;
      seated = λ k p some here. absurd (nowhere n k p (omega arith) here);
      order = record { once = up_once set; below = λ f here. stands_up f set here };
      some = some;
      few = few;
      full = let long = length-up set in omega arith;
      timed = omega arith;
      idle = omega arith;
    }))

pub view_empty : (n set : ℕ) (r : Rows) (numbers : Order) (spots : List Waiter) → r ≡ record { numbers = n; rows = up_to n ∷ [] ∷ [] ∷ [] ∷ [] }
    → numbers ≡ record { frames = set; order = up_to set } → schedule_of r spots numbers.order 0 ≡ empty set
view_empty n set r numbers spots rows_are numbers_are =
    ap (λ (r : Rows). schedule_of r spots numbers.order 0) rows_are ∙ ap (λ (o : Order). schedule_of (record { numbers = n; rows = up_to n ∷ [] ∷ [] ∷ [] ∷ [] }) spots o.order 0) numbers_are

-- the head has units left
pub timed_by : (r : Rows) (spots : List Waiter) (spare : List ℕ) (used : ℕ) (s : Schedule) → schedule_of r spots spare used ≡ s → used < QUANTUM → IsTimed s
timed_by r spots spare used s view timed = let same = ap (λ (t : Schedule). t.used) view in omega arith

-- it has used another number of units
pub used_by : (r : Rows) (spots : List Waiter) (spare : List ℕ) (used : ℕ) (s : Schedule) (u v : ℕ) → schedule_of r spots spare used ≡ s → u ≡ v
    → schedule_of r spots spare u ≡ record s { used = v }
used_by r spots spare used s u v view same = ap (λ (w : ℕ). schedule_of r spots spare w) same ∙ ap (λ (t : Schedule). record t { used = v }) view
