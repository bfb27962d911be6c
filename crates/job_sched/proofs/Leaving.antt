-- A fork that leaves.
use Rattle.std.proofs.Common.{◌≡◌, ◌≢◌, ℕ, zero, suc, ◌+◌, ◌*◌, ◌<◌, ◌≤◌, ◌==◌, inl, inr, List, [], ◌∷◌, ◌++◌, length, map, filter, Bool, true, false, not, ◌||◌, if◌then◌else◌, Option, None, Some, slice_get, slice_index, slice_index_or, set, refl, sym, ◌∙◌, ap, subst, arith, length-append}
use Rattle.std.proofs.lemmas.Bool.{cases_eq}
use Rattle.std.proofs.lemmas.List.{append-nil, map-append, length-set, get_or-set_same, get_or-set_other}
use Rattle.std.specs.Option.{is_some}
use Rattle.std.proofs.Math.ListN.{get_or-eq_default}
use Rattle.machine_names.specs.declared.names.TheConstants.{QUANTUM}
use Rattle.frame_order.specs.FrameOrder.{Order, IsOnce, stands_in, without}
use Rattle.frame_order.proofs.Changes.{order_pushed, stands_before, other_test}
use Rattle.frame_order.proofs.Orders.{found, without_found, without_absent, not_true, stands_first, stands_behind, not_first as first_apart}
use Rattle.machine_names.specs.declared.names.ForkName.{ForkName}
use Rattle.machine_names.specs.Orders.{same_fork}
use Rattle.machine_names.specs.Bounds.{IsForkName}
use Rattle.job_sched.specs.declared.member.Member.{Member}
use Rattle.job_sched.specs.declared.member.Waiter.{Waiter}
use Rattle.job_sched.specs.Rows.{Rows, IsRows, row, moved, total}
use Rattle.job_sched.specs.Schedules.{Schedule, member_of, members, count, is_member, is_waiter, is_ready, is_outside, is_waiting, stands, woken, heads, left}
use Rattle.job_sched.specs.Places.{spot, name_index, schedule_of, IsPlaceOf, IsPlaced, IsSeated, IsKept, IsThere, is_at}
use Rattle.job_sched.proofs.Moves.{row_there, each_moved, first_of, none_of, rows_length, absent_there, to_row, else_row, spot_same, spot_other, map_spots}
use Rattle.job_sched.proofs.Kept.{Becomes, names_moved, place_below, schedule_is, seated_apart, seated_by, set_below, whole}
use Rattle.job_sched.proofs.Looks.{tells, same_self, index_own, filter_others, filter_own, filter_none, filter_all, filter_nothing, any_none, any_some, members_at, in_rows, stands_append}

length_without : (n : ℕ) (xs : List ℕ) → IsOnce xs → stands_in n xs ≡ true → length (without n xs) + 1 ≡ length xs
length_without n xs once here =
    let at = found n xs here in
    let same : without n xs ≡ at.front ++ at.rest = ap (without n) at.is ∙ without_found n at.front at.rest (subst IsOnce at.is once) in
    let long = ap length same ∙ length-append at.front at.rest in
    let all = ap length at.is ∙ length-append at.front (n ∷ at.rest) in
    let behind : length (n ∷ at.rest) ≡ suc (length at.rest) = refl in
    omega arith

eq_sym : (x p : ℕ) → (x == p) ≡ (p == x)
eq_sym x p = grind arith

or_none : (a b : Bool) → a ≡ false → b ≡ false → (a || b) ≡ false
or_none true b e n = absurd cc
or_none false b e n = n

stands_at_first : (x : ℕ) (xs : List ℕ) → stands_in x (x ∷ xs) ≡ true
stands_at_first x xs = stands_first x xs

stands_later : (q x : ℕ) (xs : List ℕ) → stands_in q xs ≡ true → stands_in q (x ∷ xs) ≡ true
stands_later q x xs here = stands_behind q x xs here

not_first : (p : ℕ) (xs : List ℕ) → stands_in p xs ≡ false → is_at (slice_get xs 0) p ≡ false
not_first p [] absent = refl
not_first p (x ∷ xs) absent = eq_sym x p ∙ other_test p x (λ same. first_apart p x xs absent same)

or_left : (a b : Bool) → a ≡ true → (a || b) ≡ true
or_left true b e = refl
or_left false b e = absurd cc

or_right : (a b : Bool) → b ≡ true → (a || b) ≡ true
or_right true b e = refl
or_right false b e = e

-- where another than the head leaves, somebody is ready still
idle_left : (used p : ℕ) (xs : List ℕ) → is_at (slice_get xs 0) p ≡ false → used < QUANTUM → used ≤ QUANTUM * length xs → used ≤ QUANTUM * length (without p xs)
idle_left used p [] other timed idle = idle
idle_left used p (x ∷ xs) other timed idle =
    let stays : without p (x ∷ xs) ≡ x ∷ without p xs = ap (λ (b : Bool). if not b then x ∷ without p xs else without p xs) (eq_sym p x ∙ other) in
    let long = ap length stays in
    omega arith

-- whether the fork heads the ready list, by its place
heads_at : (f : ForkName) (spots : List Waiter) (p : ℕ) (xs : List ℕ) → ((q : ℕ) → stands_in q xs ≡ true → same_fork f (spot spots q).fork ≡ (p == q))
    → heads f (map (λ q. member_of (spot spots q)) xs) ≡ is_at (slice_get xs 0) p
heads_at f spots p [] tells = refl
heads_at f spots p (x ∷ xs) tells = tells x (stands_at_first x xs) ∙ sym (eq_sym x p)

pub once_both : (xs ys : List ℕ) → IsOnce xs → IsOnce ys → ((q : ℕ) → stands_in q xs ≡ true → stands_in q ys ≡ true → ⊥) → IsOnce (xs ++ ys)
once_both [] ys once other apart = other
once_both (x ∷ xs) ys once other apart = (
  stands_append x xs ys
      ∙ or_none (stands_in x xs) (stands_in x ys) once.0 (not_true _ (λ there. apart x (stands_at_first x xs) there)),
  once_both xs ys once.1 other (λ q here there. apart q (stands_later q x xs here) there),
)

module _ (r : Rows) (numbers : Order) (spots : List Waiter) (places seats : List ℕ) (used : ℕ) (kept : IsKept r numbers spots places seats used)
    (f : ForkName) (p : ℕ) (there : IsThere r spots f p) where
  own : (k : ℕ) → 1 ≤ k → (q : ℕ) → stands_in q (row r k) ≡ true → same_fork f (spot spots q).fork ≡ (p == q)
  own k some q here = tells r spots places f p kept.names there k q some here

  own_member : (q : ℕ) → stands_in q (row r 2 ++ row r 3) ≡ true → same_fork f (spot spots q).fork ≡ (p == q)
  own_member q here = elim (in_rows q (row r 2) (row r 3) here) [
    | inl ready ↦ own 2 (omega arith) q ready
    | inr waiting ↦ own 3 (omega arith) q waiting
  ]

  -- the lists without the fork
  left_view : (numbers' : List ℕ) (used' : ℕ)
      → numbers' ≡ numbers.order ++ map (λ m. m.seat) (filter (is_member f) (members (schedule_of r spots numbers.order used)))
      → used' ≡ (if is_at (slice_get (row r 2) 0) p then 0 else used)
      → schedule_of (moved r p 0) spots numbers' used' ≡ left (schedule_of r spots numbers.order used) f
  left_view numbers' used' seats_are used_is =
      let g = λ (q : ℕ). member_of (spot spots q) in
      let h = λ (q : ℕ). (spot spots q).fork in
      let ready : map g (row (moved r p 0) 2) ≡ filter (λ m. not (is_member f m)) (map g (row r 2)) =
      ap (map g) (row_there r p 0 2 (λ e. absurd (omega arith))) ∙ sym (filter_others g (is_member f) p (row r 2) (own 2 (omega arith))) in
      let outside : map h (row (moved r p 0) 1) ≡ filter (λ i. not (same_fork f i)) (map h (row r 1)) =
      ap (map h) (row_there r p 0 1 (λ e. absurd (omega arith))) ∙ sym (filter_others h (same_fork f) p (row r 1) (own 1 (omega arith))) in
      let waiting : map (spot spots) (row (moved r p 0) 3) ≡ filter (λ w. not (is_waiter f w)) (map (spot spots) (row r 3)) =
      ap (map (spot spots)) (row_there r p 0 3 (λ e. absurd (omega arith))) ∙ sym (filter_others (spot spots) (is_waiter f) p (row r 3) (own 3 (omega arith))) in
      let time : used' ≡ (if heads f (map g (row r 2)) then 0 else used) =
      used_is ∙ ap (λ (b : Bool). if b then 0 else used) (sym (heads_at f spots p (row r 2) (own 2 (omega arith)))) in
      schedule_is (map g (row (moved r p 0) 2)) (filter (λ m. not (is_member f m)) (map g (row r 2))) (map h (row (moved r p 0) 1)) (filter (λ i. not (same_fork f i)) (map h (row r 1)))
      (map (spot spots) (row (moved r p 0) 3)) (filter (λ w. not (is_waiter f w)) (map (spot spots) (row r 3)))
      numbers' (numbers.order ++ map (λ m. m.seat) (filter (is_member f) (members (schedule_of r spots numbers.order used)))) used'
      ready outside waiting seats_are
      ∙ ap (λ (u : ℕ). whole (filter (λ m. not (is_member f m)) (map g (row r 2))) (filter (λ i. not (same_fork f i)) (map h (row r 1))) (filter (λ w. not (is_waiter f w)) (map (spot spots) (row r 3)))
      (numbers.order ++ map (λ m. m.seat) (filter (is_member f) (members (schedule_of r spots numbers.order used)))) u) time

  -- a fork outside leaves
  pub left_outside : stands_in p (row r 1) ≡ true → IsRows (moved r p 0)
      → Becomes (moved r p 0) numbers spots places seats used (left (schedule_of r spots numbers.order used) f)
  left_outside here rows =
      let rs = kept.names.rows in
      let four = kept.names.four in
      let absent_ready : stands_in p (row r 2) ≡ false = not_true _ (λ e. let no = rs.apart 1 2 p here e in absurd (omega arith)) in
      let absent_waiting : stands_in p (row r 3) ≡ false = not_true _ (λ e. let no = rs.apart 1 3 p here e in absurd (omega arith)) in
      let absent : stands_in p (row r 2 ++ row r 3) ≡ false = stands_append p (row r 2) (row r 3) ∙ or_none (stands_in p (row r 2)) (stands_in p (row r 3)) absent_ready absent_waiting in
      let ready : row (moved r p 0) 2 ≡ row r 2 = row_there r p 0 2 (λ e. absurd (omega arith)) ∙ without_absent p (row r 2) absent_ready in
      let waiting : row (moved r p 0) 3 ≡ row r 3 = row_there r p 0 3 (λ e. absurd (omega arith)) ∙ without_absent p (row r 3) absent_waiting in
      let long = ap length ready in
      let long_waiting = ap length waiting in
      let full = kept.full in
      let none : filter (is_member f) (members (schedule_of r spots numbers.order used)) ≡ [] =
      ap (filter (is_member f)) (members_at r spots numbers.order used) ∙ filter_none (λ q. member_of (spot spots q)) (is_member f) p (row r 2 ++ row r 3) own_member absent in
      record {
        kept = record {
          names = names_moved r spots spots places places p 0 kept.names (omega arith) rows refl refl kept.names.inside (λ q other placed. placed) (λ low. absurd (omega arith));
          all_seats = kept.all_seats;
          inside = kept.inside;
          seated = each_moved 2 (IsSeated numbers spots seats) (IsSeated numbers spots seats) r p 0 (omega arith) kept.seated (λ q other seated. seated) (λ low. absurd (omega arith));
          order = kept.order;
          some = kept.some;
          few = kept.few;
          full = omega arith;
          timed = kept.timed;
          idle = let idle = kept.idle in omega arith;
        };
        view = left_view numbers.order used
            (sym (ap (λ (ms : List Member). numbers.order ++ map (λ m. m.seat) ms) none ∙ append-nil numbers.order))
            (sym (ap (λ (b : Bool). if b then 0 else used) (not_first p (row r 2) absent_ready)));
      }

  in_both : (k : ℕ) → 2 ≤ k → k < 4 → stands_in p (row r k) ≡ true → stands_in p (row r 2 ++ row r 3) ≡ true
  in_both k low high here = stands_append p (row r 2) (row r 3) ∙ elim (cases_eq k 2) [
    | inl two ↦ or_left (stands_in p (row r 2)) (stands_in p (row r 3)) (subst (λ (i : ℕ). stands_in p (row r i) ≡ true) two here)
    | inr more ↦
        let three : k ≡ 3 = omega arith in
        or_right (stands_in p (row r 2)) (stands_in p (row r 3)) (subst (λ (i : ℕ). stands_in p (row r i) ≡ true) three here)
  ]

  counted : (k : ℕ) → 2 ≤ k → k < 4 → stands_in p (row r k) ≡ true
      → (length (row (moved r p 0) 2) + length (row (moved r p 0) 3)) + 1 ≡ length (row r 2) + length (row r 3)
  counted k low high here =
      let rs = kept.names.rows in
      let ready = ap length (row_there r p 0 2 (λ e. absurd (omega arith))) in
      let waiting = ap length (row_there r p 0 3 (λ e. absurd (omega arith))) in
      elim (cases_eq k 2) [
        | inl two ↦
            let at : stands_in p (row r 2) ≡ true = subst (λ (i : ℕ). stands_in p (row r i) ≡ true) two here in
            let fewer = length_without p (row r 2) (rs.once 2) at in
            let absent : stands_in p (row r 3) ≡ false = not_true _ (λ e. let no = rs.apart 2 3 p at e in absurd (omega arith)) in
            let same = ap length (without_absent p (row r 3) absent) in
            omega arith
        | inr more ↦
            let three : k ≡ 3 = omega arith in
            let at : stands_in p (row r 3) ≡ true = subst (λ (i : ℕ). stands_in p (row r i) ≡ true) three here in
            let fewer = length_without p (row r 3) (rs.once 3) at in
            let absent : stands_in p (row r 2) ≡ false = not_true _ (λ e. let no = rs.apart 3 2 p at e in absurd (omega arith)) in
            let same = ap length (without_absent p (row r 2) absent) in
            omega arith
      ]

  within : (b : Bool) (used' : ℕ) → used' ≡ (if b then 0 else used) → used' < QUANTUM
  within true used' is = let timed = kept.timed in omega arith
  within false used' is = let timed = kept.timed in omega arith

  idles : (b : Bool) (used' : ℕ) → is_at (slice_get (row r 2) 0) p ≡ b → used' ≡ (if b then 0 else used) → used' ≤ QUANTUM * length (row (moved r p 0) 2)
  idles true used' at is = omega arith
  idles false used' at is =
      let left = ap length (row_there r p 0 2 (λ e. absurd (omega arith))) in
      let idle = idle_left used p (row r 2) at kept.timed kept.idle in
      omega arith

  -- a member leaves
  pub left_member : (k : ℕ) → 2 ≤ k → k < 4 → stands_in p (row r k) ≡ true → IsRows (moved r p 0) → (used' : ℕ) → used' ≡ (if is_at (slice_get (row r 2) 0) p then 0 else used)
      → Becomes (moved r p 0) (record numbers { order = numbers.order ++ (spot spots p).seat ∷ [] }) spots places seats used' (left (schedule_of r spots numbers.order used) f)
  left_member k low high here rows used' used_is =
      let rs = kept.names.rows in
      let four = kept.names.four in
      let mine = kept.seated k p low here in
      let both : stands_in p (row r 2 ++ row r 3) ≡ true = in_both k low high here in
      let once : IsOnce (row r 2 ++ row r 3) = once_both (row r 2) (row r 3) (rs.once 2) (rs.once 3) (λ q a b. let no = rs.apart 2 3 q a b in absurd (omega arith)) in
      let one : filter (is_member f) (members (schedule_of r spots numbers.order used)) ≡ member_of (spot spots p) ∷ [] =
      ap (filter (is_member f)) (members_at r spots numbers.order used) ∙ filter_own (λ q. member_of (spot spots q)) (is_member f) p (row r 2 ++ row r 3) own_member once both in
      let fewer = counted k low high here in
      let more = length-append numbers.order ((spot spots p).seat ∷ []) in
      let single : length ((spot spots p).seat ∷ []) ≡ 1 = refl in
      let full = kept.full in
      let timed = kept.timed in
      record {
        kept = record {
          names = names_moved r spots spots places places p 0 kept.names (omega arith) rows refl refl kept.names.inside (λ q other placed. placed) (λ low. absurd (omega arith));
          all_seats = kept.all_seats;
          inside = kept.inside;
          seated = each_moved 2 (IsSeated numbers spots seats) (IsSeated (record numbers { order = numbers.order ++ (spot spots p).seat ∷ [] }) spots seats) r p 0 (omega arith) kept.seated
              (λ q other seated. record {
                below = seated.below;
                leads = seated.leads;
                taken = stands_before (spot spots q).seat (spot spots p).seat numbers.order (seated_apart r numbers spots places seats used kept p q other seated mine) ∙ seated.taken;
              }) (λ low. absurd (omega arith));
          order = order_pushed numbers (spot spots p).seat kept.order mine.below mine.taken;
          some = kept.some;
          few = kept.few;
          full = omega arith;
          timed = within (is_at (slice_get (row r 2) 0) p) used' used_is;
          idle = idles (is_at (slice_get (row r 2) 0) p) used' refl used_is;
        };
        view = left_view (numbers.order ++ (spot spots p).seat ∷ []) used'
            (sym (ap (λ (ms : List Member). numbers.order ++ map (λ m. m.seat) ms) one)) used_is;
      }

-- A fork that enters.
not_heading : (f : ForkName) (spots : List Waiter) (xs : List ℕ) → ((q : ℕ) → stands_in q xs ≡ true → same_fork f (spot spots q).fork ≡ false)
    → heads f (map (λ q. member_of (spot spots q)) xs) ≡ false
not_heading f spots [] none = refl
not_heading f spots (x ∷ xs) none = none x (stands_at_first x xs)

standing : (r : Rows) (spots : List Waiter) (spare : List ℕ) (used : ℕ) (f : ForkName) (p : ℕ) → length r.rows ≡ 4 → IsThere r spots f p → (k : ℕ) → 1 ≤ k → stands_in p (row r k) ≡ true
    → stands f (schedule_of r spots spare used) ≡ true
standing r spots spare used f p four there zero some here = absurd (omega arith)
standing r spots spare used f p four there (suc zero) some here =
    or_left (is_outside f (schedule_of r spots spare used) || is_ready f (schedule_of r spots spare used)) (is_waiting f (schedule_of r spots spare used))
    (or_left (is_outside f (schedule_of r spots spare used)) (is_ready f (schedule_of r spots spare used))
    (any_some (λ q. (spot spots q).fork) (same_fork f) p (row r 1) here (ap (same_fork f) there.fork ∙ same_self f)))
standing r spots spare used f p four there (suc (suc zero)) some here =
    or_left (is_outside f (schedule_of r spots spare used) || is_ready f (schedule_of r spots spare used)) (is_waiting f (schedule_of r spots spare used))
    (or_right (is_outside f (schedule_of r spots spare used)) (is_ready f (schedule_of r spots spare used))
    (any_some (λ q. member_of (spot spots q)) (is_member f) p (row r 2) here (ap (same_fork f) there.fork ∙ same_self f)))
standing r spots spare used f p four there (suc (suc (suc zero))) some here =
    or_right (is_outside f (schedule_of r spots spare used) || is_ready f (schedule_of r spots spare used)) (is_waiting f (schedule_of r spots spare used))
    (any_some (spot spots) (is_waiter f) p (row r 3) here (ap (same_fork f) there.fork ∙ same_self f))
standing r spots spare used f p four there (suc (suc (suc (suc k)))) some here =
    let none : row r (suc (suc (suc (suc k)))) ≡ [] = get_or-eq_default r.rows [] (omega arith) in
    let no : stands_in p (row r (suc (suc (suc (suc k))))) ≡ false = ap (stands_in p) none in
    absurd (cc (no, here))

pub stays_away : (r : Rows) (spots : List Waiter) (spare : List ℕ) (used : ℕ) (f : ForkName) → IsPlaceOf r spots f None → stands f (schedule_of r spots spare used) ≡ false
stays_away r spots spare used f away =
    or_none (is_outside f (schedule_of r spots spare used) || is_ready f (schedule_of r spots spare used)) (is_waiting f (schedule_of r spots spare used))
    (or_none (is_outside f (schedule_of r spots spare used)) (is_ready f (schedule_of r spots spare used))
    (any_none (λ q. (spot spots q).fork) (same_fork f) (row r 1) (λ q here. away 1 q (omega arith) here))
    (any_none (λ q. member_of (spot spots q)) (is_member f) (row r 2) (λ q here. away 2 q (omega arith) here)))
    (any_none (spot spots) (is_waiter f) (row r 3) (λ q here. away 3 q (omega arith) here))

pub away_of : (r : Rows) (spots : List Waiter) (f : ForkName) (o : Option ℕ) → is_some o ≡ false → IsPlaceOf r spots f o → IsPlaceOf r spots f None
away_of r spots f None none there = there
away_of r spots f (Some p) none there = absurd cc

pub nothing_leaves : (r : Rows) (spots : List Waiter) (spare : List ℕ) (used : ℕ) (f : ForkName) → IsPlaceOf r spots f None
    → schedule_of r spots spare used ≡ left (schedule_of r spots spare used) f
nothing_leaves r spots spare used f away =
    let g = λ (q : ℕ). member_of (spot spots q) in
    let h = λ (q : ℕ). (spot spots q).fork in
    let none : filter (is_member f) (members (schedule_of r spots spare used)) ≡ [] =
    ap (filter (is_member f)) (members_at r spots spare used)
    ∙ filter_nothing g (is_member f) (row r 2 ++ row r 3) (λ q here. elim (in_rows q (row r 2) (row r 3) here) [
      | inl ready ↦ away 2 q (omega arith) ready
      | inr waiting ↦ away 3 q (omega arith) waiting
    ]) in
    let no_head : heads f (map g (row r 2)) ≡ false = not_heading f spots (row r 2) (λ q here. away 2 q (omega arith) here) in
    sym (schedule_is (filter (λ m. not (is_member f m)) (map g (row r 2))) (map g (row r 2)) (filter (λ i. not (same_fork f i)) (map h (row r 1))) (map h (row r 1))
    (filter (λ w. not (is_waiter f w)) (map (spot spots) (row r 3))) (map (spot spots) (row r 3))
    (spare ++ map (λ m. m.seat) (filter (is_member f) (members (schedule_of r spots spare used)))) spare (if heads f (map g (row r 2)) then 0 else used)
    (filter_all g (is_member f) (row r 2) (λ q here. away 2 q (omega arith) here)) (filter_all h (same_fork f) (row r 1) (λ q here. away 1 q (omega arith) here))
    (filter_all (spot spots) (is_waiter f) (row r 3) (λ q here. away 3 q (omega arith) here))
    (ap (λ (ms : List Member). spare ++ map (λ m. m.seat) ms) none ∙ append-nil spare)
    ∙ ap (λ (b : Bool). whole (map g (row r 2)) (map h (row r 1)) (map (spot spots) (row r 3)) spare (if b then 0 else used)) no_head)

pub no_change : (r : Rows) (spots : List Waiter) (spare : List ℕ) (used : ℕ) (f : ForkName) (o : Option ℕ) → length r.rows ≡ 4 → is_some o ≡ true → IsPlaceOf r spots f o
    → schedule_of r spots spare used ≡ woken (schedule_of r spots spare used) f
no_change r spots spare used f None four some there = absurd cc
no_change r spots spare used f (Some p) four some there =
    sym (ap (λ (b : Bool). if b then schedule_of r spots spare used else (record (schedule_of r spots spare used) { outside = (schedule_of r spots spare used).outside ++ f ∷ [] })) (standing r spots spare used f p four there there.row_at there.some there.here))

module _ (r : Rows) (numbers : Order) (spots : List Waiter) (places seats : List ℕ) (used : ℕ) (kept : IsKept r numbers spots places seats used)
    (f : ForkName) (p : ℕ) (w : Waiter) (fits : IsForkName f) (away : IsPlaceOf r spots f None) (first : slice_get (row r 0) 0 ≡ Some p) (rows : IsRows (moved r p 1)) (is : w.fork ≡ f) where
  index_below : name_index f < length places
  index_below =
      let terminal = fits.0 in
      let serial = fits.2 in
      let long = kept.names.all_names in
      omega arith

  placed_other_name : (q : ℕ) → q ≢ p → (IsPlaced spots places q × (same_fork f (spot spots q).fork ≡ false)) → IsPlaced (set spots p w) (set places (name_index f) p) q
  placed_other_name q other placed =
      let same : (spot (set spots p w) q).fork ≡ (spot spots q).fork = ap (λ (v : Waiter). v.fork) (spot_other spots p q w other) in
      let apart : name_index (spot spots q).fork ≢ name_index f = λ e.
      let it : f ≡ (spot spots q).fork = index_own f (spot spots q).fork fits placed.0.named (sym e) in
      let yes : same_fork f (spot spots q).fork ≡ true = ap (same_fork f) (sym it) ∙ same_self f in
      absurd (cc (yes, placed.1)) in
      record {
        named = subst IsForkName (sym same) placed.0.named;
        leads =
            ap (λ (g : ForkName). slice_index (set places (name_index f) p) (name_index g)) same
            ∙ get_or-set_other places (name_index f) (name_index (spot spots q).fork) p 0 apart ∙ placed.0.leads;
      }

  pub woken_at : Becomes (moved r p 1) numbers (set spots p w) (set places (name_index f) p) seats used (woken (schedule_of r spots numbers.order used) f)
  woken_at =
      let at = first_of (row r 0) p first in
      let xs = at.0 in
      let rs = kept.names.rows in
      let four = kept.names.four in
      let below = place_below r numbers spots places seats used kept p 0 first in
      let all = kept.names.all_spots in
      let g = λ (q : ℕ). member_of (spot spots q) in
      let h = λ (q : ℕ). (spot spots q).fork in
      let g' = λ (q : ℕ). member_of (spot (set spots p w) q) in
      let h' = λ (q : ℕ). (spot (set spots p w) q).fork in
      let ready : row (moved r p 1) 2 ≡ row r 2 = else_row r rs p 0 xs at.1 1 2 (λ e. absurd (omega arith)) (λ e. absurd (omega arith)) in
      let outside : row (moved r p 1) 1 ≡ row r 1 ++ p ∷ [] = to_row r rs p 0 xs at.1 1 (λ e. absurd (omega arith)) (omega arith) in
      let waiting : row (moved r p 1) 3 ≡ row r 3 = else_row r rs p 0 xs at.1 1 3 (λ e. absurd (omega arith)) (λ e. absurd (omega arith)) in
      let absent = absent_there r rs p 0 xs at.1 in
      let mine : spot (set spots p w) p ≡ w = spot_same spots p w (omega arith) in
      let fork : (spot (set spots p w) p).fork ≡ f = ap (λ (v : Waiter). v.fork) mine ∙ is in
      let long = ap length ready in
      let long_waiting = ap length waiting in
      let full = kept.full in
      record {
        kept = record {
          names = record {
            rows = rows;
            four = rows_length r p 1 ∙ kept.names.four;
            bound = kept.names.bound;
            all_spots = length-set spots p w ∙ kept.names.all_spots;
            all_names = length-set places (name_index f) p ∙ kept.names.all_names;
            inside = set_below places (name_index f) p kept.names.inside below;
            placed = each_moved 1 (λ q. IsPlaced spots places q × (same_fork f (spot spots q).fork ≡ false)) (IsPlaced (set spots p w) (set places (name_index f) p)) r p 1 (omega arith)
                (λ k q some here. (kept.names.placed k q some here, away k q some here)) placed_other_name
                (λ _. record {
                  named = subst IsForkName (sym fork) fits;
                  leads = ap (λ (g : ForkName). slice_index (set places (name_index f) p) (name_index g)) fork ∙ get_or-set_same places (name_index f) p 0 index_below;
                });
          };
          all_seats = kept.all_seats;
          inside = kept.inside;
          seated = each_moved 2 (IsSeated numbers spots seats) (IsSeated numbers (set spots p w) seats) r p 1 (omega arith) kept.seated
              (λ q other seated. seated_by numbers spots (set spots p w) seats q (ap (λ (v : Waiter). v.seat) (spot_other spots p q w other)) seated) (λ low. absurd (omega arith));
          order = kept.order;
          some = kept.some;
          few = kept.few;
          full = omega arith;
          timed = kept.timed;
          idle = let idle = kept.idle in omega arith;
        };
        view =
            schedule_is (map g' (row (moved r p 1) 2)) (map g (row r 2)) (map h' (row (moved r p 1) 1)) (map h (row r 1) ++ f ∷ [])
            (map (spot (set spots p w)) (row (moved r p 1) 3)) (map (spot spots) (row r 3)) numbers.order numbers.order used
            (ap (map g') ready ∙ map_spots member_of spots p w (row r 2) (absent 2 (λ e. absurd (omega arith))))
            (ap (map h') outside ∙ map-append h' (row r 1) (p ∷ [])
            ∙ ap (λ (fs : List ForkName). fs ++ h' p ∷ []) (map_spots (λ v. v.fork) spots p w (row r 1) (absent 1 (λ e. absurd (omega arith))))
            ∙ ap (λ (g : ForkName). map h (row r 1) ++ g ∷ []) fork)
            (ap (map (spot (set spots p w))) waiting ∙ map_spots (λ v. v) spots p w (row r 3) (absent 3 (λ e. absurd (omega arith)))) refl
            ∙ sym (ap (λ (b : Bool). if b then schedule_of r spots numbers.order used else (record (schedule_of r spots numbers.order used) { outside = (schedule_of r spots numbers.order used).outside ++ f ∷ [] })) (stays_away r spots numbers.order used f away));
      }

length-places : {A : Type 0} (g : ℕ → A) (xs : List ℕ) → length (map g xs) ≡ length xs
length-places g [] = refl
length-places g (x ∷ xs) = ap suc (length-places g xs)

total_four : (rs : List (List ℕ)) → length rs ≡ 4 → total rs ≡ length (slice_index_or rs 0 []) + length (slice_index_or rs 1 []) + length (slice_index_or rs 2 []) + length (slice_index_or rs 3 [])
total_four [] four = absurd cc
total_four (a ∷ []) four = absurd (omega arith)
total_four (a ∷ b ∷ []) four = absurd (omega arith)
total_four (a ∷ b ∷ c ∷ []) four = absurd (omega arith)
total_four (a ∷ b ∷ c ∷ d ∷ []) four = omega arith
total_four (a ∷ b ∷ c ∷ d ∷ e ∷ rs) four = absurd (omega arith)

-- where so few forks stand, a place is free
pub some_free : (r : Rows) (spots : List Waiter) (spare : List ℕ) (used : ℕ) (s : Schedule) → IsRows r → length r.rows ≡ 4 → schedule_of r spots spare used ≡ s
    → count s < r.numbers → slice_get (row r 0) 0 ≡ None → ⊥
some_free r spots spare used s rows four view few none =
    let sum = total_four r.rows four in
    let all = rows.total in
    let empty : length (row r 0) ≡ 0 = ap length (none_of (row r 0) none) in
    let outside : length s.outside ≡ length (row r 1) = ap (λ (t : Schedule). length t.outside) (sym view) ∙ length-places (λ q. (spot spots q).fork) (row r 1) in
    let ready : length s.ready ≡ length (row r 2) = ap (λ (t : Schedule). length t.ready) (sym view) ∙ length-places (λ q. member_of (spot spots q)) (row r 2) in
    let waiting : length s.waiting ≡ length (row r 3) = ap (λ (t : Schedule). length t.waiting) (sym view) ∙ length-places (spot spots) (row r 3) in
    absurd (omega arith)

-- no more forks stand than there are places
pub few_stand : (r : Rows) (spots : List Waiter) (spare : List ℕ) (used : ℕ) (s : Schedule) → IsRows r → length r.rows ≡ 4 → schedule_of r spots spare used ≡ s
    → count s ≤ r.numbers
few_stand r spots spare used s rows four view =
    let sum = total_four r.rows four in
    let all = rows.total in
    let outside : length s.outside ≡ length (row r 1) = ap (λ (t : Schedule). length t.outside) (sym view) ∙ length-places (λ q. (spot spots q).fork) (row r 1) in
    let ready : length s.ready ≡ length (row r 2) = ap (λ (t : Schedule). length t.ready) (sym view) ∙ length-places (λ q. member_of (spot spots q)) (row r 2) in
    let waiting : length s.waiting ≡ length (row r 3) = ap (λ (t : Schedule). length t.waiting) (sym view) ∙ length-places (spot spots) (row r 3) in
    omega arith
