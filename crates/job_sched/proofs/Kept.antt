-- What stands in memory after a change, and what schedule that is.
use Rattle.std.proofs.Common.{◌≡◌, ◌≢◌, ℕ, zero, suc, ◌<◌, ◌≤◌, List, [], ◌∷◌, ◌++◌, length, map, Bool, true, false, if◌then◌else◌, None, Some, slice_get, slice_index, refl, sym, ◌∙◌, ap, subst, arith, set, length-append}
use Rattle.std.proofs.lemmas.List.{get_or-set_same, get_or-set_other, length-set, map-append}
use Rattle.frame_order.specs.FrameOrder.{Order, IsOnce, stands_in, without}
use Rattle.frame_order.proofs.Changes.{order_pushed, order_taken, stands_before, absent_taken, stands_taken}
use Rattle.frame_order.proofs.Orders.{without_absent, other_frame}
use Rattle.machine_names.specs.declared.names.ForkName.{ForkName}
use Rattle.page_contracts.specs.declared.answers.Need.{Need}
use Rattle.machine_names.specs.Bounds.{IsForkName}
use Rattle.job_sched.specs.declared.member.Member.{Member}
use Rattle.job_sched.specs.declared.member.Waiter.{Waiter}
use Rattle.job_sched.specs.Rows.{Rows, IsRows, row, moved}
use Rattle.job_sched.specs.Schedules.{Schedule, member_of, first_seated, one_admitted, rotated, sent_out, put_to_wait, waited, looked_at, ends_wait}
use Rattle.job_sched.specs.Places.{spot, all_places, name_index, schedule_of, IsPlaced, IsSeated, AreNamed, IsKept}
use Rattle.job_sched.proofs.Moves.{rows_length, each_moved, first_of, first_stands, without_first, none_of, head_here, absent_there, from_row, to_row, round_row, else_row, spot_same, spot_other, map_spots, tail_absent}

-- the memory is kept, and stands for a schedule
pub record Becomes (r : Rows) (numbers : Order) (spots : List Waiter) (places seats : List ℕ) (used : ℕ) (s : Schedule) : Type 0 where
  pub kept : IsKept r numbers spots places seats used
  pub view : schedule_of r spots numbers.order used ≡ s

-- where a row has no first number, nothing of it is in the schedule
pub none_ready : (r : Rows) (spots : List Waiter) (spare : List ℕ) (used : ℕ) (s : Schedule) → schedule_of r spots spare used ≡ s → slice_get (row r 2) 0 ≡ None → s.ready ≡ []
none_ready r spots spare used s view none = sym (ap (λ (t : Schedule). t.ready) view) ∙ ap (map (λ p. member_of (spot spots p))) (none_of (row r 2) none)

pub none_outside : (r : Rows) (spots : List Waiter) (spare : List ℕ) (used : ℕ) (s : Schedule) → schedule_of r spots spare used ≡ s → slice_get (row r 1) 0 ≡ None → s.outside ≡ []
none_outside r spots spare used s view none = sym (ap (λ (t : Schedule). t.outside) view) ∙ ap (map (λ p. (spot spots p).fork)) (none_of (row r 1) none)

pub none_waiting : (r : Rows) (spots : List Waiter) (spare : List ℕ) (used : ℕ) (s : Schedule) → schedule_of r spots spare used ≡ s → slice_get (row r 3) 0 ≡ None → s.waiting ≡ []
none_waiting r spots spare used s view none = sym (ap (λ (t : Schedule). t.waiting) view) ∙ ap (map (spot spots)) (none_of (row r 3) none)

pub none_spare : (r : Rows) (spots : List Waiter) (spare : List ℕ) (used : ℕ) (s : Schedule) → schedule_of r spots spare used ≡ s → slice_get spare 0 ≡ None → s.spare ≡ []
none_spare r spots spare used s view none = sym (ap (λ (t : Schedule). t.spare) view) ∙ none_of spare none

no_number : (os : List ForkName) (s : Schedule) → s ≡ first_seated os [] s
no_number [] s = refl
no_number (o ∷ os) s = refl

pub no_room : (s : Schedule) → s.spare ≡ [] → s ≡ one_admitted s
no_room s none = no_number s.outside s ∙ ap (λ (ks : List ℕ). first_seated s.outside ks s) (sym none)

pub nobody_outside : (s : Schedule) → s.outside ≡ [] → s ≡ one_admitted s
nobody_outside s none = sym (ap (λ (os : List ForkName). first_seated os s.spare s) none)

-- the names behind a move
pub names_moved : (r : Rows) (spots spots' : List Waiter) (places places' : List ℕ) (n k : ℕ) → AreNamed r spots places → k < 4 → IsRows (moved r n k)
    → length spots' ≡ length spots → length places' ≡ length places → ((i : ℕ) → slice_index places' i < all_places)
    → ((q : ℕ) → q ≢ n → IsPlaced spots places q → IsPlaced spots' places' q) → (1 ≤ k → IsPlaced spots' places' n)
    → AreNamed (moved r n k) spots' places'
names_moved r spots spots' places places' n k names small rows same_spots same_places inside keep own =
    let four = names.four in
    record {
      rows = rows;
      four = rows_length r n k ∙ names.four;
      bound = names.bound;
      all_spots = same_spots ∙ names.all_spots;
      all_names = same_places ∙ names.all_names;
      inside = inside;
      placed = each_moved 1 (IsPlaced spots places) (IsPlaced spots' places') r n k (omega arith) names.placed keep own;
    }

abbrev pub whole : List Member → List ForkName → List Waiter → List ℕ → ℕ → Schedule
whole ready outside waiting spare used = record { ready = ready; outside = outside; waiting = waiting; spare = spare; used = used }

pub schedule_is : (a b : List Member) (c d : List ForkName) (e f : List Waiter) (g h : List ℕ) (u : ℕ) → a ≡ b → c ≡ d → e ≡ f → g ≡ h
    → whole a c e g u ≡ whole b d f h u
schedule_is a b c d e f g h u p q r s = cc

-- a place with another need or number keeps its fork
placed_set : (spots : List Waiter) (places : List ℕ) (p : ℕ) (w : Waiter) → p < length spots → w.fork ≡ (spot spots p).fork
    → IsPlaced spots places p → IsPlaced (set spots p w) places p
placed_set spots places p w small same placed =
    let fork : (spot (set spots p w) p).fork ≡ (spot spots p).fork = ap (λ (v : Waiter). v.fork) (spot_same spots p w small) ∙ same in
    record {
      named = subst IsForkName (sym fork) placed.named;
      leads = ap (λ (f : ForkName). slice_index places (name_index f)) fork ∙ placed.leads;
    }

placed_other : (spots : List Waiter) (places : List ℕ) (p : ℕ) (w : Waiter) (q : ℕ) → q ≢ p → IsPlaced spots places q → IsPlaced (set spots p w) places q
placed_other spots places p w q other placed =
    let same : (spot (set spots p w) q).fork ≡ (spot spots q).fork = ap (λ (v : Waiter). v.fork) (spot_other spots p q w other) in
    record {
      named = subst IsForkName (sym same) placed.named;
      leads = ap (λ (f : ForkName). slice_index places (name_index f)) same ∙ placed.leads;
    }

pub seated_by : (numbers : Order) (spots spots' : List Waiter) (seats : List ℕ) (q : ℕ) → (spot spots' q).seat ≡ (spot spots q).seat
    → IsSeated numbers spots seats q → IsSeated numbers spots' seats q
seated_by numbers spots spots' seats q same seated =
    let below = seated.below in
    record {
      below = omega arith;
      leads = ap (slice_index seats) same ∙ seated.leads;
      taken = ap (λ (k : ℕ). stands_in k numbers.order) same ∙ seated.taken;
    }

number_here : (k : ℕ) (ks : List ℕ) → slice_get ks 0 ≡ Some k → stands_in k ks ≡ true
number_here k ks first = first_stands ks k first

without_head : (k : ℕ) (ks : List ℕ) → stands_in k ks ≡ false → without k (k ∷ ks) ≡ ks
without_head k ks absent = without_first k ks ∙ without_absent k ks absent

pub set_below : (places : List ℕ) (i x : ℕ) → ((j : ℕ) → slice_index places j < all_places) → x < all_places → (j : ℕ) → slice_index (set places i x) j < all_places
set_below [] i x inside small j = inside j
set_below (y ∷ ys) zero x inside small zero = small
set_below (y ∷ ys) zero x inside small (suc j) = inside (suc j)
set_below (y ∷ ys) (suc i) x inside small zero = inside zero
set_below (y ∷ ys) (suc i) x inside small (suc j) = set_below ys i x (λ j. inside (suc j)) small j

module _ (r : Rows) (numbers : Order) (spots : List Waiter) (places seats : List ℕ) (used : ℕ) (kept : IsKept r numbers spots places seats used) (p : ℕ) where
  -- the first place of a row is one of all
  pub place_below : (k : ℕ) → slice_get (row r k) 0 ≡ Some p → p < all_places
  place_below k first =
      let at = first_of (row r k) p first in
      let under = kept.names.rows.below k p (head_here r kept.names.rows p k at.0 at.1) in
      let bound = kept.names.bound in
      omega arith

  pub seated_apart : (q : ℕ) → q ≢ p → IsSeated numbers spots seats q → IsSeated numbers spots seats p → (spot spots q).seat ≢ (spot spots p).seat
  seated_apart q other here there same = other (sym here.leads ∙ ap (slice_index seats) same ∙ there.leads)

  pub rotated_at : slice_get (row r 2) 0 ≡ Some p → IsRows (moved r p 2)
      → Becomes (moved r p 2) numbers spots places seats 0 (rotated (schedule_of r spots numbers.order used).ready (schedule_of r spots numbers.order used))
  rotated_at first rows =
      let at = first_of (row r 2) p first in
      let xs = at.0 in
      let rs = kept.names.rows in
      let four = kept.names.four in
      let g = λ (q : ℕ). member_of (spot spots q) in
      let ready : row (moved r p 2) 2 ≡ xs ++ p ∷ [] = round_row r rs p 2 xs at.1 (omega arith) in
      let outside : row (moved r p 2) 1 ≡ row r 1 = else_row r rs p 2 xs at.1 2 1 (λ e. absurd (omega arith)) (λ e. absurd (omega arith)) in
      let waiting : row (moved r p 2) 3 ≡ row r 3 = else_row r rs p 2 xs at.1 2 3 (λ e. absurd (omega arith)) (λ e. absurd (omega arith)) in
      let head = head_here r rs p 2 xs at.1 in
      let long = ap length ready ∙ length-append xs (p ∷ []) in
      let long_waiting = ap length waiting in
      let was = ap length at.1 in
      let full = kept.full in
      record {
        kept = record {
          names = names_moved r spots spots places places p 2 kept.names (omega arith) rows refl refl kept.names.inside (λ q other placed. placed) (λ _. kept.names.placed 2 p (omega arith) head);
          all_seats = kept.all_seats;
          inside = kept.inside;
          seated = each_moved 2 (IsSeated numbers spots seats) (IsSeated numbers spots seats) r p 2 (omega arith) kept.seated (λ q other seated. seated) (λ _. kept.seated 2 p (omega arith) head);
          order = kept.order;
          some = kept.some;
          few = kept.few;
          full = omega arith;
          timed = omega arith;
          idle = omega arith;
        };
        view =
            schedule_is (map g (row (moved r p 2) 2)) (map g xs ++ g p ∷ []) (map (λ q. (spot spots q).fork) (row (moved r p 2) 1)) (map (λ q. (spot spots q).fork) (row r 1))
            (map (spot spots) (row (moved r p 2) 3)) (map (spot spots) (row r 3)) numbers.order numbers.order 0
            (ap (map g) ready ∙ map-append g xs (p ∷ [])) (ap (map (λ q. (spot spots q).fork)) outside) (ap (map (spot spots)) waiting) refl
            ∙ sym (ap (λ (ys : List ℕ). rotated (map g ys) (schedule_of r spots numbers.order used)) at.1);
      }

  pub sent_out_at : slice_get (row r 2) 0 ≡ Some p → IsRows (moved r p 1)
      → Becomes (moved r p 1) (record numbers { order = numbers.order ++ (spot spots p).seat ∷ [] }) spots places seats 0
      (sent_out (schedule_of r spots numbers.order used).ready (schedule_of r spots numbers.order used))
  sent_out_at first rows =
      let at = first_of (row r 2) p first in
      let xs = at.0 in
      let rs = kept.names.rows in
      let four = kept.names.four in
      let g = λ (q : ℕ). member_of (spot spots q) in
      let h = λ (q : ℕ). (spot spots q).fork in
      let ready : row (moved r p 1) 2 ≡ xs = from_row r rs p 2 xs at.1 1 (λ e. absurd (omega arith)) in
      let outside : row (moved r p 1) 1 ≡ row r 1 ++ p ∷ [] = to_row r rs p 2 xs at.1 1 (λ e. absurd (omega arith)) (omega arith) in
      let waiting : row (moved r p 1) 3 ≡ row r 3 = else_row r rs p 2 xs at.1 1 3 (λ e. absurd (omega arith)) (λ e. absurd (omega arith)) in
      let head = head_here r rs p 2 xs at.1 in
      let mine = kept.seated 2 p (omega arith) head in
      let long = ap length ready in
      let long_waiting = ap length waiting in
      let long_order = length-append numbers.order ((spot spots p).seat ∷ []) in
      let was = ap length at.1 in
      let full = kept.full in
      record {
        kept = record {
          names = names_moved r spots spots places places p 1 kept.names (omega arith) rows refl refl kept.names.inside (λ q other placed. placed) (λ _. kept.names.placed 2 p (omega arith) head);
          all_seats = kept.all_seats;
          inside = kept.inside;
          seated = each_moved 2 (IsSeated numbers spots seats) (IsSeated (record numbers { order = numbers.order ++ (spot spots p).seat ∷ [] }) spots seats) r p 1 (omega arith) kept.seated
              (λ q other seated. record {
                below = seated.below;
                leads = seated.leads;
                taken = stands_before (spot spots q).seat (spot spots p).seat numbers.order (seated_apart q other seated mine) ∙ seated.taken;
              }) (λ low. absurd (omega arith));
          order = order_pushed numbers (spot spots p).seat kept.order mine.below mine.taken;
          some = kept.some;
          few = kept.few;
          full = omega arith;
          timed = omega arith;
          idle = omega arith;
        };
        view =
            schedule_is (map g (row (moved r p 1) 2)) (map g xs) (map h (row (moved r p 1) 1)) (map h (row r 1) ++ h p ∷ [])
            (map (spot spots) (row (moved r p 1) 3)) (map (spot spots) (row r 3)) (numbers.order ++ (spot spots p).seat ∷ []) (numbers.order ++ (spot spots p).seat ∷ []) 0
            (ap (map g) ready) (ap (map h) outside ∙ map-append h (row r 1) (p ∷ [])) (ap (map (spot spots)) waiting) refl
            ∙ sym (ap (λ (ys : List ℕ). sent_out (map g ys) (schedule_of r spots numbers.order used)) at.1);
      }

  pub admitted_at : (k : ℕ) (w : Waiter) → slice_get (row r 1) 0 ≡ Some p → slice_get numbers.order 0 ≡ Some k → IsRows (moved r p 2)
      → w ≡ record (spot spots p) { seat = k }
      → Becomes (moved r p 2) (record numbers { order = without k numbers.order }) (set spots p w) places (set seats k p) used
      (one_admitted (schedule_of r spots numbers.order used))
  admitted_at k w first spare rows is =
      let at = first_of (row r 1) p first in
      let xs = at.0 in
      let number = first_of numbers.order k spare in
      let ks = number.0 in
      let rs = kept.names.rows in
      let four = kept.names.four in
      let below = place_below 1 first in
      let all = kept.names.all_spots in
      let g = λ (q : ℕ). member_of (spot spots q) in
      let h = λ (q : ℕ). (spot spots q).fork in
      let g' = λ (q : ℕ). member_of (spot (set spots p w) q) in
      let h' = λ (q : ℕ). (spot (set spots p w) q).fork in
      let ready : row (moved r p 2) 2 ≡ row r 2 ++ p ∷ [] = to_row r rs p 1 xs at.1 2 (λ e. absurd (omega arith)) (omega arith) in
      let outside : row (moved r p 2) 1 ≡ xs = from_row r rs p 1 xs at.1 2 (λ e. absurd (omega arith)) in
      let waiting : row (moved r p 2) 3 ≡ row r 3 = else_row r rs p 1 xs at.1 2 3 (λ e. absurd (omega arith)) (λ e. absurd (omega arith)) in
      let head = head_here r rs p 1 xs at.1 in
      let absent_ready = absent_there r rs p 1 xs at.1 2 (λ e. absurd (omega arith)) in
      let absent_waiting = absent_there r rs p 1 xs at.1 3 (λ e. absurd (omega arith)) in
      let here : stands_in k numbers.order ≡ true = number_here k numbers.order spare in
      let under = kept.order.below k here in
      let seats_long = kept.all_seats in
      let once : IsOnce (k ∷ ks) = subst IsOnce number.1 kept.order.once in
      let left : without k numbers.order ≡ ks = ap (without k) number.1 ∙ without_head k ks once.0 in
      let mine : spot (set spots p w) p ≡ w = spot_same spots p w (omega arith) in
      let seat : (spot (set spots p w) p).seat ≡ k = ap (λ (v : Waiter). v.seat) (mine ∙ is) in
      let fork : (spot (set spots p w) p).fork ≡ (spot spots p).fork = ap (λ (v : Waiter). v.fork) (mine ∙ is) in
      let long = ap length ready ∙ length-append (row r 2) (p ∷ []) in
      let long_waiting = ap length waiting in
      let fewer = ap length number.1 in
      let now = ap length left in
      let full = kept.full in
      record {
        kept = record {
          names = names_moved r spots (set spots p w) places places p 2 kept.names (omega arith) rows (length-set spots p w) refl kept.names.inside
              (placed_other spots places p w) (λ _. placed_set spots places p w (omega arith) (ap (λ (v : Waiter). v.fork) is) (kept.names.placed 1 p (omega arith) head));
          all_seats = length-set seats k p ∙ kept.all_seats;
          inside = set_below seats k p kept.inside below;
          seated = each_moved 2 (IsSeated numbers spots seats) (IsSeated (record numbers { order = without k numbers.order }) (set spots p w) (set seats k p)) r p 2 (omega arith) kept.seated
              (λ q other seated.
              let same : (spot (set spots p w) q).seat ≡ (spot spots q).seat = ap (λ (v : Waiter). v.seat) (spot_other spots p q w other) in
              let apart : (spot spots q).seat ≢ k = λ e. other_frame k (spot spots q).seat numbers.order here seated.taken (sym e) in
              let low = seated.below in
              record {
                below = omega arith;
                leads = ap (slice_index (set seats k p)) same ∙ get_or-set_other seats k (spot spots q).seat p 0 apart ∙ seated.leads;
                taken = ap (λ (i : ℕ). stands_in i (without k numbers.order)) same ∙ stands_taken k (spot spots q).seat numbers.order apart ∙ seated.taken;
              })
              (λ _. record {
                below = omega arith;
                leads = ap (slice_index (set seats k p)) seat ∙ get_or-set_same seats k p 0 (omega arith);
                taken = ap (λ (i : ℕ). stands_in i (without k numbers.order)) seat ∙ absent_taken k numbers.order;
              });
          order = order_taken numbers k kept.order here;
          some = kept.some;
          few = kept.few;
          full = omega arith;
          timed = kept.timed;
          idle = let idle = kept.idle in omega arith;
        };
        view =
            schedule_is (map g' (row (moved r p 2) 2)) (map g (row r 2) ++ record { fork = h p; seat = k } ∷ []) (map h' (row (moved r p 2) 1)) (map h xs)
            (map (spot (set spots p w)) (row (moved r p 2) 3)) (map (spot spots) (row r 3)) (without k numbers.order) ks used
            (ap (map g') ready ∙ map-append g' (row r 2) (p ∷ []) ∙ ap (λ (ms : List Member). ms ++ g' p ∷ []) (map_spots member_of spots p w (row r 2) absent_ready)
            ∙ ap (λ (m : Member). map g (row r 2) ++ m ∷ []) (ap member_of (mine ∙ is)))
            (ap (map h') outside ∙ map_spots (λ v. v.fork) spots p w xs (tail_absent r rs p 1 xs at.1))
            (ap (map (spot (set spots p w))) waiting ∙ map_spots (λ v. v) spots p w (row r 3) absent_waiting) left
            ∙ sym (ap (λ (ys : List ℕ). first_seated (map h ys) numbers.order (schedule_of r spots numbers.order used)) at.1
            ∙ ap (λ (ys : List ℕ). first_seated (h p ∷ map h xs) ys (schedule_of r spots numbers.order used)) number.1);
      }

  pub waited_at : (w : Waiter) (need : Need) → slice_get (row r 2) 0 ≡ Some p → IsRows (moved r p 3) → w ≡ record (spot spots p) { need = need }
      → Becomes (moved r p 3) numbers (set spots p w) places seats 0 (waited (schedule_of r spots numbers.order used) need)
  waited_at w need first rows is =
      let at = first_of (row r 2) p first in
      let xs = at.0 in
      let rs = kept.names.rows in
      let four = kept.names.four in
      let below = place_below 2 first in
      let all = kept.names.all_spots in
      let g = λ (q : ℕ). member_of (spot spots q) in
      let h = λ (q : ℕ). (spot spots q).fork in
      let g' = λ (q : ℕ). member_of (spot (set spots p w) q) in
      let h' = λ (q : ℕ). (spot (set spots p w) q).fork in
      let ready : row (moved r p 3) 2 ≡ xs = from_row r rs p 2 xs at.1 3 (λ e. absurd (omega arith)) in
      let outside : row (moved r p 3) 1 ≡ row r 1 = else_row r rs p 2 xs at.1 3 1 (λ e. absurd (omega arith)) (λ e. absurd (omega arith)) in
      let waiting : row (moved r p 3) 3 ≡ row r 3 ++ p ∷ [] = to_row r rs p 2 xs at.1 3 (λ e. absurd (omega arith)) (omega arith) in
      let head = head_here r rs p 2 xs at.1 in
      let absent_outside = absent_there r rs p 2 xs at.1 1 (λ e. absurd (omega arith)) in
      let absent_waiting = absent_there r rs p 2 xs at.1 3 (λ e. absurd (omega arith)) in
      let mine : spot (set spots p w) p ≡ w = spot_same spots p w (omega arith) in
      let long = ap length ready in
      let long_waiting = ap length waiting ∙ length-append (row r 3) (p ∷ []) in
      let was = ap length at.1 in
      let full = kept.full in
      record {
        kept = record {
          names = names_moved r spots (set spots p w) places places p 3 kept.names (omega arith) rows (length-set spots p w) refl kept.names.inside
              (placed_other spots places p w) (λ _. placed_set spots places p w (omega arith) (ap (λ (v : Waiter). v.fork) is) (kept.names.placed 2 p (omega arith) head));
          all_seats = kept.all_seats;
          inside = kept.inside;
          seated = each_moved 2 (IsSeated numbers spots seats) (IsSeated numbers (set spots p w) seats) r p 3 (omega arith) kept.seated
              (λ q other seated. seated_by numbers spots (set spots p w) seats q (ap (λ (v : Waiter). v.seat) (spot_other spots p q w other)) seated)
              (λ _. seated_by numbers spots (set spots p w) seats p (ap (λ (v : Waiter). v.seat) (mine ∙ is)) (kept.seated 2 p (omega arith) head));
          order = kept.order;
          some = kept.some;
          few = kept.few;
          full = omega arith;
          timed = omega arith;
          idle = omega arith;
        };
        view =
            schedule_is (map g' (row (moved r p 3) 2)) (map g xs) (map h' (row (moved r p 3) 1)) (map h (row r 1))
            (map (spot (set spots p w)) (row (moved r p 3) 3)) (map (spot spots) (row r 3) ++ record (spot spots p) { need = need } ∷ []) numbers.order numbers.order 0
            (ap (map g') ready ∙ map_spots member_of spots p w xs (tail_absent r rs p 2 xs at.1))
            (ap (map h') outside ∙ map_spots (λ v. v.fork) spots p w (row r 1) absent_outside)
            (ap (map (spot (set spots p w))) waiting ∙ map-append (spot (set spots p w)) (row r 3) (p ∷ [])
            ∙ ap (λ (ws : List Waiter). ws ++ spot (set spots p w) p ∷ []) (map_spots (λ v. v) spots p w (row r 3) absent_waiting)
            ∙ ap (λ (v : Waiter). map (spot spots) (row r 3) ++ v ∷ []) (mine ∙ is)) refl
            ∙ sym (ap (λ (ys : List ℕ). put_to_wait (map g ys) need (schedule_of r spots numbers.order used)) at.1);
      }

  ready_at : (done : Need) → slice_get (row r 3) 0 ≡ Some p → IsRows (moved r p 2) → ends_wait done (spot spots p).need ≡ true
      → Becomes (moved r p 2) numbers spots places seats used (looked_at (schedule_of r spots numbers.order used).waiting done (schedule_of r spots numbers.order used))
  ready_at done first rows ends =
      let at = first_of (row r 3) p first in
      let xs = at.0 in
      let rs = kept.names.rows in
      let four = kept.names.four in
      let g = λ (q : ℕ). member_of (spot spots q) in
      let h = λ (q : ℕ). (spot spots q).fork in
      let ready : row (moved r p 2) 2 ≡ row r 2 ++ p ∷ [] = to_row r rs p 3 xs at.1 2 (λ e. absurd (omega arith)) (omega arith) in
      let outside : row (moved r p 2) 1 ≡ row r 1 = else_row r rs p 3 xs at.1 2 1 (λ e. absurd (omega arith)) (λ e. absurd (omega arith)) in
      let waiting : row (moved r p 2) 3 ≡ xs = from_row r rs p 3 xs at.1 2 (λ e. absurd (omega arith)) in
      let head = head_here r rs p 3 xs at.1 in
      let long = ap length ready ∙ length-append (row r 2) (p ∷ []) in
      let long_waiting = ap length waiting in
      let was = ap length at.1 in
      let full = kept.full in
      let s = schedule_of r spots numbers.order used in
      record {
        kept = record {
          names = names_moved r spots spots places places p 2 kept.names (omega arith) rows refl refl kept.names.inside (λ q other placed. placed) (λ _. kept.names.placed 3 p (omega arith) head);
          all_seats = kept.all_seats;
          inside = kept.inside;
          seated = each_moved 2 (IsSeated numbers spots seats) (IsSeated numbers spots seats) r p 2 (omega arith) kept.seated (λ q other seated. seated) (λ _. kept.seated 3 p (omega arith) head);
          order = kept.order;
          some = kept.some;
          few = kept.few;
          full = omega arith;
          timed = kept.timed;
          idle = let idle = kept.idle in omega arith;
        };
        view =
            schedule_is (map g (row (moved r p 2) 2)) (map g (row r 2) ++ g p ∷ []) (map h (row (moved r p 2) 1)) (map h (row r 1))
            (map (spot spots) (row (moved r p 2) 3)) (map (spot spots) xs) numbers.order numbers.order used
            (ap (map g) ready ∙ map-append g (row r 2) (p ∷ [])) (ap (map h) outside) (ap (map (spot spots)) waiting) refl
            ∙ sym (ap (λ (ys : List ℕ). looked_at (map (spot spots) ys) done (schedule_of r spots numbers.order used)) at.1
            ∙ ap (λ (b : Bool). if b then whole (map g (row r 2) ++ g p ∷ []) (map h (row r 1)) (map (spot spots) xs) numbers.order used else whole (map g (row r 2)) (map h (row r 1)) (map (spot spots) xs ++ spot spots p ∷ []) numbers.order used) ends);
      }

  again_at : (done : Need) → slice_get (row r 3) 0 ≡ Some p → IsRows (moved r p 3) → ends_wait done (spot spots p).need ≡ false
      → Becomes (moved r p 3) numbers spots places seats used (looked_at (schedule_of r spots numbers.order used).waiting done (schedule_of r spots numbers.order used))
  again_at done first rows ends =
      let at = first_of (row r 3) p first in
      let xs = at.0 in
      let rs = kept.names.rows in
      let four = kept.names.four in
      let g = λ (q : ℕ). member_of (spot spots q) in
      let h = λ (q : ℕ). (spot spots q).fork in
      let ready : row (moved r p 3) 2 ≡ row r 2 = else_row r rs p 3 xs at.1 3 2 (λ e. absurd (omega arith)) (λ e. absurd (omega arith)) in
      let outside : row (moved r p 3) 1 ≡ row r 1 = else_row r rs p 3 xs at.1 3 1 (λ e. absurd (omega arith)) (λ e. absurd (omega arith)) in
      let waiting : row (moved r p 3) 3 ≡ xs ++ p ∷ [] = round_row r rs p 3 xs at.1 (omega arith) in
      let head = head_here r rs p 3 xs at.1 in
      let long = ap length ready in
      let long_waiting = ap length waiting ∙ length-append xs (p ∷ []) in
      let was = ap length at.1 in
      let full = kept.full in
      record {
        kept = record {
          names = names_moved r spots spots places places p 3 kept.names (omega arith) rows refl refl kept.names.inside (λ q other placed. placed) (λ _. kept.names.placed 3 p (omega arith) head);
          all_seats = kept.all_seats;
          inside = kept.inside;
          seated = each_moved 2 (IsSeated numbers spots seats) (IsSeated numbers spots seats) r p 3 (omega arith) kept.seated (λ q other seated. seated) (λ _. kept.seated 3 p (omega arith) head);
          order = kept.order;
          some = kept.some;
          few = kept.few;
          full = omega arith;
          timed = kept.timed;
          idle = let idle = kept.idle in omega arith;
        };
        view =
            schedule_is (map g (row (moved r p 3) 2)) (map g (row r 2)) (map h (row (moved r p 3) 1)) (map h (row r 1))
            (map (spot spots) (row (moved r p 3) 3)) (map (spot spots) xs ++ spot spots p ∷ []) numbers.order numbers.order used
            (ap (map g) ready) (ap (map h) outside) (ap (map (spot spots)) waiting ∙ map-append (spot spots) xs (p ∷ [])) refl
            ∙ sym (ap (λ (ys : List ℕ). looked_at (map (spot spots) ys) done (schedule_of r spots numbers.order used)) at.1
            ∙ ap (λ (b : Bool). if b then whole (map g (row r 2) ++ g p ∷ []) (map h (row r 1)) (map (spot spots) xs) numbers.order used else whole (map g (row r 2)) (map h (row r 1)) (map (spot spots) xs ++ spot spots p ∷ []) numbers.order used) ends);
      }

  -- the one that waited longest is put last into a row: that of those that are ready, or that of those that wait
  pub looked_at_at : (done : Need) (b : Bool) (k : ℕ) → slice_get (row r 3) 0 ≡ Some p → IsRows (moved r p k) → ends_wait done (spot spots p).need ≡ b
      → k ≡ (if b then 2 else 3)
      → Becomes (moved r p k) numbers spots places seats used (looked_at (schedule_of r spots numbers.order used).waiting done (schedule_of r spots numbers.order used))
  looked_at_at done true k first rows ends is =
      subst (λ (k : ℕ). Becomes (moved r p k) numbers spots places seats used (looked_at (schedule_of r spots numbers.order used).waiting done (schedule_of r spots numbers.order used))) (sym is)
      (ready_at done first (subst (λ (k : ℕ). IsRows (moved r p k)) is rows) ends)
  looked_at_at done false k first rows ends is =
      subst (λ (k : ℕ). Becomes (moved r p k) numbers spots places seats used (looked_at (schedule_of r spots numbers.order used).waiting done (schedule_of r spots numbers.order used))) (sym is)
      (again_at done first (subst (λ (k : ℕ). IsRows (moved r p k)) is rows) ends)

pub some_outside : (r : Rows) (spots : List Waiter) (spare : List ℕ) (used : ℕ) (s : Schedule) (p : ℕ) → schedule_of r spots spare used ≡ s → slice_get (row r 1) 0 ≡ Some p → 0 < length s.outside
some_outside r spots spare used s p view first =
    let at = first_of (row r 1) p first in
    let is : length s.outside ≡ length (map (λ q. (spot spots q).fork) (p ∷ at.0)) = ap (λ (t : Schedule). length t.outside) (sym view) ∙ ap (λ (ys : List ℕ). length (map (λ q. (spot spots q).fork) ys)) at.1 in
    omega arith

pub some_spare : (r : Rows) (spots : List Waiter) (spare : List ℕ) (used : ℕ) (s : Schedule) (k : ℕ) → schedule_of r spots spare used ≡ s → slice_get spare 0 ≡ Some k → 0 < length s.spare
some_spare r spots spare used s k view first =
    let at = first_of spare k first in
    let is : length s.spare ≡ length (k ∷ at.0) = ap (λ (t : Schedule). length t.spare) (sym view) ∙ ap length at.1 in
    omega arith
