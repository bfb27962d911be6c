-- A fork that stays is chosen in time.
use Rattle.std.proofs.Common.{◌≡◌, ℕ, zero, suc, ◌+◌, ◌*◌, ◌-◌, ◌<◌, ◌≤◌, ◌⊎◌, inl, inr, List, [], ◌∷◌, ◌++◌, length, map, filter, drop, Bool, true, false, not, ◌&&◌, ◌||◌, cond, if◌then◌else◌, nat_le, Some, slice_get, refl, sym, ◌∙◌, ap, subst, arith, add-zero}
use Rattle.std.specs.List.{list_any}
use Rattle.std.proofs.lemmas.List.{append_assoc, append-nil}
use Rattle.std.proofs.lemmas.Bool.{cases_eq}
use Rattle.std.proofs.lemmas.List.Elements.{filter-append}
use Rattle.machine_names.specs.declared.names.TheConstants.{QUANTUM}
use Rattle.machine_names.specs.declared.names.ForkName.{ForkName}
use Rattle.page_contracts.specs.declared.answers.Need.{Need}
use Rattle.machine_names.specs.Orders.{same_fork}
use Rattle.job_sched.specs.declared.member.Member.{Member}
use Rattle.job_sched.specs.declared.member.Waiter.{Waiter}
use Rattle.job_sched.specs.Schedules.{Schedule, is_member, is_ready, is_outside, member_of, seated, stands, admitted, first_seated, one_admitted, sent_out, quantum_ended, waited, arrived, left, heads, ends_wait}
use Rattle.job_sched.specs.Units.{unit_ran, IsTimed}
use Rattle.job_sched.specs.Lines.{ahead, line}
use Rattle.job_sched.specs.Turns.{Deed, Runs, Waits, Stops, Wakes, Admits, Arrives, Leaves, done, chooses, choices, is_chosen, StaysReady, StaysInLine}

-- whether a fork is one of these
abbrev pub is_among : ForkName → List ForkName → Bool
is_among f gs = list_any (same_fork f) gs

pub bool_cases : (b : Bool) → (b ≡ true) ⊎ (b ≡ false)
bool_cases true = inl refl
bool_cases false = inr refl

pub same_self : (f : ForkName) → same_fork f f ≡ true
same_self f = grind arith

pub same_sym : (f g : ForkName) → same_fork f g ≡ same_fork g f
same_sym f g = grind arith

pub same_name : (f g : ForkName) → same_fork f g ≡ true → f ≡ g
same_name f g same = grind arith

or_true : (a b : Bool) → (a || b) ≡ true → a ≡ false → b ≡ true
or_true true b e none = absurd cc
or_true false b e none = e

pub ahead_first : (f g : ForkName) (gs : List ForkName) → same_fork f g ≡ true → ahead f (g ∷ gs) ≡ 0
unfolding ahead
ahead_first f g gs same = ap (λ (b : Bool). if b then 0 else suc (ahead f gs)) same

pub ahead_behind : (f g : ForkName) (gs : List ForkName) → same_fork f g ≡ false → ahead f (g ∷ gs) ≡ suc (ahead f gs)
unfolding ahead
ahead_behind f g gs other = ap (λ (b : Bool). if b then 0 else suc (ahead f gs)) other

among_first : (f g : ForkName) (gs : List ForkName) → same_fork f g ≡ true → is_among f (g ∷ gs) ≡ true
among_first f g gs same = ap (λ (b : Bool). b || is_among f gs) same

pub among_behind : (f g : ForkName) (gs : List ForkName) → same_fork f g ≡ false → is_among f (g ∷ gs) ≡ is_among f gs
among_behind f g gs other = ap (λ (b : Bool). b || is_among f gs) other

-- what is put behind a fork changes nothing for it
pub ahead_append : (f : ForkName) (gs hs : List ForkName) → is_among f gs ≡ true → ahead f (gs ++ hs) ≡ ahead f gs
ahead_append f [] hs here = absurd cc
ahead_append f (g ∷ gs) hs here = elim (bool_cases (same_fork f g)) [
  | inl same ↦ ahead_first f g (gs ++ hs) same ∙ sym (ahead_first f g gs same)
  | inr other ↦
      ahead_behind f g (gs ++ hs) other
      ∙ ap suc (ahead_append f gs hs (or_true (same_fork f g) (is_among f gs) here other)) ∙ sym (ahead_behind f g gs other)
]

-- nor is it farther back where another fork is taken away
ahead_without : (f g : ForkName) (hs : List ForkName) → same_fork g f ≡ false → ahead f (filter (λ h. not (same_fork g h)) hs) ≤ ahead f hs
ahead_without f g [] apart = omega arith
ahead_without f g (h ∷ hs) apart = elim (bool_cases (same_fork f h)) [
  | inl same ↦
      let it : f ≡ h = same_name f h same in
      let stays : same_fork g h ≡ false = subst (λ (k : ForkName). same_fork g k ≡ false) it apart in
      let is : filter (λ h. not (same_fork g h)) (h ∷ hs) ≡ h ∷ filter (λ h. not (same_fork g h)) hs =
      ap (λ (b : Bool). cond (not b) (h ∷ filter (λ h. not (same_fork g h)) hs) (filter (λ h. not (same_fork g h)) hs)) stays in
      let none : ahead f (filter (λ h. not (same_fork g h)) (h ∷ hs)) ≡ 0 = ap (ahead f) is ∙ ahead_first f h (filter (λ h. not (same_fork g h)) hs) same in
      omega arith
  | inr other ↦ elim (bool_cases (same_fork g h)) [
    | inl gone ↦
        let is : filter (λ h. not (same_fork g h)) (h ∷ hs) ≡ filter (λ h. not (same_fork g h)) hs =
        ap (λ (b : Bool). cond (not b) (h ∷ filter (λ h. not (same_fork g h)) hs) (filter (λ h. not (same_fork g h)) hs)) gone in
        let less = ahead_without f g hs apart in
        let now : ahead f (filter (λ h. not (same_fork g h)) (h ∷ hs)) ≡ ahead f (filter (λ h. not (same_fork g h)) hs) = ap (ahead f) is in
        let was = ahead_behind f h hs other in
        omega arith
    | inr stays ↦
        let is : filter (λ h. not (same_fork g h)) (h ∷ hs) ≡ h ∷ filter (λ h. not (same_fork g h)) hs =
        ap (λ (b : Bool). cond (not b) (h ∷ filter (λ h. not (same_fork g h)) hs) (filter (λ h. not (same_fork g h)) hs)) stays in
        let less = ahead_without f g hs apart in
        let now : ahead f (filter (λ h. not (same_fork g h)) (h ∷ hs)) ≡ suc (ahead f (filter (λ h. not (same_fork g h)) hs)) =
        ap (ahead f) is ∙ ahead_behind f h (filter (λ h. not (same_fork g h)) hs) other in
        let was = ahead_behind f h hs other in
        omega arith
  ]
]

-- the forks of members, one taken away
map_without : (g : ForkName) (ms : List Member)
    → map (λ m. m.fork) (filter (λ m. not (is_member g m)) ms) ≡ filter (λ h. not (same_fork g h)) (map (λ m. m.fork) ms)
map_without g [] = refl
map_without g (m ∷ ms) = elim (bool_cases (same_fork g m.fork)) [
  | inl gone ↦
      ap (λ (b : Bool). map (λ m. m.fork) (cond (not b) (m ∷ filter (λ m. not (is_member g m)) ms) (filter (λ m. not (is_member g m)) ms))) gone
      ∙ map_without g ms
      ∙ sym (ap (λ (b : Bool). cond (not b) (m.fork ∷ filter (λ h. not (same_fork g h)) (map (λ m. m.fork) ms)) (filter (λ h. not (same_fork g h)) (map (λ m. m.fork) ms))) gone)
  | inr stays ↦
      ap (λ (b : Bool). map (λ m. m.fork) (cond (not b) (m ∷ filter (λ m. not (is_member g m)) ms) (filter (λ m. not (is_member g m)) ms))) stays
      ∙ ap (λ (hs : List ForkName). m.fork ∷ hs) (map_without g ms)
      ∙ sym (ap (λ (b : Bool). cond (not b) (m.fork ∷ filter (λ h. not (same_fork g h)) (map (λ m. m.fork) ms)) (filter (λ h. not (same_fork g h)) (map (λ m. m.fork) ms))) stays)
]

filter_append : (g : ForkName) (hs ks : List ForkName)
    → filter (λ h. not (same_fork g h)) (hs ++ ks) ≡ filter (λ h. not (same_fork g h)) hs ++ filter (λ h. not (same_fork g h)) ks
filter_append g hs ks = filter-append (λ h. not (same_fork g h)) hs ks

pub line_left : (s : Schedule) (g : ForkName) → line (left s g) ≡ filter (λ h. not (same_fork g h)) (line s)
line_left s g =
    ap (λ (hs : List ForkName). hs ++ filter (λ h. not (same_fork g h)) s.outside) (map_without g s.ready)
    ∙ sym (filter_append g (map (λ m. m.fork) s.ready) s.outside)

any_forks : (f : ForkName) (ms : List Member) → list_any (is_member f) ms ≡ is_among f (map (λ m. m.fork) ms)
any_forks f [] = refl
any_forks f (m ∷ ms) = ap (λ (b : Bool). same_fork f m.fork || b) (any_forks f ms)

pub any_append : (f : ForkName) (gs hs : List ForkName) → is_among f (gs ++ hs) ≡ (is_among f gs || is_among f hs)
any_append f [] hs = refl
any_append f (g ∷ gs) hs = grind (arith, any_append f gs hs)

pub in_line : (f : ForkName) (s : Schedule) → is_among f (line s) ≡ (is_ready f s || is_outside f s)
in_line f s =
    any_append f (map (λ m. m.fork) s.ready) s.outside
    ∙ ap (λ (b : Bool). b || is_outside f s) (sym (any_forks f s.ready))

map_fork_append : (ms ns : List Member) → map (λ m. m.fork) (ms ++ ns) ≡ map (λ m. m.fork) ms ++ map (λ m. m.fork) ns
map_fork_append [] ns = refl
map_fork_append (m ∷ ms) ns = ap (λ (fs : List ForkName). m.fork ∷ fs) (map_fork_append ms ns)

append_nil : (fs : List ForkName) → fs ++ [] ≡ fs
append_nil [] = refl
append_nil (f ∷ fs) = ap (λ (gs : List ForkName). f ∷ gs) (append_nil fs)

drop_none : (ks : List ℕ) → drop {A = ForkName} (length ks) [] ≡ []
drop_none [] = refl
drop_none (k ∷ ks) = refl

-- those that are seated go from the one list into the other
seated_line : (os : List ForkName) (ks : List ℕ) → map (λ m. m.fork) (seated os ks) ++ drop (length ks) os ≡ os
seated_line [] ks = drop_none ks
seated_line (o ∷ os) [] = refl
seated_line (o ∷ os) (k ∷ ks) = ap (λ (fs : List ForkName). o ∷ fs) (seated_line os ks)

pub line_admitted : (s : Schedule) → line (admitted s) ≡ line s
line_admitted s =
    ap (λ (fs : List ForkName). fs ++ drop (length s.spare) s.outside) (map_fork_append s.ready (seated s.outside s.spare))
    ∙ append_assoc (map (λ m. m.fork) s.ready) (map (λ m. m.fork) (seated s.outside s.spare)) (drop (length s.spare) s.outside)
    ∙ ap (λ (fs : List ForkName). map (λ m. m.fork) s.ready ++ fs) (seated_line s.outside s.spare)

-- a fork in line that is not the head stands one closer where the head goes
pub record Steps (f : ForkName) (s t : Schedule) (n : ℕ) : Type 0 where
  pub timed : IsTimed t
  pub less : (QUANTUM * ahead f (line t) - t.used) + n ≤ QUANTUM * ahead f (line s) - s.used

-- the line behind the head
pub tail_ahead : (f : ForkName) (m : Member) (ms : List Member) (os : List ForkName) → same_fork f m.fork ≡ false
    → is_among f (map (λ n. n.fork) (m ∷ ms) ++ os) ≡ true → is_among f (map (λ n. n.fork) ms ++ os) ≡ true
tail_ahead f m ms os other here = sym (among_behind f m.fork (map (λ n. n.fork) ms ++ os) other) ∙ here

-- a schedule by its parts
abbrev pub of : List Member → List ForkName → List Waiter → List ℕ → ℕ → Schedule
of ready outside waiting spare used = record { ready = ready; outside = outside; waiting = waiting; spare = spare; used = used }

-- so does the first of them
line_first : (os : List ForkName) (ks : List ℕ) (s : Schedule) → s.outside ≡ os → line (first_seated os ks s) ≡ line s
line_first [] ks s is = refl
line_first (o ∷ os) [] s is = refl
line_first (o ∷ os) (k ∷ ks) s is =
    ap (λ (fs : List ForkName). fs ++ os) (map_fork_append s.ready (record { fork = o; seat = k } ∷ []))
    ∙ append_assoc (map (λ m. m.fork) s.ready) (o ∷ []) os ∙ ap (λ (fs : List ForkName). map (λ m. m.fork) s.ready ++ fs) (sym is)

line_admitted_one : (s : Schedule) → line (one_admitted s) ≡ line s
line_admitted_one s = line_first s.outside s.spare s refl

-- the head goes behind all
pub line_turned : (m : Member) (ms : List Member) (os : List ForkName) (ws : List Waiter) (ks : List ℕ) (u : ℕ)
    → line (quantum_ended (of (m ∷ ms) os ws ks u)) ≡ (map (λ n. n.fork) ms ++ os) ++ m.fork ∷ []
line_turned m ms [] ws ks u =
    append_nil (map (λ n. n.fork) (ms ++ m ∷ [])) ∙ map_fork_append ms (m ∷ [])
    ∙ ap (λ (fs : List ForkName). fs ++ m.fork ∷ []) (sym (append_nil (map (λ n. n.fork) ms)))
line_turned m ms (o ∷ os) ws ks u =
    line_admitted_one (sent_out (m ∷ ms) (of (m ∷ ms) (o ∷ os) ws ks u))
    ∙ sym (append_assoc (map (λ n. n.fork) ms) (o ∷ os) (m.fork ∷ []))

pub used_turned : (m : Member) (ms : List Member) (os : List ForkName) (ws : List Waiter) (ks : List ℕ) (u : ℕ)
    → (quantum_ended (of (m ∷ ms) os ws ks u)).used ≡ 0
used_turned m ms [] ws ks u = refl
used_turned m ms (o ∷ os) ws [] u = refl
used_turned m ms (o ∷ os) ws (k ∷ ks) u = refl

pub below_test : (u : ℕ) → u < 199 → nat_le 200 (u + 1) ≡ false
below_test u small = grind arith

-- a unit of another fork
runs_step : (f : ForkName) (m : Member) (ms : List Member) (os : List ForkName) (ws : List Waiter) (ks : List ℕ) (u : ℕ) → u < 200
    → same_fork f m.fork ≡ false → is_among f (line (of (m ∷ ms) os ws ks u)) ≡ true
    → Steps f (of (m ∷ ms) os ws ks u) (unit_ran (m ∷ ms) (of (m ∷ ms) os ws ks u)) 1
runs_step f m ms os ws ks u small other here = elim (cases_eq u 199) [
  | inl last ↦
      let test : nat_le 200 (u + 1) ≡ true = ap (λ (n : ℕ). nat_le 200 (n + 1)) last in
      let is : unit_ran (m ∷ ms) (of (m ∷ ms) os ws ks u) ≡ quantum_ended (of (m ∷ ms) os ws ks u) =
      ap (λ (b : Bool). if b then quantum_ended (of (m ∷ ms) os ws ks u) else of (m ∷ ms) os ws ks (u + 1)) test in
      let rest = tail_ahead f m ms os other here in
      let now : ahead f (line (quantum_ended (of (m ∷ ms) os ws ks u))) ≡ ahead f (map (λ n. n.fork) ms ++ os) =
      ap (ahead f) (line_turned m ms os ws ks u) ∙ ahead_append f (map (λ n. n.fork) ms ++ os) (m.fork ∷ []) rest in
      let was : ahead f (line (of (m ∷ ms) os ws ks u)) ≡ suc (ahead f (map (λ n. n.fork) ms ++ os)) = ahead_behind f m.fork (map (λ n. n.fork) ms ++ os) other in
      let zero_used = used_turned m ms os ws ks u in
      subst (λ (t : Schedule). Steps f (of (m ∷ ms) os ws ks u) t 1) (sym is) (record { timed = omega arith; less = omega arith })
  | inr more ↦
      let low : u < 199 = omega arith in
      let is : unit_ran (m ∷ ms) (of (m ∷ ms) os ws ks u) ≡ of (m ∷ ms) os ws ks (u + 1) =
      ap (λ (b : Bool). if b then quantum_ended (of (m ∷ ms) os ws ks u) else of (m ∷ ms) os ws ks (u + 1)) (below_test u low) in
      let was : ahead f (line (of (m ∷ ms) os ws ks u)) ≡ suc (ahead f (map (λ n. n.fork) ms ++ os)) = ahead_behind f m.fork (map (λ n. n.fork) ms ++ os) other in
      subst (λ (t : Schedule). Steps f (of (m ∷ ms) os ws ks u) t 1) (sym is) (record { timed = omega arith; less = omega arith })
]

-- another fork waits
pub waits_step : (f : ForkName) (m : Member) (ms : List Member) (os : List ForkName) (ws : List Waiter) (ks : List ℕ) (u : ℕ) (need : Need) → u < 200
    → same_fork f m.fork ≡ false
    → Steps f (of (m ∷ ms) os ws ks u) (waited (of (m ∷ ms) os ws ks u) need) 1
waits_step f m ms os ws ks u need small other =
    let was : ahead f (line (of (m ∷ ms) os ws ks u)) ≡ suc (ahead f (map (λ n. n.fork) ms ++ os)) = ahead_behind f m.fork (map (λ n. n.fork) ms ++ os) other in
    record { timed = omega arith; less = omega arith }

-- another fork leaves from the head
pub head_left_step : (f g : ForkName) (m : Member) (ms : List Member) (os : List ForkName) (ws : List Waiter) (ks : List ℕ) (u : ℕ) → u < 200
    → same_fork g f ≡ false → same_fork g m.fork ≡ true → Steps f (of (m ∷ ms) os ws ks u) (left (of (m ∷ ms) os ws ks u) g) 1
head_left_step f g m ms os ws ks u small apart same =
    let it : g ≡ m.fork = same_name g m.fork same in
    let other : same_fork f m.fork ≡ false = same_sym f m.fork ∙ subst (λ (k : ForkName). same_fork k f ≡ false) it apart in
    let tail = map (λ n. n.fork) ms ++ os in
    let was : ahead f (line (of (m ∷ ms) os ws ks u)) ≡ suc (ahead f tail) = ahead_behind f m.fork tail other in
    let rest : filter (λ h. not (same_fork g h)) (m.fork ∷ tail) ≡ filter (λ h. not (same_fork g h)) tail =
    ap (λ (b : Bool). cond (not b) (m.fork ∷ filter (λ h. not (same_fork g h)) tail) (filter (λ h. not (same_fork g h)) tail)) same in
    let now : ahead f (line (left (of (m ∷ ms) os ws ks u) g)) ≡ ahead f (filter (λ h. not (same_fork g h)) tail) =
    ap (ahead f) (line_left (of (m ∷ ms) os ws ks u) g ∙ rest) in
    let less = ahead_without f g tail apart in
    let used : (left (of (m ∷ ms) os ws ks u) g).used ≡ 0 = ap (λ (b : Bool). if b then 0 else u) same in
    record { timed = omega arith; less = omega arith }

-- another fork leaves from elsewhere
left_step : (f g : ForkName) (s : Schedule) → IsTimed s → same_fork g f ≡ false → heads g s.ready ≡ false → Steps f s (left s g) 0
left_step f g s timed apart other =
    let now : ahead f (line (left s g)) ≡ ahead f (filter (λ h. not (same_fork g h)) (line s)) = ap (ahead f) (line_left s g) in
    let less = ahead_without f g (line s) apart in
    let used : (left s g).used ≡ s.used = ap (λ (b : Bool). if b then 0 else s.used) other in
    record { timed = omega arith; less = omega arith }

-- who has left stands in line no more
among_without : (f : ForkName) (gs : List ForkName) → is_among f (filter (λ h. not (same_fork f h)) gs) ≡ false
among_without f [] = refl
among_without f (g ∷ gs) = elim (bool_cases (same_fork f g)) [
  | inl same ↦
      ap (λ (b : Bool). is_among f (cond (not b) (g ∷ filter (λ h. not (same_fork f h)) gs) (filter (λ h. not (same_fork f h)) gs))) same
      ∙ among_without f gs
  | inr other ↦
      ap (λ (b : Bool). is_among f (cond (not b) (g ∷ filter (λ h. not (same_fork f h)) gs) (filter (λ h. not (same_fork f h)) gs))) other
      ∙ among_behind f g (filter (λ h. not (same_fork f h)) gs) other ∙ among_without f gs
]

weaker : (f : ForkName) (s t : Schedule) → Steps f s t 1 → Steps f s t 0
weaker f s t steps = let less = steps.less in record { timed = steps.timed; less = omega arith }

pub leaves_by : (f g : ForkName) (ready : List Member) (os : List ForkName) (ws : List Waiter) (ks : List ℕ) (u : ℕ) → u < 200
    → same_fork g f ≡ false → Steps f (of ready os ws ks u) (left (of ready os ws ks u) g) 0
leaves_by f g [] os ws ks u small apart = left_step f g (of [] os ws ks u) small apart refl
leaves_by f g (m ∷ ms) os ws ks u small apart = elim (bool_cases (same_fork g m.fork)) [
  | inl same ↦ weaker f _ _ (head_left_step f g m ms os ws ks u small apart same)
  | inr other ↦ left_step f g (of (m ∷ ms) os ws ks u) small apart other
]

leaves_step : (f g : ForkName) (ready : List Member) (os : List ForkName) (ws : List Waiter) (ks : List ℕ) (u : ℕ) → u < 200
    → is_among f (line (left (of ready os ws ks u) g)) ≡ true → Steps f (of ready os ws ks u) (left (of ready os ws ks u) g) 0
leaves_step f g ready os ws ks u small stays = elim (bool_cases (same_fork g f)) [
  | inl same ↦
      let it : g ≡ f = same_name g f same in
      let gone : is_among f (line (left (of ready os ws ks u) g)) ≡ false =
      ap (is_among f) (line_left (of ready os ws ks u) g) ∙ ap (λ (k : ForkName). is_among f (filter (λ h. not (same_fork k h)) (line (of ready os ws ks u)))) it
      ∙ among_without f (line (of ready os ws ks u)) in
      absurd (cc (gone, stays))
  | inr apart ↦ leaves_by f g ready os ws ks u small apart
]

pub wakes_by : (f g : ForkName) (s : Schedule) (b : Bool) → IsTimed s → is_among f (line s) ≡ true
    → Steps f s (if b then s else (record s { outside = s.outside ++ g ∷ [] })) 0
wakes_by f g s true timed here = record { timed = timed; less = omega arith }
wakes_by f g s false timed here =
    let is : ahead f (map (λ m. m.fork) s.ready ++ (s.outside ++ g ∷ [])) ≡ ahead f (line s) =
    ap (ahead f) (sym (append_assoc (map (λ m. m.fork) s.ready) s.outside (g ∷ []))) ∙ ahead_append f (line s) (g ∷ []) here in
    record { timed = timed; less = omega arith }

pub arrives_step : (f : ForkName) (s : Schedule) (done : Need) → IsTimed s → ((is_ready f s ≡ true) ⊎ (s.waiting ≡ [])) → Steps f s (arrived s done) 0
arrives_step f s done timed (inl ready) =
    let here : is_among f (map (λ m. m.fork) s.ready) ≡ true = sym (any_forks f s.ready) ∙ ready in
    let woken = map member_of (filter (λ w. ends_wait done w.need) s.waiting) in
    let now : ahead f (line (arrived s done)) ≡ ahead f (map (λ m. m.fork) s.ready) =
    ap (λ (fs : List ForkName). ahead f (fs ++ s.outside)) (map_fork_append s.ready woken)
    ∙ ap (ahead f) (append_assoc (map (λ m. m.fork) s.ready) (map (λ m. m.fork) woken) s.outside)
    ∙ ahead_append f (map (λ m. m.fork) s.ready) (map (λ m. m.fork) woken ++ s.outside) here in
    let was : ahead f (line s) ≡ ahead f (map (λ m. m.fork) s.ready) = ahead_append f (map (λ m. m.fork) s.ready) s.outside here in
    record { timed = timed; less = omega arith }
arrives_step f s done timed (inr none) =
    let now : line (arrived s done) ≡ line s =
    ap (λ (ws : List Waiter). map (λ m. m.fork) (s.ready ++ map member_of (filter (λ w. ends_wait done w.need) ws)) ++ s.outside) none
    ∙ ap (λ (ms : List Member). map (λ m. m.fork) ms ++ s.outside) (append-nil s.ready) in
    let same = ap (ahead f) now in
    record { timed = timed; less = omega arith }

pub admits_step : (f : ForkName) (s : Schedule) → IsTimed s → Steps f s (admitted s) 0
admits_step f s timed = let same = ap (ahead f) (line_admitted s) in record { timed = timed; less = omega arith }

nothing_step : (f : ForkName) (s : Schedule) → IsTimed s → Steps f s s 0
nothing_step f s timed = record { timed = timed; less = omega arith }

-- a deed for which a fork in line isn't chosen brings it closer
step : (f : ForkName) (ready : List Member) (os : List ForkName) (ws : List Waiter) (ks : List ℕ) (u : ℕ) (d : Deed) → u < 200
    → is_among f (line (of ready os ws ks u)) ≡ true
    → ((is_ready f (of ready os ws ks u) ≡ true) ⊎ (ws ≡ []))
    → is_among f (line (done (of ready os ws ks u) d)) ≡ true
    → (chooses (of ready os ws ks u) d && heads f ready) ≡ false
    → Steps f (of ready os ws ks u) (done (of ready os ws ks u) d) (if chooses (of ready os ws ks u) d then 1 else 0)
step f [] os ws ks u Runs small here how stays other = nothing_step f (of [] os ws ks u) small
step f (m ∷ ms) os ws ks u Runs small here how stays other = runs_step f m ms os ws ks u small other here
step f [] os ws ks u (Waits need) small here how stays other = nothing_step f (of [] os ws ks u) small
step f (m ∷ ms) os ws ks u (Waits need) small here how stays other = waits_step f m ms os ws ks u need small other
step f [] os ws ks u Stops small here how stays other = nothing_step f (of [] os ws ks u) small
step f (m ∷ ms) os ws ks u Stops small here how stays other = head_left_step f m.fork m ms os ws ks u small (same_sym m.fork f ∙ other) (same_self m.fork)
step f ready os ws ks u (Wakes g) small here how stays other = wakes_by f g (of ready os ws ks u) (stands g (of ready os ws ks u)) small here
step f ready os ws ks u Admits small here how stays other = admits_step f (of ready os ws ks u) small
step f ready os ws ks u (Arrives need) small here how stays other = arrives_step f (of ready os ws ks u) need small how
step f ready os ws ks u (Leaves g) small here how stays other = leaves_step f g ready os ws ks u small stays

-- where nobody stands before a fork in line, it is chosen
pub none_ahead : (f : ForkName) (m : Member) (fs : List ForkName) (u : ℕ) → u < 200 → QUANTUM * ahead f (m.fork ∷ fs) - u < 1 → same_fork f m.fork ≡ true
none_ahead f m fs u small due = elim (bool_cases (same_fork f m.fork)) [
  | inl same ↦ same
  | inr other ↦ let more = ahead_behind f m.fork fs other in absurd (omega arith)
]

due_chosen : (f : ForkName) (ready : List Member) (os : List ForkName) (ws : List Waiter) (ks : List ℕ) (u : ℕ) (d : Deed) → u < 200
    → chooses (of ready os ws ks u) d ≡ true → QUANTUM * ahead f (line (of ready os ws ks u)) - u < 1 → (chooses (of ready os ws ks u) d && heads f ready) ≡ true
due_chosen f (m ∷ ms) os ws ks u Runs small chosen due = none_ahead f m (map (λ n. n.fork) ms ++ os) u small due
due_chosen f (m ∷ ms) os ws ks u (Waits need) small chosen due = none_ahead f m (map (λ n. n.fork) ms ++ os) u small due
due_chosen f (m ∷ ms) os ws ks u Stops small chosen due = none_ahead f m (map (λ n. n.fork) ms ++ os) u small due
due_chosen f [] os ws ks u Runs small chosen due = absurd cc
due_chosen f [] os ws ks u (Waits need) small chosen due = absurd cc
due_chosen f [] os ws ks u Stops small chosen due = absurd cc
due_chosen f ready os ws ks u (Wakes g) small chosen due = absurd cc
due_chosen f ready os ws ks u Admits small chosen due = absurd cc
due_chosen f ready os ws ks u (Arrives need) small chosen due = absurd cc
due_chosen f ready os ws ks u (Leaves g) small chosen due = absurd cc

-- where a fork in line stands right before the choice, it is chosen
due_head : (f : ForkName) (ready : List Member) (os : List ForkName) (ws : List Waiter) (ks : List ℕ) (u : ℕ) (d : Deed) → u < 200
    → QUANTUM * ahead f (line (of ready os ws ks u)) - u < (if chooses (of ready os ws ks u) d then 1 else 0)
    → (chooses (of ready os ws ks u) d && heads f ready) ≡ true
due_head f ready os ws ks u d small due = elim (bool_cases (chooses (of ready os ws ks u) d)) [
  | inl so ↦ due_chosen f ready os ws ks u d small so (subst (λ (b : Bool). QUANTUM * ahead f (line (of ready os ws ks u)) - u < (if b then 1 else 0)) so due)
  | inr un ↦
      let none = subst (λ (b : Bool). QUANTUM * ahead f (line (of ready os ws ks u)) - u < (if b then 1 else 0)) un due in
      absurd (omega arith)
]

abbrev Stays : ForkName → Schedule → List Deed → Type 0
Stays f s [] = Unit {0}
Stays f s (d ∷ ds) = (is_among f (line s) ≡ true) × ((is_ready f s ≡ true) ⊎ (s.waiting ≡ [])) × Stays f (done s d) ds

or_right : (a b : Bool) → b ≡ true → (a || b) ≡ true
or_right true b e = refl
or_right false b e = e

or_left : (a b : Bool) → a ≡ true → (a || b) ≡ true
or_left true b e = refl
or_left false b e = absurd cc

still : (f : ForkName) (s : Schedule) (d e : Deed) (ds : List Deed) → Stays f s (d ∷ e ∷ ds) → is_among f (line (done s d)) ≡ true
still f s d e ds stays = stays.2.0

chosen_when_due : (f : ForkName) (ds : List Deed) (s : Schedule) → IsTimed s → Stays f s ds → QUANTUM * ahead f (line s) - s.used < choices s ds → is_chosen f s ds ≡ true
chosen_when_due f [] s timed stays due = absurd (omega arith)
chosen_when_due f (d ∷ []) s timed stays due =
    or_left (chooses s d && heads f s.ready) false (due_head f s.ready s.outside s.waiting s.spare s.used d timed (subst (λ (n : ℕ). QUANTUM * ahead f (line s) - s.used < n) (add-zero (if chooses s d then 1 else 0)) due))
chosen_when_due f (d ∷ e ∷ ds) s timed stays due = elim (bool_cases (chooses s d && heads f s.ready)) [
  | inl so ↦ or_left (chooses s d && heads f s.ready) (is_chosen f (done s d) (e ∷ ds)) so
  | inr un ↦
      let steps = step f s.ready s.outside s.waiting s.spare s.used d timed stays.0 stays.1 stays.2.0 un in
      let less = steps.less in
      or_right (chooses s d && heads f s.ready) (is_chosen f (done s d) (e ∷ ds))
      (chosen_when_due f (e ∷ ds) (done s d) steps.timed stays.2 (omega arith))
]

-- a fork at a place has no more before it
pub ahead_at : (f : ForkName) (fs : List ForkName) (p : ℕ) → slice_get fs p ≡ Some f → ahead f fs ≤ p
ahead_at f [] p is = absurd cc
ahead_at f (g ∷ gs) zero is =
    let it : g ≡ f = cc is in
    let none = ahead_first f g gs (subst (λ (k : ForkName). same_fork f k ≡ true) (sym it) (same_self f)) in
    omega arith
ahead_at f (g ∷ gs) (suc p) is = elim (bool_cases (same_fork f g)) [
  | inl same ↦ let none = ahead_first f g gs same in omega arith
  | inr other ↦ let more = ahead_behind f g gs other in let less = ahead_at f gs p is in omega arith
]

ready_stays : (f : ForkName) (s : Schedule) (ds : List Deed) → StaysReady f s ds → Stays f s ds
ready_stays f s [] stays = tt
ready_stays f s (d ∷ ds) stays = (in_line f s ∙ or_left (is_ready f s) (is_outside f s) stays.0, inl stays.0, ready_stays f (done s d) ds stays.1)

line_stays : (f : ForkName) (s : Schedule) (ds : List Deed) → StaysInLine f s ds → Stays f s ds
line_stays f s [] stays = tt
line_stays f s (d ∷ ds) stays = (in_line f s ∙ stays.0, inr stays.1, line_stays f (done s d) ds stays.2)

-- a fork that is chosen in no deed of a list that is empty
first_ready : (f : ForkName) (s : Schedule) (ds : List Deed) (p : ℕ) → StaysReady f s ds → QUANTUM * (p + 1) ≤ choices s ds → is_ready f s ≡ true
first_ready f s [] p stays due = absurd (omega arith)
first_ready f s (d ∷ ds) p stays due = stays.0

pub ready_chosen : (f : ForkName) (p : ℕ) (s : Schedule) (ds : List Deed) → IsTimed s → slice_get (map (λ m. m.fork) s.ready) p ≡ Some f
    → StaysReady f s ds → QUANTUM * (p + 1) ≤ choices s ds → is_chosen f s ds ≡ true
ready_chosen f p s ds timed at stays due =
    let here : is_among f (map (λ m. m.fork) s.ready) ≡ true = sym (any_forks f s.ready) ∙ first_ready f s ds p stays due in
    let before = ahead_at f (map (λ m. m.fork) s.ready) p at in
    let was : ahead f (line s) ≡ ahead f (map (λ m. m.fork) s.ready) = ahead_append f (map (λ m. m.fork) s.ready) s.outside here in
    chosen_when_due f ds s timed (ready_stays f s ds stays) (omega arith)

pub line_chosen : (f : ForkName) (p : ℕ) (s : Schedule) (ds : List Deed) → IsTimed s → slice_get (line s) p ≡ Some f
    → StaysInLine f s ds → QUANTUM * (p + 1) ≤ choices s ds → is_chosen f s ds ≡ true
line_chosen f p s ds timed at stays due =
    let before = ahead_at f (line s) p at in
    chosen_when_due f ds s timed (line_stays f s ds stays) (omega arith)
