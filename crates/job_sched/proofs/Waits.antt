-- Waits by the numbers of members.
use Rattle.std.proofs.Common.{◌≡◌, ℕ, suc, ◌+◌, ◌==◌, List, length, length-append, [], ◌∷◌, ◌++◌, map, filter, drop, Bool, true, false, not, ◌||◌, cond, None, Some, refl, sym, ◌∙◌, ap, subst, arith}
use Rattle.std.specs.List.{find}
use Rattle.std.specs.Option.{option_map}
use Rattle.std.proofs.lemmas.Bool.Decides.{nat_tests}
use Rattle.std.proofs.lemmas.List.{map-append}
use Rattle.frame_order.specs.FrameOrder.{IsOnce, stands_in}
use Rattle.frame_order.proofs.Orders.{not_first, not_behind}
use Rattle.machine_names.specs.declared.names.ForkName.{ForkName}
use Rattle.machine_names.specs.Orders.{same_fork}
use Rattle.page_contracts.specs.declared.answers.Need.{Need}
use Rattle.job_sched.specs.declared.member.Member.{Member}
use Rattle.job_sched.specs.declared.member.Waiter.{Waiter}
use Rattle.job_sched.specs.Schedules.{Schedule, admitted, arrived, ends_wait, is_member, is_waiter, left, member_of, members, put_to_wait, quantum_ended, seated, seats_of, size, stands, started, stopped, wait_in, waited, waits_in, woken}
use Rattle.job_sched.specs.Units.{row_ran}
use Rattle.job_sched.proofs.Turns.{of}
use Rattle.job_sched.proofs.Units.{rows_keep}
use Rattle.job_sched.specs.Ties.{WaitsLess}

abbrev numbers : List Waiter → List ℕ
numbers ws = map (λ w. w.seat) ws

self_test : (k : ℕ) → (k == k) ≡ true
self_test k = grind (arith, nat_tests)

-- nobody waits under a number that none has
pub none_waits : (k : ℕ) (ws : List Waiter) → stands_in k (numbers ws) ≡ false → find (waits_in k) ws ≡ None
none_waits k [] absent = refl
none_waits k (w ∷ ws) absent =
    let other = not_first k w.seat (numbers ws) absent in
    let test : (k == w.seat) ≡ false = grind (arith, nat_tests, other) in
    ap (λ b. cond b (Some w) (find (waits_in k) ws)) test ∙ none_waits k ws (not_behind k w.seat (numbers ws) absent)

pub absent_filter : (p : Waiter → Bool) (k : ℕ) (ws : List Waiter) → stands_in k (numbers ws) ≡ false → stands_in k (numbers (filter p ws)) ≡ false
absent_filter p k [] absent = refl
absent_filter p k (w ∷ ws) absent = by (absent_filter p k ws (not_behind k w.seat (numbers ws) absent)) (p w)
  where
    by : stands_in k (numbers (filter p ws)) ≡ false → (b : Bool) → stands_in k (numbers (cond b (w ∷ filter p ws) (filter p ws))) ≡ false
    by rest true =
        let other = not_first k w.seat (numbers ws) absent in
        let test : (k == w.seat) ≡ false = grind (arith, nat_tests, other) in
        ap (λ b. b || stands_in k (numbers (filter p ws))) test ∙ rest
    by rest false = rest

-- who waits is found alike among some of those
pub less_filter : (p : Waiter → Bool) (ws : List Waiter) → WaitsLess ws (filter p ws)
less_filter p [] once = (tt, λ k n is. is)
less_filter p (w ∷ ws) once = by (less_filter p ws once.1) (p w)
  where
    by : IsOnce (numbers (filter p ws)) × ((k : ℕ) (n : Need) → wait_in (filter p ws) k ≡ Some n → wait_in ws k ≡ Some n) → (b : Bool) → IsOnce (numbers (cond b (w ∷ filter p ws) (filter p ws)))
        × ((k : ℕ) (n : Need) → wait_in (cond b (w ∷ filter p ws) (filter p ws)) k ≡ Some n → wait_in (w ∷ ws) k ≡ Some n)
    by rest true = ((absent_filter p w.seat ws once.0, rest.0), λ k n. own k n (k == w.seat))
      where
        own : (k : ℕ) (n : Need) (b : Bool) → option_map (λ (v : Waiter). v.need) (cond b (Some w) (find (waits_in k) (filter p ws))) ≡ Some n
            → option_map (λ (v : Waiter). v.need) (cond b (Some w) (find (waits_in k) ws)) ≡ Some n
        own k n true found = found
        own k n false found = rest.1 k n found
    by rest false = (rest.0, λ k n found. own k n found (k == w.seat) refl)
      where
        own : (k : ℕ) (n : Need) → wait_in (filter p ws) k ≡ Some n → (b : Bool) → (k == w.seat) ≡ b → option_map (λ (v : Waiter). v.need) (cond b (Some w) (find (waits_in k) ws)) ≡ Some n
        own k n found true same =
            let at : k ≡ w.seat = grind (arith, nat_tests, same) in
            let gone : stands_in k (numbers ws) ≡ false = subst (λ j. stands_in j (numbers ws) ≡ false) (sym at) once.0 in
            let none : None ≡ Some n = sym (ap (option_map (λ (v : Waiter). v.need)) (none_waits k ws gone)) ∙ rest.1 k n found in
            absurd (cc none)
        own k n found false other = rest.1 k n found

pub less_same : (ws : List Waiter) → WaitsLess ws ws
less_same ws once = (once, λ k n is. is)

-- where nobody waited, nobody does
pub less_none : (ws : List Waiter) → WaitsLess [] ws → ws ≡ []
less_none [] less = refl
less_none (w ∷ ws) less =
    let here : wait_in (w ∷ ws) w.seat ≡ Some w.need = ap (λ b. option_map (λ (v : Waiter). v.need) (cond b (Some w) (find (waits_in w.seat) ws))) (self_test w.seat) in
    let none : None ≡ Some w.need = (less tt).1 w.seat w.need here in
    absurd (cc none)

pub less_then : (xs ys zs : List Waiter) → WaitsLess xs ys → WaitsLess ys zs → WaitsLess xs zs
less_then xs ys zs f g once = let x = f once in let y = g x.0 in (y.0, λ k n is. x.1 k n (y.1 k n is))

-- the numbers of those in page wait are apart, and apart from those of the ready ones
pub waiting_numbers : (ws : List Waiter) → map (λ (m : Member). m.seat) (map member_of ws) ≡ numbers ws
waiting_numbers [] = refl
waiting_numbers (w ∷ ws) = ap (λ ks. w.seat ∷ ks) (waiting_numbers ws)

pub once_rest : (xs ys : List ℕ) → IsOnce (xs ++ ys) → IsOnce ys
once_rest [] ys once = once
once_rest (x ∷ xs) ys once = once_rest xs ys once.1

pub seats_are : (s : Schedule) → seats_of s ≡ map (λ (m : Member). m.seat) s.ready ++ numbers s.waiting
seats_are s = map-append (λ (m : Member). m.seat) s.ready (map member_of s.waiting) ∙ ap (λ ks. map (λ (m : Member). m.seat) s.ready ++ ks) (waiting_numbers s.waiting)

pub waiting_once : (s : Schedule) → IsOnce (seats_of s) → IsOnce (numbers s.waiting)
waiting_once s once = once_rest (map (λ (m : Member). m.seat) s.ready) (numbers s.waiting) (subst IsOnce (seats_are s) once)

-- as many members and numbers as before
pub size_waited : (s : Schedule) (need : Need) → size (waited s need) ≡ size s
size_waited s need = by s.ready refl
  where
    by : (ms : List Member) → s.ready ≡ ms → size (put_to_wait ms need s) ≡ size s
    by [] e = refl
    by (m ∷ ms) e =
        let ready : length s.ready ≡ suc (length ms) = ap length e in
        let longer = length-append s.waiting (record { fork = m.fork; seat = m.seat; need = need } ∷ []) in
        omega (arith, ready, longer)

split_length : (p : Waiter → Bool) (ws : List Waiter) → length (map member_of (filter p ws)) + length (filter (λ w. not (p w)) ws) ≡ length ws
split_length p [] = refl
split_length p (w ∷ ws) = by (split_length p ws) (p w)
  where
    by : length (map member_of (filter p ws)) + length (filter (λ v. not (p v)) ws) ≡ length ws → (b : Bool) → length (map member_of (cond b (w ∷ filter p ws) (filter p ws))) + length (cond (not b) (w ∷ filter (λ v. not (p v)) ws) (filter (λ v. not (p v)) ws)) ≡ suc (length ws)
    by rest true = omega (arith, rest)
    by rest false = omega (arith, rest)

pub size_arrived : (s : Schedule) (done : Need) → size (arrived s done) ≡ size s
size_arrived s done =
    omega (arith, length-append s.ready (map member_of (filter (λ w. ends_wait done w.need) s.waiting)), split_length (λ w. ends_wait done w.need) s.waiting)

size_turned : (m : Member) (ms : List Member) (os : List ForkName) (ws : List Waiter) (ks : List ℕ) (u : ℕ) → size (quantum_ended (of (m ∷ ms) os ws ks u)) ≡ size (of (m ∷ ms) os ws ks u)
size_turned m ms [] ws ks u = omega (arith, length-append ms (m ∷ []))
size_turned m ms (o ∷ os) ws [] u = omega (arith, length-append ms (record { fork = o; seat = m.seat } ∷ []))
size_turned m ms (o ∷ os) ws (k ∷ ks) u = omega (arith, length-append ms (record { fork = o; seat = k } ∷ []), length-append ks (m.seat ∷ []))

pub size_ran : (n : ℕ) (s : Schedule) → size (row_ran n s) ≡ size s
size_ran n s = rows_keep (λ (v : Schedule). size v ≡ size s) (λ v u same. same) (λ m ms os ws ks u same. size_turned m ms os ws ks u ∙ same) n s refl

taken_length : (os : List ForkName) (ks : List ℕ) → length (seated os ks) + length (drop (length os) ks) ≡ length ks
taken_length [] ks = omega arith
taken_length (o ∷ os) [] = omega arith
taken_length (o ∷ os) (k ∷ ks) = omega (arith, taken_length os ks)

pub size_admitted : (s : Schedule) → size (admitted s) ≡ size s
size_admitted s = omega (arith, length-append s.ready (seated s.outside s.spare), taken_length s.outside s.spare)

parts_length : {A : Type 0} (p : A → Bool) (xs : List A) → length (filter (λ x. not (p x)) xs) + length (filter p xs) ≡ length xs
parts_length p [] = refl
parts_length p (x ∷ xs) = by (parts_length p xs) (p x)
  where
    by : length (filter (λ y. not (p y)) xs) + length (filter p xs) ≡ length xs → (b : Bool)
        → length (cond (not b) (x ∷ filter (λ y. not (p y)) xs) (filter (λ y. not (p y)) xs)) + length (cond b (x ∷ filter p xs) (filter p xs)) ≡ suc (length xs)
    by rest true = omega (arith, rest)
    by rest false = omega (arith, rest)

waiters_length : (f : ForkName) (ws : List Waiter) → length (filter (is_member f) (map member_of ws)) ≡ length (filter (is_waiter f) ws)
waiters_length f [] = refl
waiters_length f (w ∷ ws) = by (waiters_length f ws) (same_fork f w.fork)
  where
    by : length (filter (is_member f) (map member_of ws)) ≡ length (filter (is_waiter f) ws) → (b : Bool)
        → length (cond b (member_of w ∷ filter (is_member f) (map member_of ws)) (filter (is_member f) (map member_of ws))) ≡ length (cond b (w ∷ filter (is_waiter f) ws) (filter (is_waiter f) ws))
    by rest true = ap suc rest
    by rest false = rest

members_length : (f : ForkName) (xs ys : List Member) → length (filter (is_member f) (xs ++ ys)) ≡ length (filter (is_member f) xs) + length (filter (is_member f) ys)
members_length f [] ys = omega arith
members_length f (x ∷ xs) ys = by (members_length f xs ys) (is_member f x)
  where
    by : length (filter (is_member f) (xs ++ ys)) ≡ length (filter (is_member f) xs) + length (filter (is_member f) ys) → (b : Bool)
        → length (cond b (x ∷ filter (is_member f) (xs ++ ys)) (filter (is_member f) (xs ++ ys))) ≡ length (cond b (x ∷ filter (is_member f) xs) (filter (is_member f) xs)) + length (filter (is_member f) ys)
    by rest true = omega (arith, rest)
    by rest false = rest

numbers_length : (ms : List Member) → length (map (λ (m : Member). m.seat) ms) ≡ length ms
numbers_length [] = refl
numbers_length (m ∷ ms) = ap suc (numbers_length ms)

pub size_left : (s : Schedule) (f : ForkName) → size (left s f) ≡ size s
size_left s f =
    omega (
      arith,
      parts_length (is_member f) s.ready,
      parts_length (is_waiter f) s.waiting,
      length-append s.spare (map (λ (m : Member). m.seat) (filter (is_member f) (members s))),
      numbers_length (filter (is_member f) (members s)),
      members_length f s.ready (map member_of s.waiting),
      waiters_length f s.waiting,
    )

pub size_stopped : (s : Schedule) (f : ForkName) → size (stopped s f) ≡ size s
size_stopped s f = size_admitted (left s f) ∙ size_left s f

pub size_started : (s : Schedule) (f : ForkName) → size (started s f) ≡ size s
size_started s f = size_admitted (woken s f) ∙ by (stands f s)
  where
    by : (b : Bool) → size (cond b s (record s { outside = s.outside ++ f ∷ [] })) ≡ size s
    by true = refl
    by false = refl
