-- A fork in line comes closer.
use Rattle.std.proofs.Common.{◌≡◌, ℕ, suc, ◌+◌, ◌*◌, ◌-◌, ◌<◌, ◌≤◌, ◌↔◌, inl, inr, List, [], ◌∷◌, ◌++◌, length, map, Bool, true, false, not, ◌&&◌, ◌||◌, Some, slice_get, refl, sym, ◌∙◌, ap, subst, arith, length-append}
use Rattle.std.proofs.lemmas.Bool.{cases_eq}
use Rattle.machine_names.specs.declared.names.ForkName.{ForkName}
use Rattle.machine_names.specs.declared.names.TheConstants.{TERMINALS, MOST_FORKS, QUANTUM}
use Rattle.machine_names.specs.Orders.{same_fork}
use Rattle.page_contracts.specs.declared.answers.Need.{Need}
use Rattle.job_sched.specs.declared.member.Member.{Member}
use Rattle.job_sched.specs.declared.member.Waiter.{Waiter}
use Rattle.job_sched.specs.Schedules.{Schedule, stands, heads, admitted, woken, left, waited, arrived, started, stopped, quantum_ended}
use Rattle.job_sched.specs.Units.{IsTimed, IsRow, row_ran}
use Rattle.job_sched.specs.Lines.{ahead, ahead_of, is_in_line, line, Nears}
use Rattle.job_sched.specs.Ties.{IsSound}
use Rattle.job_sched.proofs.Turns.{is_among, in_line, any_append, of, Steps, ahead_first, ahead_behind, ahead_append, ahead_at, among_behind, tail_ahead, line_turned, line_left, line_admitted, used_turned, waits_step, wakes_by, admits_step, leaves_by, head_left_step, arrives_step, none_ahead, bool_cases}
use Rattle.job_sched.proofs.Ties.{among_others, line_arrived, line_woken}
use Rattle.job_sched.proofs.Units.{row_within, row_to_end}

-- one that was in line and came closer still is
nears : (f : ForkName) (s t : Schedule) (n : ℕ) → Steps f s t n → is_among f (line t) ≡ true → Nears f s t n
nears f s t n steps here = record { timed = steps.timed; here = sym (in_line f t) ∙ here; nearer = steps.less }

pub begins : (f : ForkName) (s : Schedule) → IsTimed s → is_in_line f s ≡ true → Nears f s s 0
begins f s timed here = record { timed = timed; here = here; nearer = omega arith }

pub joins : (f : ForkName) (s t u : Schedule) (n m : ℕ) → Nears f s t n → Nears f t u m → Nears f s u (n + m)
joins f s t u n m first then =
    let a = first.nearer in
    let b = then.nearer in
    record { timed = then.timed; here = then.here; nearer = omega arith }

-- where the head is alone, nobody else is in line
alone_heads : (f : ForkName) (ready : List Member) (os : List ForkName) → length ready ≡ 1 → os ≡ [] → is_among f (map (λ m. m.fork) ready ++ os) ≡ true → heads f ready ≡ false → ⊥
alone_heads f [] os one none here other = absurd (omega arith)
alone_heads f (m ∷ []) os one none here other =
    let no : is_among f (m.fork ∷ os) ≡ is_among f os = among_behind f m.fork os other in
    let nobody : is_among f os ≡ false = ap (is_among f) none in
    cc (no, nobody, here)
alone_heads f (m ∷ k ∷ ms) os one none here other = absurd (omega arith)

-- units of the head with which its quantum isn't used
low_nears : (f : ForkName) (n : ℕ) (m : Member) (ms : List Member) (os : List ForkName) (ws : List Waiter) (ks : List ℕ) (u : ℕ)
    → u + n < 200 → same_fork f m.fork ≡ false → Steps f (of (m ∷ ms) os ws ks u) (of (m ∷ ms) os ws ks (u + n)) n
low_nears f n m ms os ws ks u small other =
    let was : ahead f (line (of (m ∷ ms) os ws ks u)) ≡ suc (ahead f (map (λ n. n.fork) ms ++ os)) = ahead_behind f m.fork (map (λ n. n.fork) ms ++ os) other in
    record { timed = omega arith; less = omega arith }

-- its quantum ends
end_nears : (f : ForkName) (n : ℕ) (m : Member) (ms : List Member) (os : List ForkName) (ws : List Waiter) (ks : List ℕ) (u : ℕ)
    → u + n ≡ 200 → same_fork f m.fork ≡ false → is_among f (line (of (m ∷ ms) os ws ks u)) ≡ true
    → Steps f (of (m ∷ ms) os ws ks u) (quantum_ended (of (m ∷ ms) os ws ks u)) n
end_nears f n m ms os ws ks u all other here =
    let rest = tail_ahead f m ms os other here in
    let now : ahead f (line (quantum_ended (of (m ∷ ms) os ws ks u))) ≡ ahead f (map (λ n. n.fork) ms ++ os) =
    ap (ahead f) (line_turned m ms os ws ks u) ∙ ahead_append f (map (λ n. n.fork) ms ++ os) (m.fork ∷ []) rest in
    let was : ahead f (line (of (m ∷ ms) os ws ks u)) ≡ suc (ahead f (map (λ n. n.fork) ms ++ os)) = ahead_behind f m.fork (map (λ n. n.fork) ms ++ os) other in
    let zero_used = used_turned m ms os ws ks u in
    record { timed = omega arith; less = omega arith }

or_left : (a b : Bool) → a ≡ true → (a || b) ≡ true
or_left true b e = refl
or_left false b e = absurd cc

-- who was in line behind the head still is once it has gone behind
end_here : (f : ForkName) (m : Member) (ms : List Member) (os : List ForkName) (ws : List Waiter) (ks : List ℕ) (u : ℕ)
    → same_fork f m.fork ≡ false → is_among f (line (of (m ∷ ms) os ws ks u)) ≡ true → is_among f (line (quantum_ended (of (m ∷ ms) os ws ks u))) ≡ true
end_here f m ms os ws ks u other here =
    ap (is_among f) (line_turned m ms os ws ks u) ∙ any_append f (map (λ n. n.fork) ms ++ os) (m.fork ∷ [])
    ∙ or_left (is_among f (map (λ n. n.fork) ms ++ os)) (is_among f (m.fork ∷ [])) (tail_ahead f m ms os other here)

end_step : (f : ForkName) (n : ℕ) (ready : List Member) (os : List ForkName) (ws : List Waiter) (ks : List ℕ) (u : ℕ) → 0 < length ready
    → u + n ≡ 200 → heads f ready ≡ false → is_among f (line (of ready os ws ks u)) ≡ true → Nears f (of ready os ws ks u) (quantum_ended (of ready os ws ks u)) n
end_step f n [] os ws ks u some all other here = absurd (omega arith)
end_step f n (m ∷ ms) os ws ks u some all other here =
    nears f _ _ n (end_nears f n m ms os ws ks u all other here) (end_here f m ms os ws ks u other here)

low_step : (f : ForkName) (n : ℕ) (ready : List Member) (os : List ForkName) (ws : List Waiter) (ks : List ℕ) (u : ℕ) → 0 < length ready
    → u + n < 200 → heads f ready ≡ false → is_among f (line (of ready os ws ks u)) ≡ true → Nears f (of ready os ws ks u) (of ready os ws ks (u + n)) n
low_step f n [] os ws ks u some small other here = absurd (omega arith)
low_step f n (m ∷ ms) os ws ks u some small other here = nears f _ _ n (low_nears f n m ms os ws ks u small other) here

pub rows : (f : ForkName) (s : Schedule) (n : ℕ) → IsTimed s → is_in_line f s ≡ true → heads f s.ready ≡ false → IsRow n s → Nears f s (row_ran n s) n
rows f s n timed here other is = elim is.within [
  | inl alone ↦ absurd (alone_heads f s.ready s.outside alone.0 alone.1 (in_line f s ∙ here) other)
  | inr within ↦ elim (cases_eq (s.used + n) 200) [
    | inl all ↦
        subst (λ (t : Schedule). Nears f s t n) (sym (row_to_end n s is.head timed all))
        (end_step f n s.ready s.outside s.waiting s.spare s.used is.head all other (in_line f s ∙ here))
    | inr more ↦
        let small : s.used + n < 200 = omega arith in
        subst (λ (t : Schedule). Nears f s t n) (sym (row_within n s is.head small))
        (low_step f n s.ready s.outside s.waiting s.spare s.used is.head small other (in_line f s ∙ here))
  ]
]

waits_by : (f : ForkName) (ready : List Member) (os : List ForkName) (ws : List Waiter) (ks : List ℕ) (u : ℕ) (need : Need) → u < 200 → 0 < length ready
    → heads f ready ≡ false → is_among f (line (of ready os ws ks u)) ≡ true → Nears f (of ready os ws ks u) (waited (of ready os ws ks u) need) 1
waits_by f [] os ws ks u need timed some other here = absurd (omega arith)
waits_by f (m ∷ ms) os ws ks u need timed some other here =
    nears f _ _ 1 (waits_step f m ms os ws ks u need timed other) (tail_ahead f m ms os other here)

pub waits : (f : ForkName) (s : Schedule) (need : Need) → IsTimed s → is_in_line f s ≡ true → heads f s.ready ≡ false → 0 < length s.ready
    → Nears f s (waited s need) 1
waits f s need timed here other some = waits_by f s.ready s.outside s.waiting s.spare s.used need timed some other (in_line f s ∙ here)

-- where the set is filled
admits : (f : ForkName) (s : Schedule) → IsTimed s → is_in_line f s ≡ true → Nears f s (admitted s) 0
admits f s timed here = nears f s (admitted s) 0 (admits_step f s timed) (ap (is_among f) (line_admitted s) ∙ in_line f s ∙ here)

wakes : (f g : ForkName) (s : Schedule) → IsTimed s → is_in_line f s ≡ true → Nears f s (woken s g) 0
wakes f g s timed here =
    nears f s (woken s g) 0 (wakes_by f g s (stands g s) timed (in_line f s ∙ here)) (line_woken f g s (stands g s) (in_line f s ∙ here))

pub starts : (f g : ForkName) (s : Schedule) → IsTimed s → is_in_line f s ≡ true → Nears f s (started s g) 0
starts f g s timed here =
    let first = wakes f g s timed here in
    joins f s (woken s g) (started s g) 0 0 first (admits f (woken s g) first.timed first.here)

goes : (f g : ForkName) (s : Schedule) → IsTimed s → is_in_line f s ≡ true → same_fork g f ≡ false → Nears f s (left s g) 0
goes f g s timed here apart =
    nears f s (left s g) 0 (leaves_by f g s.ready s.outside s.waiting s.spare s.used timed apart)
    (ap (is_among f) (line_left s g) ∙ among_others g f (line s) ∙ ap (λ (b : Bool). b && not (same_fork g f)) (in_line f s ∙ here) ∙ ap not apart)

pub stops : (f g : ForkName) (s : Schedule) → IsTimed s → is_in_line f s ≡ true → same_fork g f ≡ false → Nears f s (stopped s g) 0
stops f g s timed here apart =
    let first = goes f g s timed here apart in
    joins f s (left s g) (stopped s g) 0 0 first (admits f (left s g) first.timed first.here)

gives_by : (f g : ForkName) (ready : List Member) (os : List ForkName) (ws : List Waiter) (ks : List ℕ) (u : ℕ) → u < 200 → is_in_line f (of ready os ws ks u) ≡ true
    → same_fork g f ≡ false → heads g ready ≡ true → Nears f (of ready os ws ks u) (left (of ready os ws ks u) g) 1
gives_by f g [] os ws ks u timed here apart head = absurd cc
gives_by f g (m ∷ ms) os ws ks u timed here apart head =
    nears f _ _ 1 (head_left_step f g m ms os ws ks u timed apart head)
    (in_line f (left (of (m ∷ ms) os ws ks u) g) ∙ (goes f g (of (m ∷ ms) os ws ks u) timed here apart).here)

pub gives : (f g : ForkName) (s : Schedule) → IsTimed s → is_in_line f s ≡ true → same_fork g f ≡ false → heads g s.ready ≡ true → Nears f s (stopped s g) 1
gives f g s timed here apart head =
    let first = gives_by f g s.ready s.outside s.waiting s.spare s.used timed here apart head in
    joins f s (left s g) (stopped s g) 1 0 first (admits f (left s g) first.timed first.here)

pub arrives : (f : ForkName) (s : Schedule) (there : Need) → IsTimed s → is_in_line f s ≡ true → s.waiting ≡ [] → Nears f s (arrived s there) 0
arrives f s there timed here none =
    nears f s (arrived s there) 0 (arrives_step f s there timed (inr none)) (ap (is_among f) (line_arrived s there none) ∙ in_line f s ∙ here)

head_next : (f : ForkName) (m : Member) (fs : List ForkName) (u : ℕ) → same_fork f m.fork ≡ true → QUANTUM * ahead f (m.fork ∷ fs) - u ≡ 0
head_next f m fs u same = let none = ahead_first f m.fork fs same in omega arith

due_by : (f : ForkName) (ready : List Member) (os : List ForkName) (ws : List Waiter) (ks : List ℕ) (u : ℕ) → u < 200 → 0 < length ready
    → (ahead_of f (of ready os ws ks u) ≡ 0) ↔ (heads f ready ≡ true)
due_by f [] os ws ks u timed some = absurd (omega arith)
due_by f (m ∷ ms) os ws ks u timed some = (
  λ none. none_ahead f m (map (λ n. n.fork) ms ++ os) u timed (omega arith),
  λ same. head_next f m (map (λ n. n.fork) ms ++ os) u same,
)

pub due : (f : ForkName) (s : Schedule) → IsTimed s → 0 < length s.ready → (ahead_of f s ≡ 0) ↔ (heads f s.ready ≡ true)
due f s timed some = due_by f s.ready s.outside s.waiting s.spare s.used timed some

-- one of some has fewer before it than they are
ahead_few : (f : ForkName) (gs : List ForkName) → is_among f gs ≡ true → ahead f gs < length gs
ahead_few f [] here = absurd cc
ahead_few f (g ∷ gs) here = elim (bool_cases (same_fork f g)) [
  | inl same ↦ let none = ahead_first f g gs same in omega arith
  | inr other ↦
      let more = ahead_behind f g gs other in
      let less = ahead_few f gs (sym (among_behind f g gs other) ∙ here) in
      omega arith
]

length_forks : (ms : List Member) → length (map (λ m. m.fork) ms) ≡ length ms
length_forks [] = refl
length_forks (m ∷ ms) = ap suc (length_forks ms)

pub few : (f : ForkName) (s : Schedule) → IsSound s → is_in_line f s ≡ true → ahead_of f s < QUANTUM * (TERMINALS * MOST_FORKS)
few f s sound here =
    let before = ahead_few f (line s) (in_line f s ∙ here) in
    let long = length-append (map (λ m. m.fork) s.ready) s.outside in
    let ready = length_forks s.ready in
    let all = sound.few in
    omega arith

pub placed : (f : ForkName) (s : Schedule) (p : ℕ) → slice_get (line s) p ≡ Some f → ahead_of f s ≤ QUANTUM * p
placed f s p at = let before = ahead_at f (line s) p at in omega arith

pub passed : (f : ForkName) (s t : Schedule) (p n : ℕ) → slice_get (line s) p ≡ Some f → Nears f s t n → n ≤ QUANTUM * p
passed f s t p n at nears =
    let before = placed f s p at in
    let nearer = nears.nearer in
    omega arith
