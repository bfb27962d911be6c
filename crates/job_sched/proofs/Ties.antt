-- Who stands where after a change of the lists.
use Rattle.std.proofs.Common.{◌≡◌, ℕ, ◌≤◌, ◌⊎◌, inl, inr, List, [], ◌∷◌, ◌++◌, length, map, filter, drop, Bool, true, false, not, ◌&&◌, ◌||◌, cond, if◌then◌else◌, Some, slice_get, refl, sym, ◌∙◌, ap, arith}
use Rattle.std.specs.Option.{option_map}
use Rattle.std.specs.List.{list_any}
use Rattle.std.proofs.lemmas.List.{append_assoc, append-nil}
use Rattle.machine_names.specs.declared.names.ForkName.{ForkName}
use Rattle.machine_names.specs.Orders.{same_fork}
use Rattle.job_sched.specs.declared.member.Member.{Member}
use Rattle.job_sched.specs.declared.member.Waiter.{Waiter}
use Rattle.page_contracts.specs.declared.answers.Need.{Need}
use Rattle.job_sched.specs.Schedules.{Schedule, waited, arrived, ends_wait, member_of, is_waiter, is_member, is_ready, is_outside, is_waiting, stands, size, woken, admitted, left, quantum_ended}
use Rattle.job_sched.specs.Lines.{line}
use Rattle.job_sched.specs.Ties.{AreListed, IsFilled, with_fork, without_fork}
use Rattle.job_sched.proofs.Turns.{is_among, in_line, any_append, line_admitted, line_left, line_turned, of}
use Rattle.job_sched.proofs.Looks.{same_self, same_name}

or_false : (a : Bool) → (a || false) ≡ a
or_false true = refl
or_false false = refl

or_three : (a b c : Bool) → (a || (b || c)) ≡ ((a || b) || c)
or_three true b c = refl
or_three false b c = refl

or_mid : (a c : Bool) → ((a || true) || c) ≡ true
or_mid true c = refl
or_mid false c = refl

or_turn : (a b : Bool) → (a || (b || false)) ≡ (b || a)
or_turn true true = refl
or_turn true false = refl
or_turn false true = refl
or_turn false false = refl

and_none : (b : Bool) → (b && false) ≡ false
and_none true = refl
and_none false = refl

gone_one : (a b c : Bool) → (a ≡ true → c ≡ true) → (b && not c) ≡ ((a || b) && not c)
gone_one true b true own = and_none b
gone_one true b false own = absurd (cc (own refl))
gone_one false b c own = refl

kept_one : (a b c : Bool) → (a ≡ true → c ≡ false) → (a || (b && not c)) ≡ ((a || b) && not c)
kept_one true b true own = absurd (cc (own refl))
kept_one true b false own = refl
kept_one false b c own = refl

bool_cases : (b : Bool) → (b ≡ true) ⊎ (b ≡ false)
bool_cases true = inl refl
bool_cases false = inr refl

or_swap : (a b c : Bool) → ((a || b) || c) ≡ ((b || a) || c)
or_swap true true c = refl
or_swap true false c = refl
or_swap false true c = refl
or_swap false false c = refl

-- who stands somewhere, by the line
by_line : (f : ForkName) (s : Schedule) → stands f s ≡ (is_among f (line s) || is_waiting f s)
by_line f s = or_swap (is_outside f s) (is_ready f s) (is_waiting f s) ∙ ap (λ (b : Bool). b || is_waiting f s) (sym (in_line f s))

pub stands_admitted : (f : ForkName) (s : Schedule) → stands f (admitted s) ≡ stands f s
stands_admitted f s = by_line f (admitted s) ∙ ap (λ (fs : List ForkName). is_among f fs || is_waiting f s) (line_admitted s) ∙ sym (by_line f s)

or_last : (a b c : Bool) → ((a || (b || false)) || c) ≡ ((a || c) || b)
or_last true b c = refl
or_last false true true = refl
or_last false true false = refl
or_last false false true = refl
or_last false false false = refl

same_sym : (f g : ForkName) → same_fork f g ≡ same_fork g f
same_sym f g = grind arith

-- a fork that is put outside stands there then
woken_by : (f g : ForkName) (s : Schedule) (b : Bool) → stands f s ≡ b
    → stands g (if b then s else (record s { outside = s.outside ++ f ∷ [] })) ≡ (stands g s || same_fork f g)
woken_by f g s true there = elim (bool_cases (same_fork f g)) [
  | inl same ↦
      let it : stands g s ≡ true = ap (λ (k : ForkName). stands k s) (sym (same_name f g same)) ∙ there in
      it ∙ sym (ap (λ (b : Bool). b || same_fork f g) it)
  | inr other ↦ sym (ap (λ (b : Bool). stands g s || b) other ∙ or_false (stands g s))
]
woken_by f g s false there =
    let t = record s { outside = s.outside ++ f ∷ [] } in
    by_line g t
    ∙ ap (λ (fs : List ForkName). is_among g fs || is_waiting g s) (sym (append_assoc (map (λ m. m.fork) s.ready) s.outside (f ∷ [])))
    ∙ ap (λ (b : Bool). b || is_waiting g s) (any_append g (line s) (f ∷ []))
    ∙ or_last (is_among g (line s)) (same_fork g f) (is_waiting g s)
    ∙ ap (λ (b : Bool). b || same_fork g f) (sym (by_line g s))
    ∙ ap (λ (b : Bool). stands g s || b) (same_sym g f)

pub stands_woken : (f g : ForkName) (s : Schedule) → stands g (woken s f) ≡ (stands g s || same_fork f g)
stands_woken f g s = woken_by f g s (stands f s) refl

-- of some, those that are not this fork
pub among_others : (f g : ForkName) (hs : List ForkName) → is_among g (filter (λ h. not (same_fork f h)) hs) ≡ (is_among g hs && not (same_fork f g))
among_others f g [] = refl
among_others f g (h ∷ hs) = elim (bool_cases (same_fork f h)) [
  | inl gone ↦
      ap (λ (b : Bool). is_among g (cond (not b) (h ∷ filter (λ h. not (same_fork f h)) hs) (filter (λ h. not (same_fork f h)) hs))) gone
      ∙ among_others f g hs ∙ gone_one (same_fork g h) (is_among g hs) (same_fork f g) (λ e. ap (same_fork f) (same_name g h e) ∙ gone)
  | inr stays ↦
      ap (λ (b : Bool). is_among g (cond (not b) (h ∷ filter (λ h. not (same_fork f h)) hs) (filter (λ h. not (same_fork f h)) hs))) stays
      ∙ ap (λ (b : Bool). same_fork g h || b) (among_others f g hs) ∙ kept_one (same_fork g h) (is_among g hs) (same_fork f g) (λ e. ap (same_fork f) (same_name g h e) ∙ stays)
]

waiters_others : (f g : ForkName) (ws : List Waiter) → list_any (is_waiter g) (filter (λ w. not (is_waiter f w)) ws) ≡ (list_any (is_waiter g) ws && not (same_fork f g))
waiters_others f g [] = refl
waiters_others f g (w ∷ ws) = elim (bool_cases (same_fork f w.fork)) [
  | inl gone ↦
      ap (λ (b : Bool). list_any (is_waiter g) (cond (not b) (w ∷ filter (λ w. not (is_waiter f w)) ws) (filter (λ w. not (is_waiter f w)) ws))) gone
      ∙ waiters_others f g ws ∙ gone_one (same_fork g w.fork) (list_any (is_waiter g) ws) (same_fork f g) (λ e. ap (same_fork f) (same_name g w.fork e) ∙ gone)
  | inr stays ↦
      ap (λ (b : Bool). list_any (is_waiter g) (cond (not b) (w ∷ filter (λ w. not (is_waiter f w)) ws) (filter (λ w. not (is_waiter f w)) ws))) stays
      ∙ ap (λ (b : Bool). same_fork g w.fork || b) (waiters_others f g ws)
      ∙ kept_one (same_fork g w.fork) (list_any (is_waiter g) ws) (same_fork f g) (λ e. ap (same_fork f) (same_name g w.fork e) ∙ stays)
]

and_or : (a b c : Bool) → ((a && c) || (b && c)) ≡ ((a || b) && c)
and_or true true true = refl
and_or true true false = refl
and_or true false true = refl
and_or true false false = refl
and_or false b c = refl

pub stands_left : (f g : ForkName) (s : Schedule) → stands g (left s f) ≡ (stands g s && not (same_fork f g))
stands_left f g s =
    by_line g (left s f)
    ∙ ap (λ (fs : List ForkName). is_among g fs || is_waiting g (left s f)) (line_left s f)
    ∙ ap (λ (b : Bool). b || is_waiting g (left s f)) (among_others f g (line s))
    ∙ ap (λ (b : Bool). (is_among g (line s) && not (same_fork f g)) || b) (waiters_others f g s.waiting)
    ∙ and_or (is_among g (line s)) (is_waiting g s) (not (same_fork f g))
    ∙ ap (λ (b : Bool). b && not (same_fork f g)) (sym (by_line g s))

filled_by : (os : List ForkName) (ks : List ℕ) → (drop (length ks) os ≡ []) ⊎ (drop (length os) ks ≡ [])
filled_by [] [] = inl refl
filled_by [] (k ∷ ks) = inl refl
filled_by (o ∷ os) [] = inr refl
filled_by (o ∷ os) (k ∷ ks) = filled_by os ks

pub filled : (s : Schedule) → IsFilled (admitted s)
filled s = filled_by s.outside s.spare

pub enters : (runs : ForkName → Bool) (s : Schedule) (f : ForkName) → AreListed runs s → AreListed (with_fork runs f) (admitted (woken s f))
enters runs s f listed = record { each = λ g. stands_admitted g (woken s f) ∙ stands_woken f g s ∙ ap (λ (b : Bool). b || same_fork f g) (listed.each g) }

pub leaves : (runs : ForkName → Bool) (s : Schedule) (f : ForkName) → AreListed runs s → AreListed (without_fork runs f) (admitted (left s f))
leaves runs s f listed = record { each = λ g. stands_admitted g (left s f) ∙ stands_left f g s ∙ ap (λ (b : Bool). b && not (same_fork f g)) (listed.each g) }

-- the head stands in a list
head_stands : (s : Schedule) (f : ForkName) (ready : List Member) → s.ready ≡ ready → option_map (λ m. m.fork) (slice_get ready 0) ≡ Some f → is_ready f s ≡ true
head_stands s f [] is head = absurd cc
head_stands s f (m ∷ ms) is head =
    let it : m.fork ≡ f = cc head in
    ap (list_any (is_member f)) is ∙ ap (λ (b : Bool). b || list_any (is_member f) ms) (ap (same_fork f) it ∙ same_self f)

pub chosen_runs : (runs : ForkName → Bool) (s : Schedule) (f : ForkName) → AreListed runs s → option_map (λ m. m.fork) (slice_get s.ready 0) ≡ Some f → runs f ≡ true
chosen_runs runs s f listed head =
    sym (listed.each f) ∙ ap (λ (b : Bool). (is_outside f s || b) || is_waiting f s) (head_stands s f s.ready refl head) ∙ or_mid (is_outside f s) (is_waiting f s)

pub none_runs : (runs : ForkName → Bool) (s : Schedule) (f : ForkName) → AreListed runs s → IsFilled s → 1 ≤ size s → s.ready ≡ [] → s.waiting ≡ [] → runs f ≡ false
none_runs runs s f listed (inl none) some ready waiting =
    sym (listed.each f)
    ∙ ap (λ (fs : List ForkName). (list_any (same_fork f) fs || is_ready f s) || is_waiting f s) none
    ∙ ap (λ (ms : List Member). list_any (is_member f) ms || is_waiting f s) ready ∙ ap (list_any (is_waiter f)) waiting
none_runs runs s f listed (inr none) some ready waiting =
    let a = ap length none in
    let b = ap length ready in
    let c = ap length waiting in
    absurd (omega arith)

pub turned_waiting : (m : Member) (ms : List Member) (os : List ForkName) (ws : List Waiter) (ks : List ℕ) (u : ℕ) → (quantum_ended (of (m ∷ ms) os ws ks u)).waiting ≡ ws
turned_waiting m ms [] ws ks u = refl
turned_waiting m ms (o ∷ os) ws [] u = refl
turned_waiting m ms (o ∷ os) ws (k ∷ ks) u = refl

-- a unit of the head, and the end of its quantum, let stand who stands
pub turned_stands : (f : ForkName) (m : Member) (ms : List Member) (os : List ForkName) (ws : List Waiter) (ks : List ℕ) (u : ℕ)
    → stands f (quantum_ended (of (m ∷ ms) os ws ks u)) ≡ stands f (of (m ∷ ms) os ws ks u)
turned_stands f m ms os ws ks u =
    by_line f (quantum_ended (of (m ∷ ms) os ws ks u))
    ∙ ap (λ (vs : List Waiter). is_among f (line (quantum_ended (of (m ∷ ms) os ws ks u))) || list_any (is_waiter f) vs) (turned_waiting m ms os ws ks u)
    ∙ ap (λ (fs : List ForkName). is_among f fs || list_any (is_waiter f) ws) (line_turned m ms os ws ks u)
    ∙ ap (λ (b : Bool). b || list_any (is_waiter f) ws) (any_append f (map (λ n. n.fork) ms ++ os) (m.fork ∷ []) ∙ or_turn (is_among f (map (λ n. n.fork) ms ++ os)) (same_fork f m.fork))
    ∙ sym (by_line f (of (m ∷ ms) os ws ks u))

-- who is in line stays there where another is put outside
pub line_woken : (f g : ForkName) (s : Schedule) (b : Bool) → is_among f (line s) ≡ true
    → is_among f (line (if b then s else (record s { outside = s.outside ++ g ∷ [] }))) ≡ true
line_woken f g s true here = here
line_woken f g s false here =
    ap (is_among f) (sym (append_assoc (map (λ m. m.fork) s.ready) s.outside (g ∷ []))) ∙ any_append f (line s) (g ∷ [])
    ∙ ap (λ (b : Bool). b || is_among f (g ∷ [])) here

-- where no fork is in page wait, what arrives leaves the line as it was
pub line_arrived : (s : Schedule) (there : Need) → s.waiting ≡ [] → line (arrived s there) ≡ line s
line_arrived s there none =
    ap (λ (ws : List Waiter). map (λ m. m.fork) (s.ready ++ map member_of (filter (λ w. ends_wait there w.need) ws)) ++ s.outside) none
    ∙ ap (λ (ms : List Member). map (λ m. m.fork) ms ++ s.outside) (append-nil s.ready)

any_waiters_append : (f : ForkName) (vs ws : List Waiter) → list_any (is_waiter f) (vs ++ ws) ≡ (list_any (is_waiter f) vs || list_any (is_waiter f) ws)
any_waiters_append f [] ws = refl
any_waiters_append f (v ∷ vs) ws = ap (λ (b : Bool). is_waiter f v || b) (any_waiters_append f vs ws) ∙ or_three (is_waiter f v) (list_any (is_waiter f) vs) (list_any (is_waiter f) ws)

any_members_append : (f : ForkName) (ms ns : List Member) → list_any (is_member f) (ms ++ ns) ≡ (list_any (is_member f) ms || list_any (is_member f) ns)
any_members_append f [] ns = refl
any_members_append f (m ∷ ms) ns = ap (λ (b : Bool). is_member f m || b) (any_members_append f ms ns) ∙ or_three (is_member f m) (list_any (is_member f) ms) (list_any (is_member f) ns)

or_moved : (o a r w : Bool) → ((o || r) || (w || (a || false))) ≡ ((o || (a || r)) || w)
or_moved true a r w = refl
or_moved false true true w = refl
or_moved false true false true = refl
or_moved false true false false = refl
or_moved false false true w = refl
or_moved false false false true = refl
or_moved false false false false = refl

waits_stand : (f : ForkName) (ready : List Member) (os : List ForkName) (ws : List Waiter) (ks : List ℕ) (u : ℕ) (need : Need)
    → stands f (waited (of ready os ws ks u) need) ≡ stands f (of ready os ws ks u)
waits_stand f [] os ws ks u need = refl
waits_stand f (m ∷ ms) os ws ks u need =
    ap (λ (b : Bool). (list_any (same_fork f) os || list_any (is_member f) ms) || b) (any_waiters_append f ws (record { fork = m.fork; seat = m.seat; need = need } ∷ []))
    ∙ or_moved (list_any (same_fork f) os) (same_fork f m.fork) (list_any (is_member f) ms) (list_any (is_waiter f) ws)

-- one more whose wait ends, and one more that waits on
or_ended : (o r e n w c : Bool) → ((o || (r || e)) || n) ≡ ((o || r) || w) → ((o || (r || (c || e))) || n) ≡ ((o || r) || (c || w))
or_ended true r e n w c all = refl
or_ended false true e n w c all = refl
or_ended false false e n w true all = refl
or_ended false false e n w false all = all

or_on : (o r e n w c : Bool) → ((o || (r || e)) || n) ≡ ((o || r) || w) → ((o || (r || e)) || (c || n)) ≡ ((o || r) || (c || w))
or_on true r e n w c all = refl
or_on false true e n w c all = refl
or_on false false true n w true all = refl
or_on false false false n w true all = refl
or_on false false e n w false all = all

-- a fork among those whose wait ends, and among those that wait on
abbrev any_ended : Need → ForkName → List Waiter → Bool
any_ended there f ws = list_any (is_member f) (map member_of (filter (λ w. ends_wait there w.need) ws))

abbrev any_on : Need → ForkName → List Waiter → Bool
any_on there f ws = list_any (is_waiter f) (filter (λ w. not (ends_wait there w.need)) ws)

any_parted : (f : ForkName) (there : Need) (o r : Bool) (ws : List Waiter) → ((o || (r || any_ended there f ws)) || any_on there f ws) ≡ ((o || r) || list_any (is_waiter f) ws)
any_parted f there o r [] = ap (λ (b : Bool). (o || b) || false) (or_false r)
any_parted f there o r (w ∷ ws) = elim (bool_cases (ends_wait there w.need)) [
  | inl ends ↦
      let first : any_ended there f (w ∷ ws) ≡ (is_waiter f w || any_ended there f ws) =
      ap (λ (b : Bool). list_any (is_member f) (map member_of (cond b (w ∷ filter (λ w. ends_wait there w.need) ws) (filter (λ w. ends_wait there w.need) ws)))) ends in
      let rest : any_on there f (w ∷ ws) ≡ any_on there f ws =
      ap (λ (b : Bool). list_any (is_waiter f) (cond (not b) (w ∷ filter (λ w. not (ends_wait there w.need)) ws) (filter (λ w. not (ends_wait there w.need)) ws))) ends in
      ap (λ (b : Bool). (o || (r || b)) || any_on there f (w ∷ ws)) first ∙ ap (λ (b : Bool). (o || (r || (is_waiter f w || any_ended there f ws))) || b) rest
      ∙ or_ended o r (any_ended there f ws) (any_on there f ws) (list_any (is_waiter f) ws) (is_waiter f w) (any_parted f there o r ws)
  | inr on ↦
      let first : any_ended there f (w ∷ ws) ≡ any_ended there f ws =
      ap (λ (b : Bool). list_any (is_member f) (map member_of (cond b (w ∷ filter (λ w. ends_wait there w.need) ws) (filter (λ w. ends_wait there w.need) ws)))) on in
      let rest : any_on there f (w ∷ ws) ≡ (is_waiter f w || any_on there f ws) =
      ap (λ (b : Bool). list_any (is_waiter f) (cond (not b) (w ∷ filter (λ w. not (ends_wait there w.need)) ws) (filter (λ w. not (ends_wait there w.need)) ws))) on in
      ap (λ (b : Bool). (o || (r || b)) || any_on there f (w ∷ ws)) first ∙ ap (λ (b : Bool). (o || (r || any_ended there f ws)) || b) rest
      ∙ or_on o r (any_ended there f ws) (any_on there f ws) (list_any (is_waiter f) ws) (is_waiter f w) (any_parted f there o r ws)
]

pub arrived_stands : (f : ForkName) (s : Schedule) (there : Need) → stands f (arrived s there) ≡ stands f s
arrived_stands f s there =
    ap (λ (b : Bool). (is_outside f s || b) || list_any (is_waiter f) (filter (λ w. not (ends_wait there w.need)) s.waiting))
    (any_members_append f s.ready (map member_of (filter (λ w. ends_wait there w.need) s.waiting)))
    ∙ any_parted f there (is_outside f s) (is_ready f s) s.waiting

pub waits_listed : (runs : ForkName → Bool) (s : Schedule) (need : Need) → AreListed runs s → AreListed runs (waited s need)
waits_listed runs s need listed = record { each = λ f. waits_stand f s.ready s.outside s.waiting s.spare s.used need ∙ listed.each f }

pub arrived_listed : (runs : ForkName → Bool) (s : Schedule) (there : Need) → AreListed runs s → AreListed runs (arrived s there)
arrived_listed runs s there listed = record { each = λ f. arrived_stands f s there ∙ listed.each f }

waits_fill : (ready : List Member) (os : List ForkName) (ws : List Waiter) (ks : List ℕ) (u : ℕ) (need : Need) → IsFilled (of ready os ws ks u) → IsFilled (waited (of ready os ws ks u) need)
waits_fill [] os ws ks u need filled = filled
waits_fill (m ∷ ms) os ws ks u need filled = filled

pub waits_filled : (s : Schedule) (need : Need) → IsFilled s → IsFilled (waited s need)
waits_filled s need filled = waits_fill s.ready s.outside s.waiting s.spare s.used need filled
