-- Which forks are to run, in which order (CACM paper, "Scheduling").
use Rattle.std.specs.Prelude.{ℕ, ◌+◌, ◌==◌, List, [], ◌∷◌, ◌++◌, length, map, filter, drop, Bool, true, false, not, ◌||◌, Option, if◌then◌else◌}
use Rattle.std.specs.List.{find, list_any}
use Rattle.std.specs.Option.{option_map}
use Rattle.machine_names.specs.declared.names.ForkName.{ForkName}
use Rattle.page_contracts.specs.declared.answers.Need.{Need}
use Rattle.page_contracts.specs.declared.answers.Need.TheVariants.{Page, Frame}
use Rattle.machine_names.specs.Orders.{same_fork}
use Rattle.job_sched.specs.declared.member.Member.{Member}
use Rattle.job_sched.specs.declared.member.Waiter.{Waiter}
use Rattle.job_sched.specs.Rows.{up_to}

-- The ready list; the outside list; the members of the balance set that are in page wait, in the order in which they began to wait;
-- the numbers of the set that no member has; and how many units of its quantum the head of the ready list has run.
pub record Schedule : Type 0 where
  pub ready : List Member
  pub outside : List ForkName
  pub waiting : List Waiter
  pub spare : List ℕ
  pub used : ℕ

-- no fork is in any list, and the set has so many numbers
abbrev pub empty : ℕ → Schedule
empty set = record { ready = []; outside = []; waiting = []; spare = up_to set; used = 0 }

-- a waiting member without what it waits for
abbrev pub member_of : Waiter → Member
member_of w = record { fork = w.fork; seat = w.seat }

-- whether a member is this fork
abbrev pub is_member : ForkName → Member → Bool
is_member f m = same_fork f m.fork

-- whether a waiting member is this fork
abbrev pub is_waiter : ForkName → Waiter → Bool
is_waiter f w = same_fork f w.fork

-- whether a fork stands in the ready list
abbrev pub is_ready : ForkName → Schedule → Bool
is_ready f s = list_any (is_member f) s.ready

-- in the outside list
abbrev pub is_outside : ForkName → Schedule → Bool
is_outside f s = list_any (same_fork f) s.outside

-- in page wait
abbrev pub is_waiting : ForkName → Schedule → Bool
is_waiting f s = list_any (is_waiter f) s.waiting

-- in one of the three
abbrev pub stands : ForkName → Schedule → Bool
stands f s = is_outside f s || is_ready f s || is_waiting f s

-- how many forks stand there
abbrev pub count : Schedule → ℕ
count s = length s.outside + length s.ready + length s.waiting

-- the members of the balance set
abbrev pub members : Schedule → List Member
members s = s.ready ++ map member_of s.waiting

-- a fork is put last outside, unless it stands somewhere
abbrev pub woken : Schedule → ForkName → Schedule
woken s f = if stands f s then s else (record s { outside = s.outside ++ f ∷ [] })

-- forks with the numbers that are to be had, as long as there are both
abbrev pub seated : List ForkName → List ℕ → List Member
seated (f ∷ fs) (k ∷ ks) = record { fork = f; seat = k } ∷ seated fs ks
seated [] ks = []
seated (f ∷ fs) [] = []

-- while the set has room, the first one outside is put last into the ready list
abbrev pub admitted : Schedule → Schedule
admitted s = record s {
  ready = s.ready ++ seated s.outside s.spare;
  outside = drop (length s.spare) s.outside;
  spare = drop (length s.outside) s.spare;
}

-- the first one outside is put last into the ready list, with the first number that is to be had, where there are both
abbrev pub first_seated : List ForkName → List ℕ → Schedule → Schedule
first_seated (o ∷ os) (k ∷ ks) s = record s { ready = s.ready ++ record { fork = o; seat = k } ∷ []; outside = os; spare = ks }
first_seated [] ks s = s
first_seated (o ∷ os) [] s = s

-- the head leaves the set and is put last outside
abbrev pub sent_out : List Member → Schedule → Schedule
sent_out [] s = s
sent_out (m ∷ ms) s = record s { ready = ms; outside = s.outside ++ m.fork ∷ []; spare = s.spare ++ m.seat ∷ []; used = 0 }

-- the head is put last into the ready list
abbrev pub rotated : List Member → Schedule → Schedule
rotated [] s = s
rotated (m ∷ ms) s = record s { ready = ms ++ m ∷ []; used = 0 }

-- the same of a schedule's own lists
abbrev pub one_admitted : Schedule → Schedule
one_admitted s = first_seated s.outside s.spare s

-- the head's quantum ends: with nobody outside it goes behind the others that are ready; else it leaves the set and goes behind all that
-- are outside, and the first of these is admitted
abbrev pub turned : List ForkName → Schedule → Schedule
turned [] s = rotated s.ready s
turned (o ∷ os) s = one_admitted (sent_out s.ready s)

-- the same of a schedule's own outside list
abbrev pub quantum_ended : Schedule → Schedule
quantum_ended s = turned s.outside s

-- the head waits for something
abbrev pub put_to_wait : List Member → Need → Schedule → Schedule
put_to_wait [] need s = s
put_to_wait (m ∷ ms) need s = record s { ready = ms; waiting = s.waiting ++ record { fork = m.fork; seat = m.seat; need = need } ∷ []; used = 0 }

-- the same of a schedule's own ready list
abbrev pub waited : Schedule → Need → Schedule
waited s need = put_to_wait s.ready need s

-- whether something that is there now ends a wait: a frame may be free whatever came
abbrev pub ends_wait : Need → Need → Bool
ends_wait done Frame = true
ends_wait (Page h) (Page g) = h.0 == g.0
ends_wait Frame (Page g) = false

-- the one that has waited longest is looked at: it is put last into the ready list, or last among those that wait
abbrev pub looked_at : List Waiter → Need → Schedule → Schedule
looked_at [] done s = s
looked_at (w ∷ ws) done s = if ends_wait done w.need then (record s { ready = s.ready ++ member_of w ∷ []; waiting = ws }) else (record s { waiting = ws ++ w ∷ [] })

-- those that wait for what is there now are put last into the ready list, in the order in which they began to wait
abbrev pub arrived : Schedule → Need → Schedule
arrived s done = record s {
  ready = s.ready ++ map member_of (filter (λ w. ends_wait done w.need) s.waiting);
  waiting = filter (λ w. not (ends_wait done w.need)) s.waiting;
}

-- whether a fork is the head of the ready list
abbrev pub heads : ForkName → List Member → Bool
heads f [] = false
heads f (m ∷ ms) = is_member f m

-- a fork leaves its list and the set
abbrev pub left : Schedule → ForkName → Schedule
left s f = record {
  ready = filter (λ m. not (is_member f m)) s.ready;
  outside = filter (λ g. not (same_fork f g)) s.outside;
  waiting = filter (λ w. not (is_waiter f w)) s.waiting;
  spare = s.spare ++ map (λ m. m.seat) (filter (is_member f) (members s));
  used = if heads f s.ready then 0 else s.used;
}

-- a fork that can run now is put outside, and the set is filled
abbrev pub started : Schedule → ForkName → Schedule
started s f = admitted (woken s f)

-- a fork that can't run any more leaves, and the set is filled
abbrev pub stopped : Schedule → ForkName → Schedule
stopped s f = admitted (left s f)

-- how many members the set may have
abbrev pub size : Schedule → ℕ
size s = length s.ready + length s.waiting + length s.spare

-- whether a member has this number
abbrev pub has_seat : ℕ → Member → Bool
has_seat k m = k == m.seat

-- whether a member in page wait has it
abbrev pub waits_in : ℕ → Waiter → Bool
waits_in k w = k == w.seat

-- the member that has a number
abbrev pub member_at : Schedule → ℕ → Option ForkName
member_at s k = option_map (λ m. m.fork) (find (has_seat k) (members s))

-- what the one of these that has a number waits for
abbrev pub wait_in : List Waiter → ℕ → Option Need
wait_in ws k = option_map (λ w. w.need) (find (waits_in k) ws)

-- what the member that has a number waits for, where it is in page wait
abbrev pub wait_at : Schedule → ℕ → Option Need
wait_at s k = wait_in s.waiting k

-- the numbers that members have
abbrev pub seats_of : Schedule → List ℕ
seats_of s = map (λ m. m.seat) (members s)
