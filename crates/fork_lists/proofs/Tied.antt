-- The lists have the forks of a job that can run once they have followed it.
use Rattle.std.proofs.Common.{◌≡◌, ◌≢◌, ◌⊎◌, ℕ, zero, suc, ◌+◌, ◌*◌, ◌<◌, ◌≤◌, Bool, true, false, not, ◌||◌, List, Option, None, Some, IsSome, refl, sym, ◌∙◌, ap, subst, inl, inr, arith}
use Rattle.std.proofs.lemmas.Bool.{cases_Bool, cases_eq, cases_lt, or_cases}
use Rattle.std.specs.List.{range_with_len}
use Rattle.std.specs.Option.{option_map_or}
use Rattle.std.specs.FinMap as map
use Rattle.machine_names.specs.Orders.{same_fork}
use Rattle.machine_names.specs.Bounds.{IsTerminal}
use Rattle.machine_names.specs.declared.names.ForkName.{ForkName}
use Rattle.machine_names.specs.declared.names.Tty.{Tty}
use Rattle.machine_names.specs.declared.names.TheConstants.{MOST_FORKS, TERMINALS}
use Rattle.plain_model.specs.declared.fork.Fork.{Fork}
use Rattle.plain_model.specs.Forks.{ForkMap, can_run, fork_in, runs_in}
use Rattle.plain_model.proofs.ForkMaps.{names_same, slot_tells}
use Rattle.fork_tree.specs.Trees.{AreSlotted}
use Rattle.fork_lists.specs.Seeing.{place_at}
use Rattle.fork_tree.proofs.Slots.{in_found, held_lives, some_of}
use Rattle.job_sched.specs.Schedules.{Schedule, count, is_outside, is_ready, is_waiting, stands, started}
use Rattle.job_sched.specs.Ties.{AreApart, with_outside}
use Rattle.job_sched.proofs.Apart.{one_more}
use Rattle.fork_lists.specs.declared.seen.Seen.{Seen}
use Rattle.fork_lists.specs.Following.{followed, lost_stopped, picks_started}
use Rattle.fork_lists.specs.Seeing.{AreNamed, has_waited, job_slots, is_seen, seen_in, was_seen}
use Rattle.fork_lists.specs.Ties.{Living}
use Rattle.fork_lists.proofs.Folds.{IsAmong, lost_gone, lost_less, lost_others, picks_from, picks_keep, picks_there, stands_started}

pub in_range : (from len n : ℕ) → from ≤ n → n < from + len → IsAmong n (range_with_len from len)
unfolding IsAmong
in_range from zero n low high = absurd (omega arith)
in_range from (suc len) n low high = elim (cases_lt from n) [
  | inl below ↦ inr (in_range (from + 1) len n (omega arith) (omega arith))
  | inr at ↦ inl (omega arith)
]

pub among_slots : (slot : ℕ) → 1 ≤ slot → slot ≤ MOST_FORKS → IsAmong slot job_slots
unfolding job_slots
among_slots slot first last = in_range 1 MOST_FORKS slot first (omega (arith, last))

-- two that imply each other are the same
pub both : (a b : Bool) → (a ≡ true → b ≡ true) → (b ≡ true → a ≡ true) → a ≡ b
both true b to from = sym (to refl)
both false true to from = from refl
both false false to from = refl

-- a fork that can run lives
pub runs_lives : (forks : ForkMap) (f : ForkName) → runs_in forks f ≡ true → (g : Fork) × (map.get forks f ≡ Some g)
runs_lives forks f runs = by (map.get forks f) refl runs
  where
    by : (o : Option Fork) → map.get forks f ≡ o → option_map_or (can_run forks) o false ≡ true → (g : Fork) × (map.get forks f ≡ Some g)
    by None is none = absurd (cc none)
    by (Some g) is can = (g, is)

pub some_is : {X : Type 0} (o : Option X) (x : X) → o ≡ Some x → IsSome o
some_is o x is = subst IsSome (sym is) refl

module _ (forks : ForkMap) (slotted : AreSlotted forks) where
  -- a fork that lives is in one of the slots of its job
  pub at_slot : (f : ForkName) (g : Fork) → map.get forks f ≡ Some g → (fork_in forks f.tty g.slot ≡ Some g) × IsAmong g.slot job_slots × (g.name ≡ f)
  at_slot f g is =
      let name = slotted.own f g is in
      let lives = held_lives forks slotted f g is in (
        in_found forks slotted f.tty g.slot g (lives, ap (λ (x : ForkName). x.tty.0) name, refl),
        among_slots g.slot (slotted.first g lives) (slotted.last g lives),
        name,
      )

  -- there is room for one more that lives, where all who stand do
  place_of : ForkName → ℕ
  place_of f = option_map_or (λ (g : Fork). place_at f.tty g.slot) (map.get forks f) 0

  placed : (f : ForkName) → IsSome (map.get forks f) → (g : Fork) × (map.get forks f ≡ Some g) × (place_of f ≡ place_at f.tty g.slot)
  unfolding place_of
  placed f lives = let at = some_of (map.get forks f) lives in (at.0, at.1, ap (λ (o : Option Fork). option_map_or (λ (g : Fork). place_at f.tty g.slot) o 0) at.1)

  bounds : (f : ForkName) (g : Fork) → map.get forks f ≡ Some g → (f.tty.0 < TERMINALS) × (1 ≤ g.slot) × (g.slot ≤ MOST_FORKS)
  bounds f g is =
      let name = slotted.own f g is in
      let lives = held_lives forks slotted f g is in
      (subst (λ (x : ForkName). x.tty.0 < TERMINALS) name (slotted.named g lives).0, slotted.first g lives, slotted.last g lives)

  below : (f : ForkName) → IsSome (map.get forks f) → place_of f < TERMINALS * MOST_FORKS
  below f lives = let at = placed f lives in let b = bounds f at.0 at.1 in let h0 = b.0 in let h1 = b.1 in let h2 = b.2 in omega (arith, at.2, h0, h1, h2)

  own_place : (f h : ForkName) → IsSome (map.get forks f) → IsSome (map.get forks h) → place_of f ≡ place_of h → f ≡ h
  own_place f h lives living same =
      let a = placed f lives in
      let b = placed h living in
      let x = bounds f a.0 a.1 in
      let y = bounds h b.0 b.1 in
      let x0 = x.0 in let x1 = x.1 in let x2 = x.2 in let y0 = y.0 in let y1 = y.1 in let y2 = y.2 in
      let places : place_at f.tty a.0.slot ≡ place_at h.tty b.0.slot = sym a.2 ∙ same ∙ b.2 in
      let tty : f.tty.0 ≡ h.tty.0 = omega (arith, places, x0, x1, x2, y0, y1, y2) in
      let slot : a.0.slot ≡ b.0.slot = omega (arith, places, tty, x0, x1, x2, y0, y1, y2) in
      let first = slotted.own f a.0 a.1 in
      let second = slotted.own h b.0 b.1 in
      let one : a.0 ≡ b.0 = slotted.once h.tty b.0.slot a.0 b.0
      (held_lives forks slotted f a.0 a.1, ap (λ (x : ForkName). x.tty.0) first ∙ tty, slot) (held_lives forks slotted h b.0 b.1, ap (λ (x : ForkName). x.tty.0) second, refl) in
      sym first ∙ ap (λ (x : Fork). x.name) one ∙ second

  pub has_room : (s : Schedule) (f : ForkName) → AreApart s → Living forks s → IsSome (map.get forks f) → stands f s ≡ false → count s < TERMINALS * MOST_FORKS
  has_room s f apart living lives none =
      one_more place_of (TERMINALS * MOST_FORKS) s f apart (λ g here. below g (there g here)) (λ g h here now same. own_place g h (there g here) (there h now) same) none
    where
      there : (g : ForkName) → stands g (with_outside s f) ≡ true → IsSome (map.get forks g)
      there g here = by (either (same_fork g f) (is_outside g s) (is_ready g s) (is_waiting g s) here)
        where
          either : (a o r w : Bool) → (((a || o) || r) || w) ≡ true → (a ≡ true) ⊎ (((o || r) || w) ≡ true)
          either true o r w e = inl refl
          either false o r w e = inr e

          by : (same_fork g f ≡ true) ⊎ (stands g s ≡ true) → IsSome (map.get forks g)
          by (inl same) = subst (λ (x : ForkName). IsSome (map.get forks x)) (sym (names_same g f same)) lives
          by (inr old) = living g old

-- a fork that starts lives, as all that stand do
pub living_started : (forks : ForkMap) (s : Schedule) (f : ForkName) → Living forks s → IsSome (map.get forks f) → Living forks (started s f)
living_started forks s f living lives g here = elim (or_cases (stands g s) (same_fork f g) (sym (stands_started f g s) ∙ here)) [
  | inl old ↦ living g old
  | inr same ↦ subst (λ (x : ForkName). IsSome (map.get forks x)) (names_same f g same) lives
]

-- the fork in a slot lives
pub slot_lives : (forks : ForkMap) → AreSlotted forks → (t : Tty) (slot : ℕ) (f : Fork) → fork_in forks t slot ≡ Some f → IsSome (map.get forks f.name)
slot_lives forks slotted t slot f is = let at = slot_tells forks slotted.own t slot f is in some_is (map.get forks f.name) f at.0

-- where the slots of a job are seen alike, the same forks are seen there
seen_range : (xs ys : List Seen) (t : Tty) (f : ForkName) (from len : ℕ) → ((slot : ℕ) → from ≤ slot → slot < from + len → seen_in xs t slot ≡ seen_in ys t slot)
    → was_seen ys t f (range_with_len from len) ≡ was_seen xs t f (range_with_len from len)
seen_range xs ys t f from zero same = refl
seen_range xs ys t f from (suc len) same =
    ap (λ (x : Seen). is_seen f x || was_seen ys t f (range_with_len (from + 1) len)) (sym (same from (omega arith) (omega arith)))
    ∙ ap (λ b. is_seen f (seen_in xs t from) || b) (seen_range xs ys t f (from + 1) len (λ slot low high. same slot (omega (arith, low)) (omega (arith, high))))

pub same_seen : (xs ys : List Seen) (t : Tty) (f : ForkName) → ((slot : ℕ) → 1 ≤ slot → slot ≤ MOST_FORKS → seen_in xs t slot ≡ seen_in ys t slot) → was_seen ys t f job_slots ≡ true → was_seen xs t f job_slots ≡ true
unfolding job_slots
same_seen xs ys t f same was = sym (seen_range xs ys t f 1 MOST_FORKS (λ slot low high. same slot low (omega (arith, high)))) ∙ was

-- the lists follow the forks of a job
module _ (forks : ForkMap) (slotted : AreSlotted forks) (seen : List Seen) (t : Tty) (s : Schedule)
    (mine : (f : ForkName) → f.tty.0 ≡ t.0 → stands f s ≡ true → was_seen seen t f job_slots ≡ true) where
  stopped_there : Schedule
  stopped_there = lost_stopped forks seen t s job_slots

  waiters_there : Schedule
  waiters_there = picks_started forks (has_waited seen t) t stopped_there job_slots

  -- once those have stopped that can't run, whoever of the job stands can
  pub left_run : (f : ForkName) → f.tty.0 ≡ t.0 → stands f (lost_stopped forks seen t s job_slots) ≡ true → runs_in forks f ≡ true
  left_run f here now = elim (cases_Bool (runs_in forks f)) [
    | inl runs ↦ runs
    | inr lost ↦ absurd (let no : true ≡ false = sym now ∙ lost_gone forks seen t job_slots s f lost (mine f here (lost_less forks seen t job_slots s f now)) in cc no)
  ]

  can_stand : (f : ForkName) → f.tty.0 ≡ t.0 → stands f (followed forks seen t s) ≡ true → runs_in forks f ≡ true
  unfolding stopped_there waiters_there
  can_stand f here now = elim (picks_from forks (λ k g. not (has_waited seen t k g)) t slotted.own job_slots waiters_there f now) [
    | inl before ↦ elim (picks_from forks (has_waited seen t) t slotted.own job_slots stopped_there f before) [
      | inl left ↦ left_run f here left
      | inr runs ↦ runs.1
    ]
    | inr runs ↦ runs.1
  ]

  do_stand : (f : ForkName) → f.tty.0 ≡ t.0 → runs_in forks f ≡ true → stands f (followed forks seen t s) ≡ true
  unfolding stopped_there waiters_there
  do_stand f here runs =
      let lives = runs_lives forks f runs in
      let at = at_slot forks slotted f lives.0 lives.1 in
      let there : fork_in forks t lives.0.slot ≡ Some lives.0 = ap (λ (n : ℕ). fork_in forks (record { 0 = n }) lives.0.slot) (sym here) ∙ at.0 in
      let can : runs_in forks lives.0.name ≡ true = ap (runs_in forks) at.2 ∙ runs in
      subst (λ (x : ForkName). stands x (followed forks seen t s) ≡ true) at.2 (elim (cases_Bool (has_waited seen t lives.0.slot lives.0.name)) [
        | inl waited ↦
            picks_keep forks (λ k g. not (has_waited seen t k g)) t job_slots waiters_there lives.0.name
            (picks_there forks (has_waited seen t) t job_slots stopped_there lives.0 lives.0.slot at.1 there waited can)
        | inr none ↦ picks_there forks (λ k g. not (has_waited seen t k g)) t job_slots waiters_there lives.0 lives.0.slot at.1 there (ap not none) can
      ])

  -- of the job those stand that can run
  pub mine_listed : (f : ForkName) → f.tty.0 ≡ t.0 → stands f (followed forks seen t s) ≡ runs_in forks f
  mine_listed f here = both (stands f (followed forks seen t s)) (runs_in forks f) (can_stand f here) (do_stand f here)

  module _ (named : AreNamed seen) (terminal : IsTerminal t) where
    not_seen : (f : ForkName) → f.tty.0 ≢ t.0 → (from len : ℕ) → 1 ≤ from → from + len ≤ MOST_FORKS + 1 → was_seen seen t f (range_with_len from len) ≡ false
    not_seen f other from zero low high = refl
    not_seen f other from (suc len) low high = ap (λ b. b || was_seen seen t f (range_with_len (from + 1) len)) (by (seen_in seen t from).fork refl) ∙ not_seen f other (from + 1) len (omega arith) (omega arith)
      where
        by : (o : Option ForkName) → (seen_in seen t from).fork ≡ o → is_seen f (record { fork = o; waits = false }) ≡ false
        by None is = refl
        by (Some g) is = elim (cases_Bool (same_fork f g)) [
          | inl same ↦ absurd (let its = named t from g terminal low (omega arith) is in other (ap (λ (x : ForkName). x.tty.0) (names_same f g same) ∙ its.1))
          | inr apart ↦ apart
        ]

    not_there : (f : ForkName) → f.tty.0 ≢ t.0 → was_seen seen t f job_slots ≡ false
    unfolding job_slots
    not_there f other = not_seen f other 1 MOST_FORKS (omega arith) (omega arith)

    -- of another job those stand who stood
    pub others_listed : (f : ForkName) → f.tty.0 ≢ t.0 → stands f (followed forks seen t s) ≡ stands f s
    unfolding stopped_there waiters_there
    others_listed f other =
        let same : stands f stopped_there ≡ stands f s = lost_others forks seen t job_slots s f (not_there f other) in
        both (stands f (followed forks seen t s)) (stands f s)
        (λ now. elim (picks_from forks (λ k g. not (has_waited seen t k g)) t slotted.own job_slots waiters_there f now) [
          | inl before ↦ elim (picks_from forks (has_waited seen t) t slotted.own job_slots stopped_there f before) [
            | inl left ↦ sym same ∙ left
            | inr runs ↦ absurd (other runs.0)
          ]
          | inr runs ↦ absurd (other runs.0)
        ])
        (λ old. picks_keep forks (λ k g. not (has_waited seen t k g)) t job_slots waiters_there f (picks_keep forks (has_waited seen t) t job_slots stopped_there f (same ∙ old)))

    -- who stands once those have stopped that can't run lives
    pub left_living : ((f : ForkName) → f.tty.0 ≢ t.0 → stands f s ≡ true → IsSome (map.get forks f)) → Living forks (lost_stopped forks seen t s job_slots)
    left_living others f now = elim (cases_eq f.tty.0 t.0) [
      | inl here ↦ let lives = runs_lives forks f (left_run f here now) in some_is (map.get forks f) lives.0 lives.1
      | inr other ↦ others f other (lost_less forks seen t job_slots s f now)
    ]
