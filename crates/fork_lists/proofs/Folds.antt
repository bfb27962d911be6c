-- Who stands in the lists once they have followed some slots of a job.
use Rattle.std.proofs.Common.{◌≡◌, ◌⊎◌, ℕ, suc, ◌+◌, ◌-◌, ◌<◌, ◌≤◌, Bool, true, false, cond, not, ◌&&◌, ◌||◌, ◌↔◌, IsTrue, List, [], ◌∷◌, Option, None, Some, refl, sym, ◌∙◌, ap, subst, inl, inr, arith}
use Rattle.std.proofs.lemmas.Bool.{cases_Bool, cond_both, and_from, or_parts, or_cases}
use Rattle.std.specs.List.{list_any, range_with_len}
use Rattle.machine_names.specs.declared.names.TheConstants.{MOST_FORKS}
use Rattle.machine_names.specs.Orders.{same_fork}
use Rattle.machine_names.specs.declared.names.ForkName.{ForkName}
use Rattle.machine_names.specs.declared.names.Tty.{Tty}
use Rattle.plain_model.specs.declared.fork.Fork.{Fork}
use Rattle.plain_model.specs.Forks.{ForkMap, IsRunnable, fork_in, runs_in}
use Rattle.plain_model.proofs.ForkMaps.{AreOwn, both_first, both_second, names_same, same_itself, slot_tells}
use Rattle.job_sched.specs.Schedules.{Schedule, left, stands, started, stopped, woken}
use Rattle.job_sched.specs.Ties.{IsFilled}
use Rattle.job_sched.proofs.Ties.{filled, stands_admitted, stands_left, stands_woken}
use Rattle.fork_lists.specs.declared.seen.Seen.{Seen}
use Rattle.fork_lists.specs.Following.{lost_stopped, picks_started, started_if, stopped_if}
use Rattle.fork_lists.specs.Seeing.{has_waited, is_seen, job_slots, seen_in, was_seen}

pub stands_stopped : (f g : ForkName) (s : Schedule) → stands g (stopped s f) ≡ (stands g s && not (same_fork f g))
stands_stopped f g s = stands_admitted g (left s f) ∙ stands_left f g s

pub stands_started : (f g : ForkName) (s : Schedule) → stands g (started s f) ≡ (stands g s || same_fork f g)
stands_started f g s = stands_admitted g (woken s f) ∙ stands_woken f g s

-- a number is one of some
unfoldable pub IsAmong : ℕ → List ℕ → Type 0
IsAmong n [] = ⊥
IsAmong n (m ∷ ms) = (m ≡ n) ⊎ IsAmong n ms

or_left : (a b : Bool) → a ≡ true → (a || b) ≡ true
or_left true b e = refl
or_left false b e = absurd (cc e)

or_right : (a b : Bool) → b ≡ true → (a || b) ≡ true
or_right true b e = refl
or_right false b e = e

and_true : (a : Bool) → (a && true) ≡ a
and_true true = refl
and_true false = refl

or_false : (a : Bool) → (a || false) ≡ a
or_false true = refl
or_false false = refl

-- a fork that is not found to run can't
pub cannot_run : (forks : ForkMap) (f : ForkName) (b : Bool) → (IsTrue b ↔ IsRunnable forks f) → b ≡ false → runs_in forks f ≡ false
cannot_run forks f b tells none = elim (cases_Bool (runs_in forks f)) [
  | inl runs ↦ absurd (let clash : true ≡ false = sym (tells.1 runs) ∙ none in cc clash)
  | inr lost ↦ lost
]

-- one that is found to run can
pub does_run : (forks : ForkMap) (f : ForkName) (b : Bool) → (IsTrue b ↔ IsRunnable forks f) → b ≡ runs_in forks f
does_run forks f true tells = sym (tells.0 refl)
does_run forks f false tells = sym (cannot_run forks f false tells refl)

pub runs_on : (forks : ForkMap) (f : ForkName) (s : Schedule) → runs_in forks f ≡ true → s ≡ stopped_if forks (Some f) s
runs_on forks f s can = sym (ap (λ b. cond b s (stopped s f)) can)

pub starts_there : (forks : ForkMap) (picks : ForkName → Bool) (o : Option Fork) (f : Fork) (s : Schedule) → o ≡ Some f → (picks f.name && runs_in forks f.name) ≡ true → started s f.name ≡ started_if forks picks o s
starts_there forks picks o f s is can = sym (ap (λ (x : Option Fork). started_if forks picks x s) is ∙ ap (λ b. cond b (started s f.name) s) can)

pub starts_none : (forks : ForkMap) (picks : ForkName → Bool) (o : Option Fork) (f : Fork) (s : Schedule) → o ≡ Some f → (picks f.name && runs_in forks f.name) ≡ false → s ≡ started_if forks picks o s
starts_none forks picks o f s is can = sym (ap (λ (x : Option Fork). started_if forks picks x s) is ∙ ap (λ b. cond b (started s f.name) s) can)

pub stops_lost : (forks : ForkMap) (o : Option ForkName) (f : ForkName) (s : Schedule) → o ≡ Some f → runs_in forks f ≡ false → stopped s f ≡ stopped_if forks o s
stops_lost forks o f s is lost = sym (ap (λ (x : Option ForkName). stopped_if forks x s) is ∙ ap (λ b. cond b s (stopped s f)) lost)

module _ (forks : ForkMap) where
  -- one that can run is not stopped, so it is no other's name
  pub apart_from : (f g : ForkName) → runs_in forks f ≡ false → runs_in forks g ≡ true → same_fork f g ≡ false
  apart_from f g lost runs = elim (cases_Bool (same_fork f g)) [
    | inl same ↦ absurd (let no : true ≡ false = sym runs ∙ ap (runs_in forks) (sym (names_same f g same)) ∙ lost in cc no)
    | inr apart ↦ apart
  ]

  -- ---- stops

  pub stop_one : (o : Option ForkName) (s : Schedule) (g : ForkName) → runs_in forks g ≡ true → stands g (stopped_if forks o s) ≡ stands g s
  stop_one None s g runs = refl
  stop_one (Some f) s g runs =
      cond_both (runs_in forks f) s (stopped s f) (λ (u : Schedule). stands g u ≡ stands g s) (λ can. refl)
      (λ lost. stands_stopped f g s ∙ ap (λ b. stands g s && not b) (apart_from f g lost runs) ∙ and_true (stands g s))

  pub stop_less : (o : Option ForkName) (s : Schedule) (g : ForkName) → stands g (stopped_if forks o s) ≡ true → stands g s ≡ true
  stop_less None s g here = here
  stop_less (Some f) s g here =
      cond_both (runs_in forks f) s (stopped s f) (λ (u : Schedule). stands g u ≡ true → stands g s ≡ true) (λ can old. old)
      (λ lost old. both_first (stands g s) (not (same_fork f g)) (sym (stands_stopped f g s) ∙ old)) here

  pub stop_gone : (f g : ForkName) (s : Schedule) → runs_in forks g ≡ false → same_fork g f ≡ true → stands g (stopped_if forks (Some f) s) ≡ false
  stop_gone f g s lost same =
      let it : g ≡ f = names_same g f same in
      cond_both (runs_in forks f) s (stopped s f) (λ (u : Schedule). stands g u ≡ false)
      (λ can. absurd (let no : true ≡ false = sym can ∙ ap (runs_in forks) (sym it) ∙ lost in cc no))
      (λ gone. stands_stopped f g s ∙ ap (λ b. stands g s && not b) (ap (λ (h : ForkName). same_fork f h) it ∙ same_itself f) ∙ none (stands g s))
    where
      none : (a : Bool) → (a && false) ≡ false
      none true = refl
      none false = refl

  pub stop_other : (o : Option ForkName) (s : Schedule) (g : ForkName) → ((f : ForkName) → o ≡ Some f → same_fork f g ≡ false) → stands g (stopped_if forks o s) ≡ stands g s
  stop_other None s g apart = refl
  stop_other (Some f) s g apart =
      cond_both (runs_in forks f) s (stopped s f) (λ (u : Schedule). stands g u ≡ stands g s) (λ can. refl)
      (λ lost. stands_stopped f g s ∙ ap (λ b. stands g s && not b) (apart f refl) ∙ and_true (stands g s))

  pub stop_filled : (o : Option ForkName) (s : Schedule) → IsFilled s → IsFilled (stopped_if forks o s)
  stop_filled None s is = is
  stop_filled (Some f) s is = cond_both (runs_in forks f) s (stopped s f) IsFilled (λ can. is) (λ lost. filled (left s f))

  module _ (seen : List Seen) (t : Tty) where
    pub lost_keeps : (slots : List ℕ) (s : Schedule) (g : ForkName) → runs_in forks g ≡ true → stands g (lost_stopped forks seen t s slots) ≡ stands g s
    lost_keeps [] s g runs = refl
    lost_keeps (slot ∷ slots) s g runs = lost_keeps slots (stopped_if forks (seen_in seen t slot).fork s) g runs ∙ stop_one (seen_in seen t slot).fork s g runs

    pub lost_less : (slots : List ℕ) (s : Schedule) (g : ForkName) → stands g (lost_stopped forks seen t s slots) ≡ true → stands g s ≡ true
    lost_less [] s g here = here
    lost_less (slot ∷ slots) s g here = stop_less (seen_in seen t slot).fork s g (lost_less slots (stopped_if forks (seen_in seen t slot).fork s) g here)

    -- who was seen there, and can't run, stands no more
    pub lost_gone : (slots : List ℕ) (s : Schedule) (g : ForkName) → runs_in forks g ≡ false → was_seen seen t g slots ≡ true → stands g (lost_stopped forks seen t s slots) ≡ false
    lost_gone [] s g lost was = absurd (cc was)
    lost_gone (slot ∷ slots) s g lost was = elim (or_cases (is_seen g (seen_in seen t slot)) (was_seen seen t g slots) was) [
      | inl here ↦ not_there (gone_at (seen_in seen t slot).fork here)
      | inr later ↦ lost_gone slots (stopped_if forks (seen_in seen t slot).fork s) g lost later
    ]
      where
        u : Schedule
        u = stopped_if forks (seen_in seen t slot).fork s

        gone_at : (o : Option ForkName) → is_seen g (record { fork = o; waits = false }) ≡ true → stands g (stopped_if forks o s) ≡ false
        gone_at None none = absurd (cc none)
        gone_at (Some f) same = stop_gone f g s lost same

        not_there : stands g u ≡ false → stands g (lost_stopped forks seen t u slots) ≡ false
        not_there gone = elim (cases_Bool (stands g (lost_stopped forks seen t u slots))) [
          | inl here ↦ absurd (let no : true ≡ false = sym (lost_less slots u g here) ∙ gone in cc no)
          | inr none ↦ none
        ]

    pub lost_others : (slots : List ℕ) (s : Schedule) (g : ForkName) → was_seen seen t g slots ≡ false → stands g (lost_stopped forks seen t s slots) ≡ stands g s
    lost_others [] s g was = refl
    lost_others (slot ∷ slots) s g was =
        let parts = or_parts (is_seen g (seen_in seen t slot)) (was_seen seen t g slots) was in
        lost_others slots (stopped_if forks (seen_in seen t slot).fork s) g parts.1 ∙ stop_other (seen_in seen t slot).fork s g (apart (seen_in seen t slot).fork parts.0)
      where
        apart : (o : Option ForkName) → is_seen g (record { fork = o; waits = false }) ≡ false → (f : ForkName) → o ≡ Some f → same_fork f g ≡ false
        apart None none f is = absurd (cc is)
        apart (Some h) none f is = elim (cases_Bool (same_fork f g)) [
          | inl same ↦
              let it : h ≡ f = cc is in
              absurd (let no : true ≡ false = sym (same_itself g) ∙ ap (same_fork g) (sym (names_same f g same)) ∙ ap (same_fork g) (sym it) ∙ none in cc no)
          | inr other ↦ other
        ]

    pub lost_filled : (slots : List ℕ) (s : Schedule) → IsFilled s → IsFilled (lost_stopped forks seen t s slots)
    lost_filled [] s is = is
    lost_filled (slot ∷ slots) s is = lost_filled slots (stopped_if forks (seen_in seen t slot).fork s) (stop_filled (seen_in seen t slot).fork s is)

  -- ---- starts

  module _ (picks : ForkName → Bool) where
    pub start_keeps : (o : Option Fork) (s : Schedule) (g : ForkName) → stands g s ≡ true → stands g (started_if forks picks o s) ≡ true
    start_keeps None s g here = here
    start_keeps (Some f) s g here =
        cond_both (picks f.name && runs_in forks f.name) (started s f.name) s (λ (u : Schedule). stands g u ≡ true)
        (λ can. stands_started f.name g s ∙ or_left (stands g s) (same_fork f.name g) here) (λ none. here)

    pub start_from : (o : Option Fork) (s : Schedule) (g : ForkName) → stands g (started_if forks picks o s) ≡ true
        → (stands g s ≡ true) ⊎ ((f : Fork) × (o ≡ Some f) × (f.name ≡ g) × (runs_in forks g ≡ true))
    start_from None s g here = inl here
    start_from (Some f) s g now =
        cond_both (picks f.name && runs_in forks f.name) (started s f.name) s
        (λ (u : Schedule). stands g u ≡ true → (stands g s ≡ true) ⊎ ((h : Fork) × (Some f ≡ Some h) × (h.name ≡ g) × (runs_in forks g ≡ true)))
        (λ can here. elim (or_cases (stands g s) (same_fork f.name g) (sym (stands_started f.name g s) ∙ here)) [
          | inl old ↦ inl old
          | inr same ↦
              let it : f.name ≡ g = names_same f.name g same in
              inr (f, refl, it, ap (runs_in forks) (sym it) ∙ both_second (picks f.name) (runs_in forks f.name) can)
        ])
        (λ none here. inl here) now

    pub start_there : (f : Fork) (s : Schedule) → picks f.name ≡ true → runs_in forks f.name ≡ true → stands f.name (started_if forks picks (Some f) s) ≡ true
    start_there f s picked runs =
        cond_both (picks f.name && runs_in forks f.name) (started s f.name) s (λ (u : Schedule). stands f.name u ≡ true)
        (λ can. stands_started f.name f.name s ∙ or_right (stands f.name s) (same_fork f.name f.name) (same_itself f.name))
        (λ none. absurd (let no : true ≡ false = sym (and_from (picks f.name) (runs_in forks f.name) picked runs) ∙ none in cc no))

    pub start_filled : (o : Option Fork) (s : Schedule) → IsFilled s → IsFilled (started_if forks picks o s)
    start_filled None s is = is
    start_filled (Some f) s is = cond_both (picks f.name && runs_in forks f.name) (started s f.name) s IsFilled (λ can. filled (woken s f.name)) (λ none. is)

  module _ (picks : ℕ → ForkName → Bool) where
    module _ (t : Tty) where
      pub picks_keep : (slots : List ℕ) (s : Schedule) (g : ForkName) → stands g s ≡ true → stands g (picks_started forks picks t s slots) ≡ true
      picks_keep [] s g here = here
      picks_keep (slot ∷ slots) s g here = picks_keep slots (started_if forks (picks slot) (fork_in forks t slot) s) g (start_keeps (picks slot) (fork_in forks t slot) s g here)

      -- whoever stands then stood before, or is one of the job that can run
      pub picks_from : (own : AreOwn forks) (slots : List ℕ) (s : Schedule) (g : ForkName) → stands g (picks_started forks picks t s slots) ≡ true
          → (stands g s ≡ true) ⊎ ((g.tty.0 ≡ t.0) × (runs_in forks g ≡ true))
      picks_from own [] s g here = inl here
      picks_from own (slot ∷ slots) s g here = elim (picks_from own slots (started_if forks (picks slot) (fork_in forks t slot) s) g here) [
        | inl now ↦ elim (start_from (picks slot) (fork_in forks t slot) s g now) [
          | inl old ↦ inl old
          | inr new ↦ let at = slot_tells forks own t slot new.0 new.1 in inr (ap (λ (x : ForkName). x.tty.0) (sym new.2) ∙ at.1, new.3)
        ]
        | inr later ↦ inr later
      ]

      -- whoever is in one of the slots, of the choice, and can run, stands then
      pub picks_there : (slots : List ℕ) (s : Schedule) (f : Fork) (slot : ℕ) → IsAmong slot slots → fork_in forks t slot ≡ Some f → picks slot f.name ≡ true → runs_in forks f.name ≡ true
          → stands f.name (picks_started forks picks t s slots) ≡ true
      unfolding IsAmong
      picks_there [] s f slot none is picked runs = absurd none
      picks_there (first ∷ slots) s f slot (inl here) is picked runs =
          let there : fork_in forks t first ≡ Some f = ap (fork_in forks t) here ∙ is in
          picks_keep slots (started_if forks (picks first) (fork_in forks t first) s) f.name
          (subst (λ (o : Option Fork). stands f.name (started_if forks (picks first) o s) ≡ true) (sym there) (start_there (picks first) f s (ap (λ k. picks k f.name) here ∙ picked) runs))
      picks_there (first ∷ slots) s f slot (inr later) is picked runs = picks_there slots (started_if forks (picks first) (fork_in forks t first) s) f slot later is picked runs

      pub picks_filled : (slots : List ℕ) (s : Schedule) → IsFilled s → IsFilled (picks_started forks picks t s slots)
      picks_filled [] s is = is
      picks_filled (slot ∷ slots) s is = picks_filled slots (started_if forks (picks slot) (fork_in forks t slot) s) (start_filled (picks slot) (fork_in forks t slot) s is)

  -- where nobody was seen to wait, nobody is started who was
  module _ (seen : List Seen) (t : Tty) where
    none_there : (slot : ℕ) (o : Option Fork) (s : Schedule) → (seen_in seen t slot).waits ≡ false → s ≡ started_if forks (has_waited seen t slot) o s
    none_there slot None s none = refl
    none_there slot (Some f) s none =
        sym (ap (λ b. cond ((b && is_seen f.name (seen_in seen t slot)) && runs_in forks f.name) (started s f.name) s) none)

    pub none_waited : (slots : List ℕ) (s : Schedule) → list_any (λ slot. (seen_in seen t slot).waits) slots ≡ false → s ≡ picks_started forks (has_waited seen t) t s slots
    none_waited [] s none = refl
    none_waited (slot ∷ slots) s none =
        let parts = or_parts (seen_in seen t slot).waits (list_any (λ k. (seen_in seen t k).waits) slots) none in
        none_waited slots s parts.1 ∙ ap (λ (u : Schedule). picks_started forks (has_waited seen t) t u slots) (none_there slot (fork_in forks t slot) s parts.0)

-- the slots from one on
abbrev pub slots_from : ℕ → List ℕ
slots_from slot = range_with_len slot (MOST_FORKS + 1 - slot)

pub one_more : (slot : ℕ) → slot ≤ MOST_FORKS → slots_from slot ≡ slot ∷ slots_from (slot + 1)
one_more slot low = ap (range_with_len slot) (let n : MOST_FORKS + 1 - slot ≡ suc (MOST_FORKS + 1 - (slot + 1)) = omega (arith, low) in n)

pub none_left : (slot : ℕ) → MOST_FORKS < slot → slots_from slot ≡ []
none_left slot high = ap (range_with_len slot) (let n : MOST_FORKS + 1 - slot ≡ 0 = omega (arith, high) in n)

pub all_slots : slots_from 1 ≡ job_slots
unfolding job_slots
all_slots = refl

-- a test that one of the numbers passes
pub any_among : (p : ℕ → Bool) (n : ℕ) (ms : List ℕ) → IsAmong n ms → p n ≡ true → list_any p ms ≡ true
unfolding IsAmong
any_among p n [] none passes = absurd none
any_among p n (m ∷ ms) (inl here) passes = or_left (p m) (list_any p ms) (ap p here ∙ passes)
any_among p n (m ∷ ms) (inr later) passes = or_right (p m) (list_any p ms) (any_among p n ms later passes)
