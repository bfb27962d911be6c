-- The lists that follow the forks of a job are those behind the moves of its forks.
use Rattle.std.proofs.Common.{◌≡◌, ◌≢◌, ℕ, zero, suc, ◌+◌, ◌<◌, ◌≤◌, Bool, true, false, cond, not, ◌&&◌, ◌||◌, List, [], ◌∷◌, ◌++◌, map, filter, Option, None, Some, refl, sym, ◌∙◌, ap, inl, inr, arith}
use Rattle.std.proofs.lemmas.Bool.{cases_Bool, cases_eq}
use Rattle.std.proofs.Math.Bool.{and-false, and-true}
use Rattle.std.proofs.lemmas.List.{append-nil}
use Rattle.std.proofs.lemmas.List.Elements.{filter-append}
use Rattle.std.specs.List.{cons_option, filter_map, flat_map, range_with_len}
use Rattle.std.specs.Option.{option_map_or}
use Rattle.std.specs.FinMap as finite
use Rattle.machine_names.specs.Orders.{same_fork}
use Rattle.machine_names.specs.declared.names.ForkName.{ForkName}
use Rattle.machine_names.specs.declared.names.Tty.{Tty}
use Rattle.machine_names.specs.declared.names.TheConstants.{MOST_FORKS, TERMINALS}
use Rattle.plain_model.specs.declared.fork.Fork.{Fork}
use Rattle.plain_model.specs.Forks.{ForkMap, fork_in, runs_in}
use Rattle.plain_model.specs.Moves.{Move, Stops, Starts, moves, names_of, waits_for_one, waits_in}
use Rattle.plain_model.proofs.ForkMaps.{names_same, same_itself, slot_tells}
use Rattle.fork_tree.specs.Trees.{AreSlotted}
use Rattle.fork_tree.proofs.Slots.{held_lives, in_found}
use Rattle.job_sched.specs.Schedules.{Schedule, left, stands, started, stopped, woken}
use Rattle.job_sched.specs.Ties.{IsFilled}
use Rattle.job_sched.proofs.Ties.{filled}
use Rattle.fork_lists.specs.declared.seen.Seen.{Seen}
use Rattle.fork_lists.specs.Following.{followed, lost_stopped, picks_started, started_if, stopped_if}
use Rattle.fork_lists.specs.Seeing.{has_waited, is_seen, job_slots, seen_in, seen_of}
use Rattle.fork_lists.proofs.Folds.{IsAmong, lost_filled, lost_keeps, picks_filled, picks_keep, stands_started, stands_stopped}
use Rattle.turn_forms.specs.Turns.{KeepSlots, moved}
use Rattle.turn_forms.proofs.Nothing.{moved_both, started_none, stopped_none}

pub and_not : (b : Bool) → (b && not b) ≡ false
and_not true = refl
and_not false = refl

-- a number of a range is within its bounds
pub among_bounds : (n from len : ℕ) → IsAmong n (range_with_len from len) → (from ≤ n) × (n < from + len)
unfolding IsAmong
among_bounds n from zero none = absurd none
among_bounds n from (suc len) (inl here) = (omega (arith, here), omega (arith, here))
among_bounds n from (suc len) (inr later) = let more = among_bounds n (from + 1) len later in (omega (arith, more.0), omega (arith, more.1))

-- of some lists one alone has what passes a test
module _ {A : Type 0} (p : A → Bool) (h : ℕ → List A) (n : ℕ) (others : (k : ℕ) → k ≢ n → filter p (h k) ≡ []) where
  none_behind : (from len : ℕ) → n < from → filter p (flat_map h (range_with_len from len)) ≡ []
  none_behind from zero before = refl
  none_behind from (suc len) before =
      filter-append p (h from) (flat_map h (range_with_len (from + 1) len))
      ∙ ap (λ (xs : List A). xs ++ filter p (flat_map h (range_with_len (from + 1) len))) (others from (λ same. omega (arith, before, same)))
      ∙ none_behind (from + 1) len (omega (arith, before))

  pub one_there : (from len : ℕ) → from ≤ n → n < from + len → filter p (flat_map h (range_with_len from len)) ≡ filter p (h n)
  one_there from zero low high = absurd (omega (arith, low, high))
  one_there from (suc len) low high =
      filter-append p (h from) (flat_map h (range_with_len (from + 1) len)) ∙ elim (cases_eq from n) [
        | inl here ↦
            ap (λ (xs : List A). filter p (h from) ++ xs) (none_behind (from + 1) len (omega (arith, here)))
            ∙ append-nil (filter p (h from)) ∙ ap (λ k. filter p (h k)) here
        | inr other ↦
            ap (λ (xs : List A). xs ++ filter p (flat_map h (range_with_len (from + 1) len))) (others from other)
            ∙ one_there (from + 1) len (omega (arith, low, other)) (omega (arith, high))
      ]

-- the names of the forks in some slots of a job
abbrev pub names_in : ForkMap → Tty → List ℕ → List ForkName
names_in forks t slots = map (λ f. f.name) (filter_map (fork_in forks t) slots)

-- none of them passes a test that all of their job fail
pub none_in : (forks : ForkMap) → AreSlotted forks → (t : Tty) (p : ForkName → Bool) → ((f : ForkName) → f.tty.0 ≡ t.0 → p f ≡ false) → (slots : List ℕ) → filter p (names_in forks t slots) ≡ []
none_in forks slotted t p fails [] = refl
none_in forks slotted t p fails (slot ∷ slots) = by (none_in forks slotted t p fails slots) (fork_in forks t slot) refl
  where
    by : filter p (names_in forks t slots) ≡ [] → (o : Option Fork) → fork_in forks t slot ≡ o → filter p (map (λ f. f.name) (cons_option o (filter_map (fork_in forks t) slots))) ≡ []
    by rest None is = rest
    by rest (Some f) is =
        let at = slot_tells forks slotted.own t slot f is in
        ap (λ b. cond b (f.name ∷ filter p (names_in forks t slots)) (filter p (names_in forks t slots))) (fails f.name at.1) ∙ rest

-- the names of all forks that pass a test are those of one job, where all of other jobs fail it
pub names_here : (forks : ForkMap) → AreSlotted forks → (t : Tty) (p : ForkName → Bool) → t.0 < TERMINALS → ((f : ForkName) → f.tty.0 ≢ t.0 → p f ≡ false) → filter p (names_of forks) ≡ filter p (names_in forks t job_slots)
unfolding job_slots
names_here forks slotted t p low fails =
    one_there p (λ k. names_in forks (record { 0 = k }) (range_with_len 1 MOST_FORKS)) t.0
    (λ k other. none_in forks slotted (record { 0 = k }) p (λ f here. fails f (λ same. other (sym here ∙ same))) (range_with_len 1 MOST_FORKS)) 0 TERMINALS (omega arith) (omega (arith, low))

module _ (before after : ForkMap) where
  -- who can't run any more, and who can run now
  abbrev pub loses : ForkName → Bool
  loses f = runs_in before f && not (runs_in after f)

  abbrev pub gains : ForkName → Bool
  gains f = runs_in after f && not (runs_in before f)

  -- the moves of the forks in some slots of a job
  abbrev pub job_moves : Tty → List ℕ → List Move
  job_moves t slots =
      map Stops (filter loses (names_in before t slots))
      ++ (map Starts (filter (waits_in before) (filter gains (names_in after t slots))) ++ map Starts (filter (λ f. not (waits_in before f)) (filter gains (names_in after t slots))))

  pub all_moves : AreSlotted before → AreSlotted after → (t : Tty) → t.0 < TERMINALS → ((f : ForkName) → f.tty.0 ≢ t.0 → runs_in after f ≡ runs_in before f) → moves before after ≡ job_moves t job_slots
  unfolding moves
  all_moves old new t low others =
      let stops = names_here before old t loses low (λ f other. ap (λ b. runs_in before f && not b) (others f other) ∙ and_not (runs_in before f)) in
      let starts = names_here after new t gains low (λ f other. ap (λ b. b && not (runs_in before f)) (others f other) ∙ and_not (runs_in before f)) in
      ap (λ (fs : List ForkName). map Stops fs ++ (map Starts (filter (waits_in before) (filter gains (names_of after))) ++ map Starts (filter (λ f. not (waits_in before f)) (filter gains (names_of after))))) stops
      ∙ ap (λ (fs : List ForkName). map Stops (filter loses (names_in before t job_slots)) ++ (map Starts (filter (waits_in before) fs) ++ map Starts (filter (λ f. not (waits_in before f)) fs))) starts

  module _ (old : AreSlotted before) (new : AreSlotted after) (t : Tty) where
    -- what is so of the stops in some slots, whatever the lists are
    abbrev StopsMore : List Seen → List ℕ → Type 0
    StopsMore seen slots =
        (u : Schedule) → IsFilled u → ((f : ForkName) → f.tty.0 ≡ t.0 → runs_in before f ≡ false → stands f u ≡ false)
        → lost_stopped after seen t u slots ≡ moved (map Stops (filter loses (names_in before t slots))) u

    -- who was seen and can't run stops; where it couldn't before, it stood nowhere
    job_stops : (seen : List Seen) (slots : List ℕ) (s : Schedule) → IsFilled s → ((f : ForkName) → f.tty.0 ≡ t.0 → runs_in before f ≡ false → stands f s ≡ false)
        → ((slot : ℕ) → IsAmong slot slots → seen_in seen t slot ≡ seen_of (fork_in before t slot))
        → lost_stopped after seen t s slots ≡ moved (map Stops (filter loses (names_in before t slots))) s
    unfolding IsAmong
    job_stops seen [] s full away same = refl
    job_stops seen (slot ∷ slots) s full away same = by (λ u full_u away_u. job_stops seen slots u full_u away_u (λ k among. same k (inr among))) (fork_in before t slot) refl
      where
        kept : (g : ForkName) → loses g ≡ false
            → moved (map Stops (filter loses (names_in before t slots))) s ≡ moved (map Stops (cond (loses g) (g ∷ filter loses (names_in before t slots)) (filter loses (names_in before t slots)))) s
        kept g none = sym (ap (λ b. moved (map Stops (cond b (g ∷ filter loses (names_in before t slots)) (filter loses (names_in before t slots)))) s) none)

        by : StopsMore seen slots → (o : Option Fork) → fork_in before t slot ≡ o
            → lost_stopped after seen t (stopped_if after (seen_in seen t slot).fork s) slots ≡ moved (map Stops (filter loses (map (λ f. f.name) (cons_option o (filter_map (fork_in before t) slots))))) s
        by more None is = ap (λ (x : Seen). lost_stopped after seen t (stopped_if after x.fork s) slots) (same slot (inl refl) ∙ ap seen_of is) ∙ more s full away
        by more (Some g) is =
            ap (λ (x : Seen). lost_stopped after seen t (stopped_if after x.fork s) slots) (same slot (inl refl) ∙ ap seen_of is) ∙ elim (cases_Bool (runs_in after g.name)) [
              | inl runs ↦
                  ap (λ b. lost_stopped after seen t (cond b s (stopped s g.name)) slots) runs ∙ more s full away
                  ∙ kept g.name (ap (λ b. runs_in before g.name && not b) runs ∙ and-false (runs_in before g.name))
              | inr lost ↦ ap (λ b. lost_stopped after seen t (cond b s (stopped s g.name)) slots) lost ∙ elim (cases_Bool (runs_in before g.name)) [
                | inl ran ↦
                    more (stopped s g.name) (filled (left s g.name)) (λ f here none. stands_stopped g.name f s ∙ ap (λ b. b && not (same_fork g.name f)) (away f here none))
                    ∙ sym (ap (λ b. moved (map Stops (cond b (g.name ∷ filter loses (names_in before t slots)) (filter loses (names_in before t slots)))) s) (ap (λ b. b && not (runs_in after g.name)) ran ∙ ap not lost))
                | inr none ↦
                    ap (λ (u : Schedule). lost_stopped after seen t u slots) (stopped_none s g.name full (away g.name (slot_tells before old.own t slot g is).1 none)) ∙ more s full away
                    ∙ kept g.name (ap (λ b. b && not (runs_in after g.name)) none)
              ]
            ]

    -- what is so of the starts in some slots
    abbrev StartsMore : (ForkName → Bool) → (ℕ → ForkName → Bool) → List ℕ → Type 0
    StartsMore chosen picks slots =
        (u : Schedule) → IsFilled u → ((f : ForkName) → f.tty.0 ≡ t.0 → runs_in before f ≡ true → runs_in after f ≡ true → stands f u ≡ true)
        → picks_started after picks t u slots ≡ moved (map Starts (filter chosen (filter gains (names_in after t slots)))) u

    -- who can run starts, by a choice; where it could before, it stands
    job_starts : (chosen : ForkName → Bool) (picks : ℕ → ForkName → Bool) (slots : List ℕ) (s : Schedule) → IsFilled s
        → ((f : ForkName) → f.tty.0 ≡ t.0 → runs_in before f ≡ true → runs_in after f ≡ true → stands f s ≡ true)
        → ((slot : ℕ) (g : Fork) → IsAmong slot slots → fork_in after t slot ≡ Some g → picks slot g.name ≡ chosen g.name)
        → picks_started after picks t s slots ≡ moved (map Starts (filter chosen (filter gains (names_in after t slots)))) s
    unfolding IsAmong
    job_starts chosen picks [] s full there same = refl
    job_starts chosen picks (slot ∷ slots) s full there same = by (λ u full_u there_u. job_starts chosen picks slots u full_u there_u (λ k g among. same k g (inr among))) (fork_in after t slot) refl
      where
        either : (b : Bool) → cond b s s ≡ s
        either true = refl
        either false = refl

        passed : (g : ForkName) → gains g ≡ false
            → moved (map Starts (filter chosen (filter gains (names_in after t slots)))) s ≡ moved (map Starts (filter chosen (cond (gains g) (g ∷ filter gains (names_in after t slots)) (filter gains (names_in after t slots))))) s
        passed g none = sym (ap (λ b. moved (map Starts (filter chosen (cond b (g ∷ filter gains (names_in after t slots)) (filter gains (names_in after t slots))))) s) none)

        taken : (g : ForkName) → gains g ≡ true
            → moved (map Starts (filter chosen (cond (gains g) (g ∷ filter gains (names_in after t slots)) (filter gains (names_in after t slots))))) s
            ≡ moved (map Starts (cond (chosen g) (g ∷ filter chosen (filter gains (names_in after t slots))) (filter chosen (filter gains (names_in after t slots))))) s
        taken g is = ap (λ b. moved (map Starts (filter chosen (cond b (g ∷ filter gains (names_in after t slots)) (filter gains (names_in after t slots))))) s) is

        by : StartsMore chosen picks slots → (o : Option Fork) → fork_in after t slot ≡ o
            → picks_started after picks t (started_if after (picks slot) o s) slots ≡ moved (map Starts (filter chosen (filter gains (map (λ f. f.name) (cons_option o (filter_map (fork_in after t) slots)))))) s
        by more None is = more s full there
        by more (Some g) is = elim (cases_Bool (runs_in after g.name)) [
          | inr lost ↦
              ap (λ b. picks_started after picks t (cond (picks slot g.name && b) (started s g.name) s) slots) lost
              ∙ ap (λ b. picks_started after picks t (cond b (started s g.name) s) slots) (and-false (picks slot g.name))
              ∙ more s full there ∙ passed g.name (ap (λ b. b && not (runs_in before g.name)) lost)
          | inl runs ↦ elim (cases_Bool (runs_in before g.name)) [
            | inl ran ↦
                let still = started_none s g.name full (there g.name (slot_tells after new.own t slot g is).1 ran runs) in
                ap (λ (u : Schedule). picks_started after picks t (cond (picks slot g.name && runs_in after g.name) u s) slots) still
                ∙ ap (λ (u : Schedule). picks_started after picks t u slots) (either (picks slot g.name && runs_in after g.name))
                ∙ more s full there ∙ passed g.name (ap (λ b. runs_in after g.name && not b) ran ∙ and-false (runs_in after g.name))
            | inr none ↦ elim (cases_Bool (chosen g.name)) [
              | inl is_chosen ↦
                  ap (λ b. picks_started after picks t (cond b (started s g.name) s) slots) (ap (λ b. b && runs_in after g.name) (same slot g (inl refl) is ∙ is_chosen) ∙ runs)
                  ∙ more (started s g.name) (filled (woken s g.name)) (λ f here ran can. stands_started g.name f s ∙ ap (λ b. b || same_fork g.name f) (there f here ran can))
                  ∙ sym (taken g.name (ap (λ b. b && not (runs_in before g.name)) runs ∙ ap not none) ∙ ap (λ b. moved (map Starts (cond b (g.name ∷ filter chosen (filter gains (names_in after t slots))) (filter chosen (filter gains (names_in after t slots))))) s) is_chosen)
              | inr other ↦
                  ap (λ b. picks_started after picks t (cond b (started s g.name) s) slots) (ap (λ b. b && runs_in after g.name) (same slot g (inl refl) is ∙ other))
                  ∙ more s full there
                  ∙ sym (taken g.name (ap (λ b. b && not (runs_in before g.name)) runs ∙ ap not none) ∙ ap (λ b. moved (map Starts (cond b (g.name ∷ filter chosen (filter gains (names_in after t slots))) (filter chosen (filter gains (names_in after t slots))))) s) other)
            ]
          ]
        ]

    -- who was seen in its slot to wait for a fork waited for one
    waits_same : KeepSlots before after → (seen : List Seen) (slot : ℕ) (g : Fork) → fork_in after t slot ≡ Some g → seen_in seen t slot ≡ seen_of (fork_in before t slot) → has_waited seen t slot g.name ≡ waits_in before g.name
    waits_same keeps seen slot g is same = ap (λ (x : Seen). x.waits && is_seen g.name x) same ∙ by (fork_in before t slot) refl (finite.get before g.name) refl
      where
        found : (h : Fork) → finite.get before g.name ≡ Some h → fork_in before t slot ≡ Some h
        found h there =
            let at = slot_tells after new.own t slot g is in
            let name = old.own g.name h there in
            in_found before old t slot h (held_lives before old g.name h there, ap (λ (x : ForkName). x.tty.0) name ∙ at.1, sym (keeps g.name h g there at.0) ∙ at.2)

        by : (o : Option Fork) → fork_in before t slot ≡ o → (p : Option Fork) → finite.get before g.name ≡ p
            → ((seen_of o).waits && is_seen g.name (seen_of o)) ≡ option_map_or (λ f. waits_for_one f.body.status) p false
        by None is_none None none = refl
        by None is_none (Some h) there = absurd (let no : None ≡ Some h = sym is_none ∙ found h there in cc no)
        by (Some k) is_some None none = elim (cases_Bool (same_fork g.name k.name)) [
          | inl it ↦ absurd (let no : None ≡ Some k = sym none ∙ ap (finite.get before) (names_same g.name k.name it) ∙ (slot_tells before old.own t slot k is_some).0 in cc no)
          | inr apart ↦ ap (λ b. waits_for_one k.body.status && b) apart ∙ and-false (waits_for_one k.body.status)
        ]
        by (Some k) is_some (Some h) there =
            let one : k ≡ h = (let both : Some k ≡ Some h = sym is_some ∙ found h there in cc both) in
            let name : k.name ≡ g.name = ap (λ (x : Fork). x.name) one ∙ old.own g.name h there in
            ap (λ (x : ForkName). waits_for_one k.body.status && same_fork g.name x) name
            ∙ ap (λ b. waits_for_one k.body.status && b) (same_itself g.name) ∙ and-true (waits_for_one k.body.status) ∙ ap (λ (x : Fork). waits_for_one x.body.status) one

    -- THE LISTS THAT FOLLOW A JOB ARE THOSE BEHIND ITS MOVES
    pub followed_moves : (seen : List Seen) (s : Schedule) → IsFilled s → ((f : ForkName) → f.tty.0 ≡ t.0 → stands f s ≡ runs_in before f)
        → ((slot : ℕ) → 1 ≤ slot → slot ≤ MOST_FORKS → seen_in seen t slot ≡ seen_of (fork_in before t slot)) → KeepSlots before after
        → followed after seen t s ≡ moved (job_moves t job_slots) s
    unfolding job_slots
    followed_moves seen s full stand same keeps =
        let slots = range_with_len 1 MOST_FORKS in
        let at : (slot : ℕ) → IsAmong slot slots → seen_in seen t slot ≡ seen_of (fork_in before t slot) = λ slot among. let bounds = among_bounds slot 1 MOST_FORKS among in same slot bounds.0 (omega (arith, bounds.1)) in
        let waited : (slot : ℕ) (g : Fork) → IsAmong slot slots → fork_in after t slot ≡ Some g → has_waited seen t slot g.name ≡ waits_in before g.name = λ slot g among is. waits_same keeps seen slot g is (at slot among) in
        let waits : ℕ → ForkName → Bool = has_waited seen t in
        let others : ℕ → ForkName → Bool = λ slot f. not (has_waited seen t slot f) in
        let u = lost_stopped after seen t s slots in
        let v = picks_started after waits t u slots in
        let stops = job_stops seen slots s full (λ f here none. stand f here ∙ none) at in
        let full_u = lost_filled after seen t slots s full in
        let there : (f : ForkName) → f.tty.0 ≡ t.0 → runs_in before f ≡ true → runs_in after f ≡ true → stands f u ≡ true = λ f here ran runs. lost_keeps after seen t slots s f runs ∙ stand f here ∙ ran in
        let first = job_starts (waits_in before) waits slots u full_u there waited in
        let second = job_starts (λ f. not (waits_in before f)) others slots v (picks_filled after waits t slots u full_u)
        (λ f here ran runs. picks_keep after waits t slots u f (there f here ran runs)) (λ slot g among is. ap not (waited slot g among is)) in
        let three = map Starts (filter (λ f. not (waits_in before f)) (filter gains (names_in after t slots))) in
        let two = map Starts (filter (waits_in before) (filter gains (names_in after t slots))) in
        let one = map Stops (filter loses (names_in before t slots)) in
        second ∙ ap (moved three) (first ∙ ap (moved two) stops) ∙ sym (moved_both one (two ++ three) s ∙ moved_both two three (moved one s))
