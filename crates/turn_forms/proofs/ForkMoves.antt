-- The lists that follow one fork, and one that it may have made, are those behind their moves.
use Rattle.std.proofs.Common.{◌≡◌, ◌≢◌, ℕ, ◌<◌, Bool, true, false, cond, not, ◌&&◌, ◌||◌, List, [], ◌∷◌, ◌++◌, map, filter, Option, None, Some, refl, sym, ◌∙◌, ap, subst, inl, inr}
use Rattle.std.proofs.lemmas.Bool.{cases_Bool}
use Rattle.std.proofs.Math.Bool.{and-false, or-true}
use Rattle.std.specs.List.{cons_option, filter_map, list_any}
use Rattle.std.specs.Option.{option_map_or}
use Rattle.std.specs.FinMap as finite
use Rattle.machine_names.specs.Orders.{same_fork}
use Rattle.machine_names.specs.declared.names.ForkName.{ForkName}
use Rattle.machine_names.specs.declared.names.Tty.{Tty}
use Rattle.machine_names.specs.declared.names.TheConstants.{TERMINALS}
use Rattle.plain_model.specs.declared.fork.Fork.{Fork}
use Rattle.plain_model.specs.Forks.{ForkMap, can_run, fork_in, runs_in}
use Rattle.plain_model.specs.Moves.{Stops, Starts, moves, names_of, waits_in}
use Rattle.plain_model.specs.Trees.{PlainTree}
use Rattle.plain_model.proofs.ForkMaps.{both_first, cases_name, names_same, same_itself}
use Rattle.fork_tree.specs.Trees.{AreSlotted, IsTree}
use Rattle.fork_tree.specs.Making.{last_name}
use Rattle.fork_tree.proofs.Slots.{held_lives}
use Rattle.job_sched.specs.Schedules.{Schedule, left, stands, started, stopped, woken}
use Rattle.job_sched.specs.Ties.{IsFilled}
use Rattle.job_sched.proofs.Ties.{filled}
use Rattle.fork_lists.specs.declared.lists.ForkLists.{ForkLists}
use Rattle.fork_lists.specs.Following.{started_if, stopped_if}
use Rattle.fork_lists.specs.Seeing.{job_slots}
use Rattle.fork_lists.specs.Ties.{CanFollowMaker}
use Rattle.fork_lists.proofs.Beside.{runs_as}
use Rattle.fork_lists.proofs.Chosen.{test_filled}
use Rattle.fork_lists.proofs.Folds.{IsAmong, stands_started, stands_stopped, stop_filled, stop_one}
use Rattle.fork_lists.proofs.Tied.{at_slot, runs_lives, some_is}
use Rattle.turn_forms.specs.Turns.{moved}
use Rattle.turn_forms.proofs.JobMoves.{and_not, gains, loses, names_here, names_in}
use Rattle.turn_forms.proofs.Nothing.{all_fail, moved_both, started_none, stopped_none}

either : (b : Bool) (u : Schedule) → cond b u u ≡ u
either true u = refl
either false u = refl

-- another name isn't this one
apart_names : (f g : ForkName) → f ≢ g → same_fork g f ≡ false
apart_names f g other = elim (cases_Bool (same_fork g f)) [
  | inl same ↦ absurd (other (sym (names_same g f same)))
  | inr apart ↦ apart
]

-- whether a name is among some
abbrev has_name : ForkName → List ForkName → Bool
has_name f fs = list_any (same_fork f) fs

-- a fork in one of the slots is among their names
name_in : (forks : ForkMap) (t : Tty) (slot : ℕ) (g : Fork) → fork_in forks t slot ≡ Some g → (slots : List ℕ) → IsAmong slot slots → has_name g.name (names_in forks t slots) ≡ true
unfolding IsAmong
name_in forks t slot g is [] none = absurd none
name_in forks t slot g is (k ∷ slots) (inl here) =
    ap (λ (o : Option Fork). has_name g.name (map (λ f. f.name) (cons_option o (filter_map (fork_in forks t) slots)))) (ap (fork_in forks t) here ∙ is)
    ∙ ap (λ b. b || has_name g.name (names_in forks t slots)) (same_itself g.name)
name_in forks t slot g is (k ∷ slots) (inr later) = by (name_in forks t slot g is slots later) (fork_in forks t k)
  where
    by : has_name g.name (names_in forks t slots) ≡ true → (o : Option Fork) → has_name g.name (map (λ f. f.name) (cons_option o (filter_map (fork_in forks t) slots))) ≡ true
    by there None = there
    by there (Some h) = ap (λ b. same_fork g.name h.name || b) there ∙ or-true (same_fork g.name h.name)

-- one that can run is among the names of its job, and of a terminal
runs_named : (forks : ForkMap) → AreSlotted forks → (f : ForkName) → runs_in forks f ≡ true → (f.tty.0 < TERMINALS) × (has_name f (names_in forks f.tty job_slots) ≡ true)
runs_named forks slotted f runs =
    let lives = runs_lives forks f runs in
    let at = at_slot forks slotted f lives.0 lives.1 in
    let named = slotted.named lives.0 (held_lives forks slotted f lives.0 lives.1) in (
      subst (λ (x : ForkName). x.tty.0 < TERMINALS) at.2 named.0,
      subst (λ (x : ForkName). has_name x (names_in forks f.tty job_slots) ≡ true) at.2 (name_in forks f.tty lives.0.slot lives.0 at.0 job_slots at.1),
    )

-- of some names one alone passes a test: it stops once, however often it is there
only_stop : (p : ForkName → Bool) (who : ForkName) → ((f : ForkName) → f ≢ who → p f ≡ false) → (fs : List ForkName) (s : Schedule) → IsFilled s
    → moved (map Stops (filter p fs)) s ≡ cond (p who && has_name who fs) (stopped s who) s
only_stop p who others [] s full = sym (ap (λ b. cond b (stopped s who) s) (and-false (p who)))
only_stop p who others (f ∷ fs) s full = elim (cases_name f who) [
  | inr other ↦
      ap (λ b. moved (map Stops (cond b (f ∷ filter p fs) (filter p fs))) s) (others f other) ∙ only_stop p who others fs s full
      ∙ sym (ap (λ b. cond (p who && (b || has_name who fs)) (stopped s who) s) (apart_names f who other))
  | inl it ↦ elim (cases_Bool (p who)) [
    | inr fails ↦
        ap (λ b. moved (map Stops (cond b (f ∷ filter p fs) (filter p fs))) s) (ap p it ∙ fails) ∙ only_stop p who others fs s full
        ∙ ap (λ b. cond (b && has_name who fs) (stopped s who) s) fails ∙ sym (ap (λ b. cond (b && has_name who (f ∷ fs)) (stopped s who) s) fails)
    | inl passes ↦
        let u = stopped s who in
        ap (λ b. moved (map Stops (cond b (f ∷ filter p fs) (filter p fs))) s) (ap p it ∙ passes)
        ∙ ap (λ (x : ForkName). moved (map Stops (filter p fs)) (stopped s x)) it
        ∙ only_stop p who others fs u (filled (left s who))
        ∙ ap (λ (v : Schedule). cond (p who && has_name who fs) v u) (stopped_none u who (filled (left s who)) (stands_stopped who who s ∙ ap (λ b. stands who s && not b) (same_itself who) ∙ and-false (stands who s)))
        ∙ either (p who && has_name who fs) u
        ∙ sym (ap (λ b. cond (b && has_name who (f ∷ fs)) u s) passes ∙ ap (λ b. cond (b || has_name who fs) u s) (ap (same_fork who) it ∙ same_itself who))
  ]
]

-- it starts once
only_start : (p : ForkName → Bool) (who : ForkName) → ((f : ForkName) → f ≢ who → p f ≡ false) → (chosen : ForkName → Bool) (fs : List ForkName) (s : Schedule) → IsFilled s
    → moved (map Starts (filter chosen (filter p fs))) s ≡ cond (chosen who && (p who && has_name who fs)) (started s who) s
only_start p who others chosen [] s full = sym (ap (λ b. cond (chosen who && b) (started s who) s) (and-false (p who)) ∙ ap (λ b. cond b (started s who) s) (and-false (chosen who)))
only_start p who others chosen (f ∷ fs) s full = elim (cases_name f who) [
  | inr other ↦
      ap (λ b. moved (map Starts (filter chosen (cond b (f ∷ filter p fs) (filter p fs)))) s) (others f other) ∙ only_start p who others chosen fs s full
      ∙ sym (ap (λ b. cond (chosen who && (p who && (b || has_name who fs))) (started s who) s) (apart_names f who other))
  | inl it ↦ elim (cases_Bool (p who)) [
    | inr fails ↦
        ap (λ b. moved (map Starts (filter chosen (cond b (f ∷ filter p fs) (filter p fs)))) s) (ap p it ∙ fails) ∙ only_start p who others chosen fs s full
        ∙ ap (λ b. cond (chosen who && (b && has_name who fs)) (started s who) s) fails ∙ sym (ap (λ b. cond (chosen who && (b && has_name who (f ∷ fs))) (started s who) s) fails)
    | inl passes ↦ elim (cases_Bool (chosen who)) [
      | inr other ↦
          ap (λ b. moved (map Starts (filter chosen (cond b (f ∷ filter p fs) (filter p fs)))) s) (ap p it ∙ passes)
          ∙ ap (λ b. moved (map Starts (cond b (f ∷ filter chosen (filter p fs)) (filter chosen (filter p fs)))) s) (ap chosen it ∙ other)
          ∙ only_start p who others chosen fs s full
          ∙ ap (λ b. cond (b && (p who && has_name who fs)) (started s who) s) other ∙ sym (ap (λ b. cond (b && (p who && has_name who (f ∷ fs))) (started s who) s) other)
      | inl is ↦
          let u = started s who in
          ap (λ b. moved (map Starts (filter chosen (cond b (f ∷ filter p fs) (filter p fs)))) s) (ap p it ∙ passes)
          ∙ ap (λ b. moved (map Starts (cond b (f ∷ filter chosen (filter p fs)) (filter chosen (filter p fs)))) s) (ap chosen it ∙ is)
          ∙ ap (λ (x : ForkName). moved (map Starts (filter chosen (filter p fs))) (started s x)) it
          ∙ only_start p who others chosen fs u (filled (woken s who))
          ∙ ap (λ (v : Schedule). cond (chosen who && (p who && has_name who fs)) v u) (started_none u who (filled (woken s who)) (stands_started who who s ∙ ap (λ b. stands who s || b) (same_itself who) ∙ or-true (stands who s)))
          ∙ either (chosen who && (p who && has_name who fs)) u
          ∙ sym (ap (λ b. cond (b && (p who && has_name who (f ∷ fs))) u s) is ∙ ap (λ b. cond (b && has_name who (f ∷ fs)) u s) passes ∙ ap (λ b. cond (b || has_name who fs) u s) (ap (same_fork who) it ∙ same_itself who))
    ]
  ]
]

-- one fork ran, and another alone may have started: the lists are those behind the moves
module _ (before after : ForkMap) (old : AreSlotted before) (new : AreSlotted after) (who newest : ForkName) (s : Schedule) (full : IsFilled s) (ran : runs_in before who ≡ true)
    (others : (f : ForkName) → f ≢ who → f ≢ newest → runs_in after f ≡ runs_in before f) (goes_on : newest ≢ who → runs_in before newest ≡ true → runs_in after newest ≡ true) where
  lose_none : (f : ForkName) → f ≢ who → loses before after f ≡ false
  lose_none f other = elim (cases_name f newest) [
    | inl it ↦ elim (cases_Bool (runs_in before f)) [
      | inl is ↦
          ap (λ b. b && not (runs_in after f)) is
          ∙ ap not (ap (runs_in after) it ∙ goes_on (λ same. other (it ∙ same)) (ap (runs_in before) (sym it) ∙ is))
      | inr lost ↦ ap (λ b. b && not (runs_in after f)) lost
    ]
    | inr apart ↦ ap (λ b. runs_in before f && not b) (others f other apart) ∙ and_not (runs_in before f)
  ]

  gain_none : (f : ForkName) → f ≢ newest → gains before after f ≡ false
  gain_none f apart = elim (cases_name f who) [
    | inl it ↦ ap (λ b. runs_in after f && not b) (ap (runs_in before) it ∙ ran) ∙ and-false (runs_in after f)
    | inr other ↦ ap (λ b. b && not (runs_in before f)) (others f other apart) ∙ and_not (runs_in before f)
  ]

  -- who stops
  stopped_moves : moved (map Stops (filter (loses before after) (names_of before))) s ≡ stopped_if after (Some who) s
  stopped_moves =
      let named = runs_named before old who ran in
      ap (λ (fs : List ForkName). moved (map Stops fs) s) (names_here before old who.tty (loses before after) named.0 (λ f away. lose_none f (λ same. away (ap (λ (x : ForkName). x.tty.0) same))))
      ∙ only_stop (loses before after) who lose_none (names_in before who.tty job_slots) s full
      ∙ ap (λ b. cond (loses before after who && b) (stopped s who) s) named.1
      ∙ ap (λ b. cond ((b && not (runs_in after who)) && true) (stopped s who) s) ran ∙ by (runs_in after who)
    where
      by : (b : Bool) → cond (not b && true) (stopped s who) s ≡ cond b s (stopped s who)
      by true = refl
      by false = refl

  -- who starts, whether or not it waited for a fork
  started_moves : (u : Schedule) → IsFilled u
      → moved (map Starts (filter (λ f. not (waits_in before f)) (filter (gains before after) (names_of after)))) (moved (map Starts (filter (waits_in before) (filter (gains before after) (names_of after)))) u)
      ≡ cond (gains before after newest) (started u newest) u
  started_moves u full_u = elim (cases_Bool (gains before after newest)) [
    | inr none ↦
        let nobody : filter (gains before after) (names_of after) ≡ [] = all_fail (gains before after) (λ f. elim (cases_name f newest) [
          | inl it ↦ ap (gains before after) it ∙ none
          | inr apart ↦ gain_none f apart
        ]) (names_of after) in
        ap (λ (fs : List ForkName). moved (map Starts (filter (λ f. not (waits_in before f)) fs)) (moved (map Starts (filter (waits_in before) fs)) u)) nobody
        ∙ sym (ap (λ b. cond b (started u newest) u) none)
    | inl is ↦
        let named = runs_named after new newest (both_first (runs_in after newest) (not (runs_in before newest)) is) in
        let here = names_here after new newest.tty (gains before after) named.0 (λ f away. gain_none f (λ same. away (ap (λ (x : ForkName). x.tty.0) same))) in
        let fs = names_in after newest.tty job_slots in
        let there : (gains before after newest && has_name newest fs) ≡ true = ap (λ b. b && has_name newest fs) is ∙ named.1 in
        let u' = moved (map Starts (filter (waits_in before) (filter (gains before after) fs))) u in
        ap (λ (gs : List ForkName). moved (map Starts (filter (λ f. not (waits_in before f)) gs)) (moved (map Starts (filter (waits_in before) gs)) u)) here
        ∙ elim (cases_Bool (waits_in before newest)) [
          | inl waits ↦
              let first : u' ≡ started u newest =
              only_start (gains before after) newest gain_none (waits_in before) fs u full_u ∙ ap (λ b. cond (b && (gains before after newest && has_name newest fs)) (started u newest) u) waits ∙ ap (λ b. cond b (started u newest) u) there in
              ap (moved (map Starts (filter (λ f. not (waits_in before f)) (filter (gains before after) fs)))) first
              ∙ only_start (gains before after) newest gain_none (λ f. not (waits_in before f)) fs (started u newest) (filled (woken u newest))
              ∙ ap (λ b. cond (not b && (gains before after newest && has_name newest fs)) (started (started u newest) newest) (started u newest)) waits
              ∙ sym (ap (λ b. cond b (started u newest) u) is)
          | inr not_waits ↦
              let first : u' ≡ u = only_start (gains before after) newest gain_none (waits_in before) fs u full_u ∙ ap (λ b. cond (b && (gains before after newest && has_name newest fs)) (started u newest) u) not_waits in
              ap (moved (map Starts (filter (λ f. not (waits_in before f)) (filter (gains before after) fs)))) first
              ∙ only_start (gains before after) newest gain_none (λ f. not (waits_in before f)) fs u full_u
              ∙ ap (λ b. cond (not b && (gains before after newest && has_name newest fs)) (started u newest) u) not_waits
              ∙ ap (λ b. cond b (started u newest) u) there ∙ sym (ap (λ b. cond b (started u newest) u) is)
        ]
  ]

  pub maker_moves : stands newest s ≡ runs_in before newest → started_if after (λ f. true) (finite.get after newest) (stopped_if after (Some who) s) ≡ moved (moves before after) s
  unfolding moves
  maker_moves stand =
      let u = stopped_if after (Some who) s in
      let full_u = stop_filled after (Some who) s full in
      let one = map Stops (filter (loses before after) (names_of before)) in
      let two = map Starts (filter (waits_in before) (filter (gains before after) (names_of after))) in
      let three = map Starts (filter (λ f. not (waits_in before f)) (filter (gains before after) (names_of after))) in
      last (finite.get after newest) refl ∙ sym (moved_both one (two ++ three) s ∙ moved_both two three (moved one s) ∙ ap (λ (v : Schedule). moved three (moved two v)) stopped_moves ∙ started_moves u full_u)
    where
      last : (o : Option Fork) → finite.get after newest ≡ o
          → started_if after (λ f. true) o (stopped_if after (Some who) s) ≡ cond (gains before after newest) (started (stopped_if after (Some who) s) newest) (stopped_if after (Some who) s)
      last None none = sym (ap (λ b. cond (b && not (runs_in before newest)) (started (stopped_if after (Some who) s) newest) (stopped_if after (Some who) s)) (none_can none))
        where
          none_can : finite.get after newest ≡ None → runs_in after newest ≡ false
          none_can none = elim (cases_Bool (runs_in after newest)) [
            | inl runs ↦ absurd (let lives = runs_lives after newest runs in let no : None ≡ Some lives.0 = sym none ∙ lives.1 in cc no)
            | inr lost ↦ lost
          ]
      last (Some g) is =
          let u = stopped_if after (Some who) s in
          ap (λ (x : ForkName). cond (runs_in after x) (started u x) u) (new.own newest g is) ∙ elim (cases_Bool (runs_in after newest)) [
            | inr lost ↦ ap (λ b. cond b (started u newest) u) lost ∙ sym (ap (λ b. cond (b && not (runs_in before newest)) (started u newest) u) lost)
            | inl runs ↦ ap (λ b. cond b (started u newest) u) runs ∙ elim (cases_Bool (runs_in before newest)) [
              | inl was ↦
                  started_none u newest (stop_filled after (Some who) s full) (stop_one after (Some who) s newest runs ∙ stand ∙ was)
                  ∙ sym (ap (λ b. cond (runs_in after newest && not b) (started u newest) u) was ∙ ap (λ b. cond b (started u newest) u) (and-false (runs_in after newest)))
              | inr was_not ↦ sym (ap (λ b. cond (b && not (runs_in before newest)) (started u newest) u) runs ∙ ap (λ b. cond (not b) (started u newest) u) was_not)
            ]
          ]

  -- where no other may have started
  pub own_moves : newest ≡ who → stopped_if after (Some who) s ≡ moved (moves before after) s
  unfolding moves
  own_moves same =
      let u = stopped_if after (Some who) s in
      let one = map Stops (filter (loses before after) (names_of before)) in
      let two = map Starts (filter (waits_in before) (filter (gains before after) (names_of after))) in
      let three = map Starts (filter (λ f. not (waits_in before f)) (filter (gains before after) (names_of after))) in
      sym (moved_both one (two ++ three) s ∙ moved_both two three (moved one s) ∙ ap (λ (v : Schedule). moved three (moved two v)) stopped_moves
      ∙ started_moves u (stop_filled after (Some who) s full)
      ∙ ap (λ b. cond b (started u newest) u) (ap (λ b. runs_in after newest && not b) (ap (runs_in before) same ∙ ran) ∙ and-false (runs_in after newest)))

-- so where the lists follow a fork that may have made another
pub made_moves : (now : PlainTree) (who : ForkName) (slot : ℕ) (l : ForkLists) → IsTree now → (can : CanFollowMaker now who slot l)
    → started_if now.forks (λ f. true) (finite.get now.forks (last_name now who.tty)) (stopped_if now.forks (Some who) l.sched) ≡ moved (moves can.old.forks now.forks) l.sched
made_moves now who slot l still can =
    let old = can.old in
    let newest = last_name now who.tty in
    maker_moves old.forks now.forks can.trees.slotted still.slotted who newest l.sched (test_filled l.sched can.tied.filled) can.runs
    (λ f other apart. by f other apart (finite.get old.forks f) refl)
    (λ other was. let lives = runs_lives old.forks newest was in runs_as who old now can.trees still can.adds newest lives.0 other lives.1 ∙ was)
    ((can.tied.each newest.tty).listed newest refl)
  where
    none_runs : (forks : ForkMap) (f : ForkName) → finite.get forks f ≡ None → runs_in forks f ≡ false
    none_runs forks f none = ap (λ (o : Option Fork). option_map_or (can_run forks) o false) none

    by : (f : ForkName) → f ≢ who → f ≢ last_name now who.tty → (o : Option Fork) → finite.get can.old.forks f ≡ o → runs_in now.forks f ≡ runs_in can.old.forks f
    by f other apart (Some k) is = runs_as who can.old now can.trees still can.adds f k other is
    by f other apart None is = at (finite.get now.forks f) refl
      where
        at : (o : Option Fork) → finite.get now.forks f ≡ o → runs_in now.forks f ≡ runs_in can.old.forks f
        at None none = none_runs now.forks f none ∙ sym (none_runs can.old.forks f is)
        at (Some g) there = absurd (apart (can.adds.added f is (some_is (finite.get now.forks f) g there)))
