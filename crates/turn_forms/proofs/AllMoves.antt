-- The lists that follow all jobs, where nobody stops, are those behind the moves.
use Rattle.std.proofs.Common.{◌≡◌, ◌≢◌, ℕ, zero, suc, ◌+◌, ◌<◌, ◌≤◌, Bool, true, false, cond, not, ◌&&◌, ◌||◌, List, [], ◌∷◌, ◌++◌, map, filter, Option, None, Some, refl, sym, ◌∙◌, ap, inl, inr, arith}
use Rattle.std.proofs.lemmas.Bool.{cases_Bool, or_parts}
use Rattle.std.proofs.Math.Bool.{or-false}
use Rattle.std.proofs.lemmas.List.{map-append}
use Rattle.std.proofs.lemmas.List.Elements.{filter-append}
use Rattle.std.specs.List.{cons_option, filter_map, flat_map, list_any, range_with_len}
use Rattle.machine_names.specs.Orders.{same_fork}
use Rattle.machine_names.specs.declared.names.ForkName.{ForkName}
use Rattle.machine_names.specs.declared.names.Tty.{Tty}
use Rattle.machine_names.specs.declared.names.TheConstants.{MOST_FORKS, TERMINALS}
use Rattle.plain_model.specs.declared.fork.Fork.{Fork}
use Rattle.plain_model.specs.Forks.{ForkMap, fork_in, runs_in}
use Rattle.plain_model.specs.Moves.{Move, Stops, Starts, moves, names_of, waits_in}
use Rattle.plain_model.proofs.ForkMaps.{names_same, slot_tells}
use Rattle.fork_tree.specs.Trees.{AreSlotted}
use Rattle.job_sched.specs.Schedules.{Schedule, stands, started}
use Rattle.job_sched.specs.Ties.{IsFilled}
use Rattle.fork_lists.specs.declared.seen.Seen.{Seen}
use Rattle.fork_lists.specs.Following.{followed_all}
use Rattle.fork_lists.specs.Seeing.{all_jobs, job_slots, seen_in, seen_of}
use Rattle.fork_lists.proofs.Folds.{stands_started}
use Rattle.turn_forms.specs.Turns.{KeepSlots, moved}
use Rattle.turn_forms.proofs.JobMoves.{followed_moves, gains, loses, names_in}
use Rattle.turn_forms.proofs.Nothing.{all_fail, moved_both, moved_filled}

-- of those that pass one test none passes another
module _ {A : Type 0} (p q : A → Bool) (apart : (x : A) → p x ≡ true → q x ≡ false) where
  fails : (x : A) → q x ≡ true → p x ≡ false
  fails x passes = elim (cases_Bool (p x)) [
    | inl is ↦ absurd (let no : true ≡ false = sym passes ∙ apart x is in cc no)
    | inr none ↦ none
  ]

  neither : (xs : List A) → filter p (filter q xs) ≡ []
  neither [] = refl
  neither (x ∷ xs) = elim (cases_Bool (q x)) [
    | inl passes ↦
        ap (λ b. filter p (cond b (x ∷ filter q xs) (filter q xs))) passes
        ∙ ap (λ b. cond b (x ∷ filter p (filter q xs)) (filter p (filter q xs))) (fails x passes) ∙ neither xs
    | inr none ↦ ap (λ b. filter p (cond b (x ∷ filter q xs) (filter q xs))) none ∙ neither xs
  ]

  all_others : (xs : List A) → filter (λ x. not (p x)) (filter q xs) ≡ filter q xs
  all_others [] = refl
  all_others (x ∷ xs) = elim (cases_Bool (q x)) [
    | inl passes ↦
        ap (λ b. filter (λ y. not (p y)) (cond b (x ∷ filter q xs) (filter q xs))) passes
        ∙ ap (λ b. cond (not b) (x ∷ filter (λ y. not (p y)) (filter q xs)) (filter (λ y. not (p y)) (filter q xs))) (fails x passes)
        ∙ ap (λ (ys : List A). x ∷ ys) (all_others xs) ∙ sym (ap (λ b. cond b (x ∷ filter q xs) (filter q xs)) passes)
    | inr none ↦
        ap (λ b. filter (λ y. not (p y)) (cond b (x ∷ filter q xs) (filter q xs))) none ∙ all_others xs
        ∙ sym (ap (λ b. cond b (x ∷ filter q xs) (filter q xs)) none)
  ]

-- who is none of those that start stands where it stood
stands_others : (g : ForkName) (fs : List ForkName) (s : Schedule) → list_any (λ f. same_fork f g) fs ≡ false → stands g (moved (map Starts fs) s) ≡ stands g s
stands_others g [] s none = refl
stands_others g (f ∷ fs) s none =
    let parts = or_parts (same_fork f g) (list_any (λ h. same_fork h g) fs) none in
    stands_others g fs (started s f) parts.1 ∙ stands_started f g s ∙ ap (λ b. stands g s || b) parts.0 ∙ or-false (stands g s)

-- a fork of another job isn't among those of one
not_there : (forks : ForkMap) → AreSlotted forks → (t : Tty) (g : ForkName) → g.tty.0 ≢ t.0 → (p : ForkName → Bool) (slots : List ℕ) → list_any (λ f. same_fork f g) (filter p (names_in forks t slots)) ≡ false
not_there forks slotted t g other p [] = refl
not_there forks slotted t g other p (slot ∷ slots) = by (not_there forks slotted t g other p slots) (fork_in forks t slot) refl
  where
    by : list_any (λ f. same_fork f g) (filter p (names_in forks t slots)) ≡ false → (o : Option Fork) → fork_in forks t slot ≡ o
        → list_any (λ f. same_fork f g) (filter p (map (λ f. f.name) (cons_option o (filter_map (fork_in forks t) slots)))) ≡ false
    by rest None is = rest
    by rest (Some h) is =
        let apart : same_fork h.name g ≡ false = elim (cases_Bool (same_fork h.name g)) [
          | inl same ↦ absurd (other (sym (ap (λ (x : ForkName). x.tty.0) (names_same h.name g same)) ∙ (slot_tells forks slotted.own t slot h is).1))
          | inr none ↦ none
        ] in
        elim (cases_Bool (p h.name)) [
          | inl passes ↦
              ap (λ b. list_any (λ f. same_fork f g) (cond b (h.name ∷ filter p (names_in forks t slots)) (filter p (names_in forks t slots)))) passes
              ∙ ap (λ b. b || list_any (λ f. same_fork f g) (filter p (names_in forks t slots))) apart ∙ rest
          | inr none ↦ ap (λ b. list_any (λ f. same_fork f g) (cond b (h.name ∷ filter p (names_in forks t slots)) (filter p (names_in forks t slots)))) none ∙ rest
        ]

module _ (before after : ForkMap) (old : AreSlotted before) (new : AreSlotted after) (seen : List Seen) (none_stops : (f : ForkName) → runs_in before f ≡ true → runs_in after f ≡ true)
    (none_waited : (f : ForkName) → waits_in before f ≡ true → gains before after f ≡ false) (keeps : KeepSlots before after)
    (same : (t : Tty) (slot : ℕ) → t.0 < TERMINALS → 1 ≤ slot → slot ≤ MOST_FORKS → seen_in seen t slot ≡ seen_of (fork_in before t slot)) where
  lose_none : (f : ForkName) → loses before after f ≡ false
  lose_none f = elim (cases_Bool (runs_in before f)) [
    | inl is ↦ ap (λ b. b && not (runs_in after f)) is ∙ ap not (none_stops f is)
    | inr lost ↦ ap (λ b. b && not (runs_in after f)) lost
  ]

  -- so the moves are starts
  only_starts : (stopping starting : List ForkName)
      → map Stops (filter (loses before after) stopping) ++ (map Starts (filter (waits_in before) (filter (gains before after) starting)) ++ map Starts (filter (λ f. not (waits_in before f)) (filter (gains before after) starting)))
      ≡ map Starts (filter (gains before after) starting)
  only_starts stopping starting =
      ap (λ (fs : List ForkName). map Stops fs ++ (map Starts (filter (waits_in before) (filter (gains before after) starting)) ++ map Starts (filter (λ f. not (waits_in before f)) (filter (gains before after) starting)))) (all_fail (loses before after) lose_none stopping)
      ∙ ap (λ (fs : List ForkName). map Starts fs ++ map Starts (filter (λ f. not (waits_in before f)) (filter (gains before after) starting))) (neither (waits_in before) (gains before after) none_waited starting)
      ∙ ap (map Starts) (all_others (waits_in before) (gains before after) none_waited starting)

  abbrev names_at : ℕ → List ForkName
  names_at k = names_in after (record { 0 = k }) job_slots

  job_by_job : (from len : ℕ) (s : Schedule) → from + len ≤ TERMINALS → IsFilled s → ((f : ForkName) → from ≤ f.tty.0 → stands f s ≡ runs_in before f)
      → followed_all after seen s (range_with_len from len) ≡ moved (map Starts (filter (gains before after) (flat_map names_at (range_with_len from len)))) s
  job_by_job from zero s low full stand = refl
  job_by_job from (suc len) s low full stand =
      let t : Tty = record { 0 = from } in
      let fs = filter (gains before after) (names_at from) in
      let rest = range_with_len (from + 1) len in
      let u = moved (map Starts fs) s in
      let one = followed_moves before after old new t seen s full (λ f here. stand f (omega (arith, here))) (λ slot first last. same t slot (omega (arith, low)) first last) keeps
      ∙ ap (λ (ms : List Move). moved ms s) (only_starts (names_in before t job_slots) (names_at from)) in
      let more = job_by_job (from + 1) len u (omega (arith, low)) (moved_filled (map Starts fs) s full)
      (λ f high. stands_others f fs s (not_there after new t f (λ at. omega (arith, high, at)) (gains before after) job_slots) ∙ stand f (omega (arith, high))) in
      ap (λ (v : Schedule). followed_all after seen v rest) one ∙ more
      ∙ sym (ap (λ (gs : List ForkName). moved (map Starts gs) s) (filter-append (gains before after) (names_at from) (flat_map names_at rest))
      ∙ ap (λ (ms : List Move). moved ms s) (map-append Starts fs (filter (gains before after) (flat_map names_at rest)))
      ∙ moved_both (map Starts fs) (map Starts (filter (gains before after) (flat_map names_at rest))) s)

  -- THE LISTS THAT FOLLOW ALL JOBS ARE THOSE BEHIND THE MOVES
  pub all_followed : (s : Schedule) → IsFilled s → ((f : ForkName) → stands f s ≡ runs_in before f) → followed_all after seen s all_jobs ≡ moved (moves before after) s
  unfolding moves all_jobs job_slots
  all_followed s full stand =
      job_by_job 0 TERMINALS s (omega arith) full (λ f high. stand f)
      ∙ sym (ap (λ (ms : List Move). moved ms s) (only_starts (names_of before) (names_of after)))
