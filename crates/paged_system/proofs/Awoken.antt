-- Who can run once sleepers are awoken, and that nobody moves where no fork changes.
use Rattle.std.proofs.Common.{◌≡◌, ℕ, zero, suc, Bool, true, false, not, ◌&&◌, ◌||◌, List, [], ◌++◌, map, filter, Option, None, Some, refl, sym, ◌∙◌, ap}
use Rattle.std.specs.Option.{option_and_then, option_map, option_map_or}
use Rattle.std.specs.FinMap as map_of
use Rattle.machine_names.specs.declared.names.ForkName.{ForkName}
use Rattle.machine_names.specs.declared.names.Tty.{Tty}
use Rattle.machine_names.specs.declared.names.TheConstants.{MOST_FORKS}
use Rattle.script_texts.specs.declared.status.ForkStatus.{ForkStatus}
use Rattle.script_texts.specs.declared.status.ForkStatus.TheVariants.{Run, Wait, Halted, Forced}
use Rattle.script_texts.specs.declared.status.WaitOn.TheVariants as on
use Rattle.plain_model.specs.declared.fork.Fork.{Fork}
use Rattle.plain_model.specs.Forks.{ForkMap, can_run, fork_in, is_frozen, is_run, runs_in, superior_of}
use Rattle.plain_model.specs.Moves.{Move, Starts, Stops, lets_run, moves, names_of, stopped_of, waits_for_one, waits_in}
use Rattle.plain_model.specs.Trees.{PlainTree, awoken, sleepers_awoken, without_sleep}
use Rattle.plain_model.proofs.ChangedForks.{changed_from, get_changed}
use Rattle.fork_tree.specs.Trees.{IsIn, IsTree}
use Rattle.fork_tree.proofs.Slots.{both_first, in_found, in_none, in_tells}
use Rattle.job_sched.specs.Schedules.{Schedule}
use Rattle.turn_forms.specs.Turns.{KeepSlots, moved}
use Rattle.turn_forms.proofs.Nothing.{all_fail}

never : (b : Bool) → (b && not b) ≡ false
never true = refl
never false = refl

-- from forks to the same forks nobody moves
none_move : (m : ForkMap) → moves m m ≡ []
unfolding moves
none_move m =
    let stops : stopped_of m m ≡ [] = all_fail (λ f. runs_in m f && not (runs_in m f)) (λ f. never (runs_in m f)) (names_of m) in
    let starts : lets_run m m ≡ [] = all_fail (λ f. runs_in m f && not (runs_in m f)) (λ f. never (runs_in m f)) (names_of m) in
    (λ i. map Stops (stops i) ++ (map Starts (filter (waits_in m) (starts i)) ++ map Starts (filter (λ f. not (waits_in m f)) (starts i))))

pub unmoved : (old new : ForkMap) (c : Schedule) → new ≡ old → c ≡ moved (moves old new) c
unmoved old new c same = sym (ap (λ (ms : List Move). moved ms c) (ap (moves old) same ∙ none_move old))

module _ (clock : ℕ) where
  -- who could run, or waited for a fork, sleeps no less
  run_stays : (s : ForkStatus) → is_run s ≡ true → without_sleep clock s ≡ s
  run_stays Run is = refl
  run_stays (Wait what) is = absurd (cc is)
  run_stays Halted is = absurd (cc is)
  run_stays (Forced channel) is = absurd (cc is)

  wait_stays : (s : ForkStatus) → waits_for_one s ≡ true → without_sleep clock s ≡ s
  wait_stays (Wait on.Fork) is = refl
  wait_stays (Wait on.Input) is = absurd (cc is)
  wait_stays (Wait (on.Sleep moment)) is = absurd (cc is)
  wait_stays Run is = absurd (cc is)
  wait_stays Halted is = absurd (cc is)
  wait_stays (Forced channel) is = absurd (cc is)

  module _ (old now : PlainTree) (trees : IsTree old) (still : IsTree now) (left : now ≡ record old { forks = sleepers_awoken clock old.forks }) where
    there : (f : ForkName) → map_of.get now.forks f ≡ option_map (awoken clock) (map_of.get old.forks f)
    unfolding sleepers_awoken
    there f = ap (λ (x : PlainTree). map_of.get x.forks f) left ∙ get_changed (awoken clock) old.forks f

    -- from whom one came
    came : (f : ForkName) (g : Fork) → map_of.get now.forks f ≡ Some g → (k : Fork) × (map_of.get old.forks f ≡ Some k) × (awoken clock k ≡ g)
    unfolding sleepers_awoken
    came f g is = changed_from (awoken clock) old.forks f g (sym (ap (λ (x : PlainTree). map_of.get x.forks f) left) ∙ is)

    -- each is in the slot in which it was
    pub slots_on : KeepSlots old.forks now.forks
    slots_on f g h was is =
        let from = came f h is in
        let both : Some from.0 ≡ Some g = sym from.1 ∙ was in
        let same : from.0 ≡ g = cc both in
        sym (ap (λ (k : Fork). k.slot) from.2) ∙ ap (λ (k : Fork). k.slot) same

    slot_awoken : (t : Tty) (slot : ℕ) → fork_in now.forks t slot ≡ option_map (awoken clock) (fork_in old.forks t slot)
    slot_awoken t slot = by (fork_in old.forks t slot) refl
      where
        by : (o : Option Fork) → fork_in old.forks t slot ≡ o → fork_in now.forks t slot ≡ option_map (awoken clock) o
        by None none = in_none now.forks still.slotted t slot (λ g at.
            let from = came g.name g at.0 in
            let named : from.0.name ≡ g.name = ap (λ (x : Fork). x.name) from.2 in
            let before : IsIn old.forks t slot from.0 = (ap (map_of.get old.forks) named ∙ from.1, ap (λ (x : Fork). x.name.tty.0) from.2 ∙ at.1, ap (λ (x : Fork). x.slot) from.2 ∙ at.2) in
            let no : None ≡ Some from.0 = sym none ∙ in_found old.forks trees.slotted t slot from.0 before in
            cc no)
        by (Some k) found =
            let at = in_tells old.forks trees.slotted t slot k found in
            in_found now.forks still.slotted t slot (awoken clock k) (there k.name ∙ ap (option_map (awoken clock)) at.0, at.1, at.2)

    superior_awoken : (k : Fork) → superior_of now.forks (awoken clock k) ≡ option_map (awoken clock) (superior_of old.forks k)
    superior_awoken k = by k.superior
      where
        by : (o : Option ℕ) → option_and_then (fork_in now.forks k.name.tty) o ≡ option_map (awoken clock) (option_and_then (fork_in old.forks k.name.tty) o)
        by None = refl
        by (Some slot) = slot_awoken k.name.tty slot

    frozen_awoken : (n : ℕ) (o : Option Fork) → is_frozen n now.forks (option_map (awoken clock) o) ≡ is_frozen n old.forks o
    frozen_awoken zero o = refl
    frozen_awoken (suc n) None = refl
    frozen_awoken (suc n) (Some k) =
        ap (λ (p : Option Fork). k.frozen || is_frozen n now.forks p) (superior_awoken k) ∙ ap (λ b. k.frozen || b) (frozen_awoken n (superior_of old.forks k))

    -- who doesn't sleep can run as before
    same_run : (k : Fork) → without_sleep clock k.body.status ≡ k.body.status → can_run now.forks (awoken clock k) ≡ can_run old.forks k
    same_run k same = (λ i. is_run (same i) && not (frozen_awoken MOST_FORKS (Some k) i))

    pub runs_on : (f : ForkName) → runs_in old.forks f ≡ true → runs_in now.forks f ≡ true
    runs_on f runs = ap (λ (o : Option Fork). option_map_or (can_run now.forks) o false) (there f) ∙ by (map_of.get old.forks f) runs
      where
        by : (o : Option Fork) → option_map_or (can_run old.forks) o false ≡ true → option_map_or (can_run now.forks) (option_map (awoken clock) o) false ≡ true
        by None is = absurd (cc is)
        by (Some k) is = same_run k (run_stays k.body.status (both_first (is_run k.body.status) (not (is_frozen MOST_FORKS old.forks (Some k))) is)) ∙ is

    pub waits_on : (f : ForkName) → waits_in old.forks f ≡ true → runs_in now.forks f ≡ true → runs_in old.forks f ≡ true
    waits_on f waits runs = by (map_of.get old.forks f) waits (sym (ap (λ (o : Option Fork). option_map_or (can_run now.forks) o false) (there f)) ∙ runs)
      where
        by : (o : Option Fork) → option_map_or (λ (k : Fork). waits_for_one k.body.status) o false ≡ true → option_map_or (can_run now.forks) (option_map (awoken clock) o) false ≡ true → option_map_or (can_run old.forks) o false ≡ true
        by None is h = absurd (cc is)
        by (Some k) is h = sym (same_run k (wait_stays k.body.status is)) ∙ h
