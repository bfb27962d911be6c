-- Sleeps, as calls begin and end them and ticks end them.
use Rattle.std.proofs.Common.{◌≡◌, ◌≢◌, ℕ, ◌+◌, ◌<◌, ◌≤◌, Bool, true, false, cond, [], Option, None, Some, refl, sym, ◌∙◌, ap, arith}
use Rattle.std.specs.Prelude.{◌==◌, nat_le}
use Rattle.std.specs.Option.{option_and_then, option_map}
use Rattle.std.specs.FinMap as map
use Rattle.std.proofs.lemmas.Bool.{eq-eqb}
use Rattle.std.proofs.lemmas.Bool.Decides.{nat_tests}
use Rattle.machine_names.specs.declared.names.TheConstants.{MOST_FORKS}
use Rattle.plain_units.specs.Deeds.{in_ac}
use Rattle.script_texts.specs.declared.status.ForkStatus.{ForkStatus}
use Rattle.script_texts.specs.declared.status.ForkStatus.TheVariants.{Run, Wait, Halted, Forced}
use Rattle.script_texts.specs.declared.status.WaitOn.TheVariants as on
use Rattle.plain_model.specs.declared.call.End.{End}
use Rattle.plain_model.specs.declared.call.End.TheVariants.{Waits}
use Rattle.plain_model.specs.declared.call.SleepChange.{SleepChange}
use Rattle.plain_model.specs.declared.call.SleepChange.TheVariants.{Awakes, Nothing}
use Rattle.plain_model.specs.declared.call.TheConstants.{DISMS}
use Rattle.plain_model.specs.declared.fork.Fork.{Fork}
use Rattle.plain_model.specs.Calls.{behind_call, ends, fork_behind, no_files, parts_behind, returning, turn_on, with_wait}
use Rattle.plain_model.specs.ClockCalls.{clock_changed, sleeping, without_moment}
use Rattle.plain_model.specs.Families.{asks_clock, behind}
use Rattle.plain_model.specs.Forks.{ForkMap, IsRunnable, counted, is_frozen, with_regs, with_status}
use Rattle.plain_model.specs.State.{PlainState}
use Rattle.plain_model.specs.Trees.{awoken, changed, tree_of, without_sleep}
use Rattle.plain_model.specs.Unit.{Effect, called, caller_ended, over, parts_of, turned, unit, unit_ended}
use Rattle.plain_model.proofs.Equations.{outer_tick, unit_plain}
use Rattle.plain_model.proofs.ForkMaps.{get_put, put_again}
use Rattle.fork_tree.proofs.CanRun.{runs_as}
use Rattle.fork_tree.proofs.Sleepers.{each_awoken, frozen_same, none_awoken}
use Rattle.plain_laws.specs.ClockLaws.{CallsNext, SleepsTo, leaving, ticked}
use Rattle.plain_laws.specs.JfnLaws.{Lives}
use Rattle.plain_laws.specs.Whole.{IsWhole}
use Rattle.plain_model.specs.EachFamily.{sleeps_changed}

-- ---- calls

module _ (s : PlainState) (f : Fork) (lives : Lives s f) where
  -- what a turn leaves that comes out so
  abbrev left_by : End SleepChange → Effect
  left_by e = turned s f.name.tty (behind sleeps_changed (parts_of s) f.name (record { end = e; pages = s.pages }))

  -- who waits stays on the call
  waits_so : (moment : ℕ) → left_by (Waits (on.Sleep moment)) ≡ leaving s (with_wait f (on.Sleep moment))
  unfolding parts_behind fork_behind
  waits_so moment = ap (λ (o : Option Fork). caller_ended s (option_map (λ g. with_wait g (on.Sleep moment)) o)) lives

  module _ (runs : f.body.status ≡ Run) where
    -- who goes on is behind the call
    goes_so : left_by (returning Nothing f.body.regs) ≡ leaving s (with_regs f (behind_call f.body.regs))
    unfolding parts_behind fork_behind clock_changed
    goes_so =
        let g = with_regs f (behind_call f.body.regs) in
        ap (λ (o : Option Fork). caller_ended s (option_map (λ k. with_regs k (behind_call f.body.regs)) o)) lives ∙ ap (unit_ended s g) runs

    -- and sleeps no more, where its sleep was over
    over_so : left_by (returning (Awakes f.name) f.body.regs) ≡ leaving s (with_regs (without_moment f) (behind_call f.body.regs))
    unfolding parts_behind fork_behind clock_changed
    over_so =
        let awake = without_moment f in
        let g = with_regs awake (behind_call f.body.regs) in
        let put : ForkMap = map.insert s.forks f.name awake in
        let found = λ (m : ForkMap) (o : Option Fork). caller_ended (record s { forks = m }) (option_map (λ k. with_regs k (behind_call f.body.regs)) o) in
        ap (λ (o : Option Fork). let m = changed s.forks without_moment o in found m (map.get m f.name)) lives
        ∙ ap (found put) (get_put s.forks f.name f.name awake refl)
        ∙ ap (unit_ended (record s { forks = put }) g) runs
        ∙ ap (λ (m : ForkMap). record { state = record s { forks = m }; items = [] }) (put_again s.forks f.name awake (counted g))

  -- DISMS of some ticks, by the sleep that its fork has begun
  slept_so : in_ac f.body.regs 1 ≢ 0 → (o : Option ℕ) → f.body.sleep ≡ o → called s f DISMS ≡ left_by (sleeping (asks_clock (parts_of s) f.name f.body.regs) o)
  unfolding turn_on
  slept_so some o is =
      let a = asks_clock (parts_of s) f.name f.body.regs in
      let e = λ (x : Option ℕ). turned s f.name.tty (behind sleeps_changed (parts_of s) f.name (turn_on no_files s.pages (ends (sleeping a x)))) in
      ap (λ b. turned s f.name.tty (behind sleeps_changed (parts_of s) f.name (turn_on no_files s.pages (cond b (ends (returning Nothing f.body.regs)) (ends (sleeping a (option_and_then (λ (k : Fork). k.body.sleep) (map.get s.forks f.name)))))))) (apart some)
      ∙ ap (λ (x : Option Fork). e (option_and_then (λ (k : Fork). k.body.sleep) x)) lives ∙ ap e is
    where
      apart : in_ac f.body.regs 1 ≢ 0 → (in_ac f.body.regs 1 == 0) ≡ false
      apart ne = grind (arith, nat_tests, ne)

  none_so : in_ac f.body.regs 1 ≡ 0 → called s f DISMS ≡ left_by (returning Nothing f.body.regs)
  unfolding turn_on
  none_so none =
      let a = asks_clock (parts_of s) f.name f.body.regs in
      ap (λ b. turned s f.name.tty (behind sleeps_changed (parts_of s) f.name (turn_on no_files s.pages (cond b (ends (returning Nothing f.body.regs)) (ends (sleeping a (option_and_then (λ (k : Fork). k.body.sleep) (map.get s.forks f.name)))))))) (eq-eqb (in_ac f.body.regs 1) 0 none)

module _ (s : PlainState) (f : Fork) (now : CallsNext s f DISMS) where
  made : unit s f.name ≡ called s f DISMS
  made = unit_plain s f.name f now.lives now.plain ∙ ap (over s f) now.calls

  pub begins_so : in_ac f.body.regs 1 ≢ 0 → f.body.sleep ≡ None → unit s f.name ≡ leaving s (with_wait f (on.Sleep (s.clock + in_ac f.body.regs 1)))
  begins_so some none = made ∙ slept_so s f now.lives some None none ∙ waits_so s f now.lives (s.clock + in_ac f.body.regs 1)

  module _ (some : in_ac f.body.regs 1 ≢ 0) (moment : ℕ) (is : f.body.sleep ≡ Some moment) where
    abbrev by : Bool → Effect
    by b = left_by s f now.lives (cond b (returning (Awakes f.name) f.body.regs) (Waits (on.Sleep moment)))

    pub sleeps_on_so : s.clock < moment → unit s f.name ≡ leaving s (with_wait f (on.Sleep moment))
    sleeps_on_so early = let b : nat_le moment s.clock ≡ false = grind (arith, nat_tests, early) in made ∙ slept_so s f now.lives some (Some moment) is ∙ ap by b ∙ waits_so s f now.lives moment

    pub over_at : moment ≤ s.clock → unit s f.name ≡ leaving s (with_regs (without_moment f) (behind_call f.body.regs))
    over_at due = let b : nat_le moment s.clock ≡ true = grind (arith, nat_tests, due) in made ∙ slept_so s f now.lives some (Some moment) is ∙ ap by b ∙ over_so s f now.lives now.runs

  pub none_goes : in_ac f.body.regs 1 ≡ 0 → unit s f.name ≡ leaving s (with_regs f (behind_call f.body.regs))
  none_goes none = made ∙ none_so s f now.lives none ∙ goes_so s f now.lives now.runs

-- ---- ticks

module _ (s : PlainState) (w : IsWhole s) where
  awoken_so : (f : Fork) → Lives s f → map.get (ticked s).forks f.name ≡ Some (awoken (s.clock + 1) f)
  awoken_so f lives = ap (λ (e : Effect). map.get e.state.forks f.name) (outer_tick s) ∙ each_awoken (s.clock + 1) (tree_of s) w.machine.tree f lives

  clock_so : (ticked s).clock ≡ s.clock + 1
  clock_so = ap (λ (e : Effect). e.state.clock) (outer_tick s)

  module _ (f : Fork) (lives : Lives s f) where
    abbrev standing : ForkStatus → Option Fork
    standing status = Some (with_status f status)

    sleeping_so : (moment : ℕ) → SleepsTo f moment → (b : Bool) → nat_le moment (s.clock + 1) ≡ b → map.get (ticked s).forks f.name ≡ standing (cond b Run (Wait (on.Sleep moment)))
    sleeping_so moment sleeps b is = awoken_so f lives ∙ ap (λ (x : ForkStatus). standing (without_sleep (s.clock + 1) x)) sleeps ∙ ap (λ (d : Bool). standing (cond d Run (Wait (on.Sleep moment)))) is

    pub due_runs : (moment : ℕ) → SleepsTo f moment → moment ≤ (ticked s).clock → map.get (ticked s).forks f.name ≡ Some (with_status f Run)
    due_runs moment sleeps due = let at = clock_so in let b : nat_le moment (s.clock + 1) ≡ true = grind (arith, nat_tests, due, at) in sleeping_so moment sleeps true b

    pub early_stays : (moment : ℕ) → SleepsTo f moment → (ticked s).clock < moment → map.get (ticked s).forks f.name ≡ Some f
    early_stays moment sleeps early =
        let at = clock_so in let b : nat_le moment (s.clock + 1) ≡ false = grind (arith, nat_tests, early, at) in
        sleeping_so moment sleeps false b ∙ ap standing (sym sleeps)

    pub others_stay : ((moment : ℕ) → SleepsTo f moment → ⊥) → map.get (ticked s).forks f.name ≡ Some f
    others_stay never = awoken_so f lives ∙ ap standing (calm f.body.status refl)
      where
        calm : (x : ForkStatus) → f.body.status ≡ x → without_sleep (s.clock + 1) x ≡ x
        calm Run is = refl
        calm Halted is = refl
        calm (Forced channel) is = refl
        calm (Wait on.Input) is = refl
        calm (Wait on.Fork) is = refl
        calm (Wait (on.Sleep moment)) is = absurd (never moment is)

    -- one that is frozen can't run
    pub frozen_stands : is_frozen MOST_FORKS s.forks (Some f) ≡ true → IsRunnable (ticked s).forks f.name → ⊥
    frozen_stands frozen runs =
        let forks = (ticked s).forks in
        let r = runs_as forks f.name runs in
        let both : Some (awoken (s.clock + 1) f) ≡ Some r.0 = sym (awoken_so f lives) ∙ r.1 in
        let same : awoken (s.clock + 1) f ≡ r.0 = cc both in
        let then : is_frozen MOST_FORKS forks (Some (awoken (s.clock + 1) f)) ≡ true =
        ap (λ (e : Effect). is_frozen MOST_FORKS e.state.forks (Some (awoken (s.clock + 1) f))) (outer_tick s) ∙ frozen_same (s.clock + 1) (tree_of s) w.machine.tree MOST_FORKS (Some f) ∙ frozen in
        let no : true ≡ false = sym then ∙ ap (λ (k : Fork). is_frozen MOST_FORKS forks (Some k)) same ∙ r.3 in cc no

  pub none_comes : (name : _) → map.get s.forks name ≡ None → map.get (ticked s).forks name ≡ None
  none_comes name none = ap (λ (e : Effect). map.get e.state.forks name) (outer_tick s) ∙ none_awoken (s.clock + 1) (tree_of s) w.machine.tree name none
