-- Turns of a run where all is in core come calmly.
use Rattle.std.proofs.Common.{◌≡◌, ℕ, ◌-◌, ◌<◌, ◌≤◌, [], true, false, Option, replicate, refl, sym, ◌∙◌, ap, subst, arith}
use Rattle.machine_names.specs.declared.names.ForkName.{ForkName}
use Rattle.script_texts.specs.declared.event.Step.TheVariants.{Idle as AnIdle, Unit as AUnit}
use Rattle.plain_model.specs.Forks.{ForkMap, IsRunnable, runs_in}
use Rattle.plain_model.specs.Moves.{moves}
use Rattle.plain_model.specs.Run.{AreLegal, state_after}
use Rattle.plain_model.specs.State.{PlainState}
use Rattle.plain_model.specs.Trees.{PlainTree}
use Rattle.job_sched.specs.Lines.{Nears, is_in_line}
use Rattle.job_sched.specs.Schedules.{Schedule, heads}
use Rattle.job_sched.specs.Ties.{IsSound}
use Rattle.job_sched.specs.Units.{IsRow, IsTimed, row_ran}
use Rattle.job_sched.proofs.Ties.{none_runs}
use Rattle.fork_lists.specs.declared.lists.ForkLists.{ForkLists}
use Rattle.fork_lists.specs.Following.{last_counted}
use Rattle.fork_lists.specs.Ties.{AreTied}
use Rattle.fork_lists.proofs.Chosen.{all_listed, test_filled}
use Rattle.turn_forms.specs.Turns.{moved}
use Rattle.turn_forms.proofs.Passing.{acts_come}
use Rattle.paged_events.specs.PassedOver.{AreNear, ComeCloser}
use Rattle.paged_events.proofs.PassedOver.{near_tied, tied_line}
use Rattle.paged_events.proofs.RowPassed.{comes_behind, head_at, head_counts, idle_passed, nears_at, row_passed}
use Rattle.paged_events.proofs.Idles.{Idles, all_idle}
use Rattle.page_contracts.specs.DrumWords.{DrumWords}
use Rattle.page_waits.specs.Acts.{RanOver}
use Rattle.page_waits.specs.Calm.{IsRoomy}
use Rattle.page_waits.specs.InCore.{IdledCalmly, IsInCore, RanCalmly}
use Rattle.page_waits.specs.Systems.{SystemMeaning, row_of}
use Rattle.page_waits.specs.Waits.{the_lists}
use Rattle.page_waits.specs.declared.turn.Done.{Done}
use Rattle.paged_events.specs.Calmly.{CameCalmly, ComeCalmly, TurnsCalmly}
use Rattle.paged_events.proofs.Calmness.{closer_calmly, rows_calmly, rows_roomy}

-- A ROW OF UNITS of the head brings closer whom it passes over, where all but the last are counted, the lists follow the forks, and then the last is counted
pub row_comes : (c c' : Schedule) (who : ForkName) (n : ℕ) (before after : ForkMap) (s : PlainState) → IsTimed c → heads who c.ready ≡ true → IsRow n c → 1 ≤ n
    → ((f : ForkName) → IsRunnable before f → is_in_line f c ≡ true) → AreNear before c → c' ≡ last_counted who (moved (moves before after) (row_ran (n - 1) c))
    → ((i : ℕ) → i < n → (g : ForkName) → runs_in (state_after s (row_of who i)).forks g ≡ runs_in before g) → (state_after s (row_of who n)).forks ≡ after → AreNear after c'
    → ComeCloser c s (row_of who n) c'
row_comes c c' who n before after s timed head row some here near lists same end near' =
    row_passed c who n timed head row (runs_in before) here near c' some s same (subst (λ (forks : ForkMap). AreNear forks c') (sym end) near')
    (λ f apart was still.
    let runs : runs_in after f ≡ true = subst (λ (forks : ForkMap). IsRunnable forks f) end still in
    let m = row_ran (n - 1) c in
    let last : n - 1 < n = omega (arith, some) in
    let timed_m = (nears_at c who n timed head row f apart (here f was) (n - 1) last).timed in
    let on = comes_behind f who c n m (moved (moves before after) m) timed head row some refl apart (here f was) (acts_come f before after m runs timed_m) in
    subst (λ (d : Schedule). Nears f m d 1) (sym lists) (head_counts f who m (moved (moves before after) m) on apart (head_at c who n timed head row (n - 1) last)))

module _ {S : Type 0} (means : SystemMeaning S) (frames : ℕ) (s s' : S) (l l' : ForkLists) (tied : AreTied (means.tree s).forks l) (sound : IsSound l.sched) (core : IsInCore means frames s l) (p : PlainState) (forks : p.forks ≡ (means.tree s).forks) where
  abbrev before : ForkMap
  before = (means.tree s).forks

  near : AreNear before l.sched
  near = near_tied before l tied core.none sound

  near_first : AreNear p.forks l.sched
  near_first = subst (λ (fs : ForkMap). AreNear fs l.sched) (sym forks) near

  -- units of the head, behind which the lists have the forks that can run
  pub units_come : (row : Done) → 1 ≤ row.progress.count → AreTied (means.tree s').forks l' → IsSound l'.sched → AreLegal true p (row_of row.fork row.progress.count)
      → (state_after p (row_of row.fork row.progress.count)).forks ≡ (means.tree s').forks
      → ((k : ℕ) → k < row.progress.count → (g : ForkName) → runs_in (state_after p (row_of row.fork k)).forks g ≡ runs_in before g) → (IsRoomy frames p → RanCalmly means frames row s s' l l')
      → CameCalmly means frames p (row_of row.fork row.progress.count) s' l l'
  units_come row some tied' sound' legal end runs ran =
      let n = row.progress.count in
      record {
        closer = rows_calmly frames l.sched p n (AUnit row.fork) l'.sched some near_first (λ room.
            let r = ran room in
            closer_calmly frames l.sched p (row_of row.fork n) l'.sched legal
            (row_comes l.sched l'.sched row.fork n before (means.tree s').forks p sound.timed r.head r.within some (tied_line before l tied core.none) near r.lists runs end (near_tied (means.tree s').forks l' tied' r.core.none sound')));
        core = λ roomy. (ran (rows_roomy frames p n (AUnit row.fork) some roomy)).core;
      }

  -- where nobody is ready, no fork can run
  none_ready : l.sched.ready ≡ [] → (f : ForkName) → runs_in before f ≡ true → ⊥
  none_ready empty f can =
      let no : true ≡ false = sym can ∙ none_runs (runs_in before) l.sched f (all_listed before l tied) (test_filled l.sched tied.filled) sound.some empty core.none in cc no

  -- idle entries there
  pub idle_come : (count : ℕ) → 1 ≤ count → (IsRoomy frames p → IdledCalmly means s s' l l') → CameCalmly means frames p (replicate count AnIdle) s' l l'
  idle_come count some idled = record {
    closer = rows_calmly frames l.sched p count AnIdle l'.sched some near_first (λ room.
        let r = idled room in
        let none = none_ready r.nobody in
        let idles : (n : ℕ) → Idles p n = λ n. all_idle p n (λ mark f can. none f (subst (λ (fs : ForkMap). IsRunnable fs f) forks can)) in
        subst (λ (m : ForkLists). ComeCalmly frames l.sched p (replicate count AnIdle) m.sched) (sym r.lists)
        (closer_calmly frames l.sched p (replicate count AnIdle) l.sched (idles count).legal
        (idle_passed l.sched (runs_in before) none count p (λ i small g. ap (λ (q : PlainState). runs_in q.forks g) (idles i).state ∙ ap (λ (fs : ForkMap). runs_in fs g) forks)
        (subst (λ (q : PlainState). AreNear q.forks l.sched) (sym (idles count).state) near_first))));
    core = λ roomy.
        let r = idled (rows_roomy frames p count AnIdle some roomy) in
        subst (λ (m : ForkLists). IsInCore means frames s' m) (sym r.lists) (subst (λ (q : S). IsInCore means frames q l) (sym r.system) core);
  }

module _ {S : Type 0} (means : SystemMeaning S) (forked : (s : S) (d : DrumWords) → means.fits s d → (means.plain s d).forks ≡ (means.tree s).forks) {D : Type 0} (held : D → Option DrumWords) (s : S) (l : ForkLists) (drum : D) (tied : AreTied (means.tree s).forks l) (sound : IsSound l.sched) where
  -- no turn, units behind which transfers may end, and idle entries
  pub nothing_calm : TurnsCalmly means held [] s s l l drum
  nothing_calm frames d st fits core = record { closer = (near_first means frames s s l l tied sound core (means.plain s d) (forked s d fits), refl); core = λ roomy. core }

  pub units_calm : (row : Done) (s1 s2 : S) (l1 l2 : ForkLists) (drum1 : D) → 1 ≤ row.progress.count → AreTied (means.tree s2).forks l2 → IsSound l2.sched → RanOver means the_lists held row.fork row.progress s s1 drum drum1
      → means.tree s2 ≡ means.tree s1 → ((frames : ℕ) (d : DrumWords) → means.fits s d → IsInCore means frames s l → IsRoomy frames (means.plain s d) → RanCalmly means frames row s s1 l l1)
      → (means.store.queue s1 ≡ [] → s2 ≡ s1) → (means.store.queue s1 ≡ [] → l2 ≡ l1) → TurnsCalmly means held (row_of row.fork row.progress.count) s s2 l l2 drum
  units_calm row s1 s2 l1 l2 drum1 some tied' sound' ran trees calm system lists frames d st fits core =
      let y = ran.each d st fits in
      let end : (state_after (means.plain s d) (row_of row.fork row.progress.count)).forks ≡ (means.tree s2).forks =
      ap (λ (q : PlainState). q.forks) (sym y.4) ∙ forked s1 y.0 y.2 ∙ ap (λ (t : PlainTree). t.forks) (sym trees) in
      units_come means frames s s2 l l2 tied sound core (means.plain s d) (forked s d fits) row some tied' sound' y.3 end (ran.runs d st fits)
      (λ room.
      let r = calm frames d fits core room in
      subst (λ (m : ForkLists). RanCalmly means frames row s s2 l m) (sym (lists r.core.still)) (subst (λ (q : S). RanCalmly means frames row s q l l1) (sym (system r.core.still)) r))

  pub idle_calm : (count : ℕ) (s' : S) (l' : ForkLists) → 1 ≤ count → ((frames : ℕ) (d : DrumWords) → means.fits s d → IsInCore means frames s l → IsRoomy frames (means.plain s d) → IdledCalmly means s s' l l')
      → TurnsCalmly means held (replicate count AnIdle) s s' l l' drum
  idle_calm count s' l' some calm frames d st fits core = idle_come means frames s s' l l' tied sound core (means.plain s d) (forked s d fits) count some (calm frames d fits core)
