-- Turns over what a drum told: rows of units, idle entries, events that are one deed, and what is no entry.
use Rattle.std.proofs.Common.{◌≡◌, ℕ, ◌≤◌, List, [], ◌∷◌, ◌++◌, Bool, Option, replicate, sym, ◌∙◌, ap, subst}
use Rattle.event_deeds.specs.Deeds.{IsAtOnce}
use Rattle.event_deeds.specs.declared.answer.Answer.{Answer}
use Rattle.event_deeds.specs.declared.deed.Deed.TheVariants.{Outer as ADeed}
use Rattle.fork_lists.proofs.Chosen.{all_listed, test_filled}
use Rattle.fork_lists.specs.declared.lists.ForkLists.{ForkLists}
use Rattle.fork_lists.specs.Ties.{AreTied}
use Rattle.job_sched.specs.Schedules.{Schedule}
use Rattle.job_sched.specs.Ties.{IsSound}
use Rattle.machine_names.specs.declared.names.ForkName.{ForkName}
use Rattle.page_contracts.specs.DrumWords.{DrumWords}
use Rattle.page_waits.specs.Acts.{DidOver, RanOver, Spent}
use Rattle.page_waits.specs.Systems.{SystemMeaning, row_of}
use Rattle.page_waits.specs.Told.{MovesSilently, TookDeed, TookRow}
use Rattle.page_waits.specs.Waits.{the_lists}
use Rattle.plain_model.specs.Forks.{ForkMap}
use Rattle.plain_model.specs.Run.{apply, state_after}
use Rattle.plain_model.specs.State.{PlainState}
use Rattle.script_texts.specs.declared.event.Event.{Event}
use Rattle.script_texts.specs.declared.event.Step.{Step}
use Rattle.script_texts.specs.declared.event.Step.TheVariants.{Outer, Idle as AnIdle}
use Rattle.step_shown.specs.declared.progress.Progress.{Progress}
use Rattle.turn_forms.specs.Turns.{AreReady}
use Rattle.paged_events.specs.Given.{Gives, Standing}
use Rattle.paged_events.specs.Turns.{AreTurnsOver, TakesTurnsOver, TookEvent, WhereTold}
use Rattle.paged_events.proofs.Deeds.{deed_state}
use Rattle.paged_events.proofs.Taking.{at_once, event_takes, idle_take, turns_join, units_take}

module _ {S : Type 0} (means : SystemMeaning S) {D : Type 0} (held : D → Option DrumWords) where
  -- what is no entry moves the lists silently alone
  pub no_entry : (s : S) (l l' : ForkLists) (drum : D) → MovesSilently l.sched l'.sched → AreTurnsOver means held [] s l l' drum
  no_entry s l l' drum silent words st fits = silent

  -- turns behind such
  pub entries_join : {T : Type 0} (stands cut : Standing T) (auto : Bool) (s0 s1 : S) (l0 l1 l2 : ForkLists) (d0 d1 : D) (o0 o1 : T) (xs ys : List Step) → Gives means held stands cut auto s0 s1 d0 d1 o0 o1 xs → AreTurnsOver means held xs s0 l0 l1 d0
      → AreTurnsOver means held ys s1 l1 l2 d1 → AreTurnsOver means held (xs ++ ys) s0 l0 l2 d0
  entries_join stands cut auto s0 s1 l0 l1 l2 d0 d1 o0 o1 xs ys told first second words st fits =
      let x = told.each words st fits in
      let p = means.plain s0 words in
      turns_join l0.sched l1.sched l2.sched p xs ys (first words st fits) (subst (λ (q : PlainState). TakesTurnsOver l1.sched q ys l2.sched) x.3.state (second x.0 x.1 x.2))

  -- what never is takes its turns anyhow
  pub spent_takes : (s : S) (l l' : ForkLists) (drum : D) (steps : List Step) → Spent means the_lists held s drum → AreTurnsOver means held steps s l l' drum
  spent_takes s l l' drum steps spent words st fits = absurd (spent.never words st fits)

  module _ (forked : (s : S) (d : DrumWords) → means.fits s d → (means.plain s d).forks ≡ (means.tree s).forks) where
    -- a deed, which leaves these forks
    pub deed_between : (s s' : S) (l l' : Schedule) (words words' : DrumWords) (after : ForkMap) → means.fits s words → means.fits s' words' → (means.plain s' words').forks ≡ after
        → TookDeed (means.tree s).forks (means.tree s').forks l l' → TookDeed (means.plain s words).forks after l l'
    deed_between s s' l l' words words' after fits fits' left took =
        subst (λ (f : ForkMap). TookDeed f after l l') (sym (forked s words fits))
        (subst (λ (f : ForkMap). TookDeed (means.tree s).forks f l l') (sym (forked s' words' fits') ∙ left) took)

    module _ (s : S) (l : ForkLists) (drum : D) (tied : AreTied (means.tree s).forks l) (sound : IsSound l.sched) where
      -- in the lists are the forks that can run
      pub ready_told : (words : DrumWords) → means.fits s words → AreReady (means.plain s words).forks l.sched
      ready_told words fits =
          subst (λ (f : ForkMap). AreReady f l.sched) (sym (forked s words fits))
          (record { listed = all_listed (means.tree s).forks l tied; filled = test_filled l.sched tied.filled; timed = sound.timed; some = sound.some })

      pub units_told : (f : ForkName) (done : Progress) (ended : Bool) (s1 : S) (l1 l2 : ForkLists) (drum1 : D) → 1 ≤ done.count → RanOver means the_lists held f done s s1 drum drum1
          → TookRow f done.count ended (means.tree s).forks (means.tree s1).forks l.sched l1.sched → MovesSilently l1.sched l2.sched → AreTurnsOver means held (row_of f done.count) s l l2 drum
      units_told f done ended s1 l1 l2 drum1 some ran row silent words st fits =
          let y = ran.each words st fits in
          let p = means.plain s words in
          let before = (means.tree s).forks in
          let end : (state_after p (row_of f done.count)).forks ≡ (means.tree s1).forks = ap (λ (q : PlainState). q.forks) (sym y.4) ∙ forked s1 y.0 y.2 in
          units_take f done.count ended before (means.tree s1).forks p l.sched l1.sched l2.sched some (subst (λ (fs : ForkMap). AreReady fs l.sched) (forked s words fits) (ready_told words fits)) row (ran.runs words st fits) end silent

      pub idle_told : (count : ℕ) (l' : ForkLists) → MovesSilently l.sched l'.sched → l'.sched.ready ≡ [] → AreTurnsOver means held (replicate count AnIdle) s l l' drum
      idle_told count l' silent nobody words st fits = idle_take count (means.plain s words) l.sched l'.sched (ready_told words fits) silent nobody

      -- an event behind which the lists are as it leaves them
      pub event_told : (e : Event) (l' : ForkLists) → WhereTold means held s drum (λ p. TookEvent p e l.sched l'.sched) → AreTurnsOver means held (Outer e ∷ []) s l l' drum
      event_told e l' took words st fits = event_takes (means.plain s words) e l.sched l'.sched (ready_told words fits) (took words st fits)

      pub deed_told : (e : Event) (answer : Answer) (s' : S) (l' : ForkLists) (drum' : D) → IsAtOnce e → DidOver means the_lists held (ADeed e) answer s s' drum drum'
          → TookDeed (means.tree s).forks (means.tree s').forks l.sched l'.sched → AreTurnsOver means held (Outer e ∷ []) s l l' drum
      deed_told e answer s' l' drum' once did took =
          event_told e l' (λ words st fits.
          let y = did.each words st fits in
          let p = means.plain s words in
          at_once p e l.sched l'.sched once
          (deed_between s s' l.sched l'.sched words y.0 (apply p (Outer e)).state.forks fits y.2.fits (ap (λ (q : PlainState). q.forks) (y.2.plain ∙ deed_state p e)) took))
