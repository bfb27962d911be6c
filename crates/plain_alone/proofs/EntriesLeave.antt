-- What an entry of one terminal leaves of the others: all that is their own. And what it shows, shows there.
use Rattle.std.proofs.Common.{◌≡◌, ℕ, Bool, true, false, cond, List, [], ◌∷◌, ◌++◌, ◌||◌, All, Option, None, Some, inl, inr, refl, sym, ◌∙◌, subst}
use Rattle.std.specs.Prelude.{◌==◌}
use Rattle.plain_alone.proofs.OthersLeave.{leave_itself}
use Rattle.plain_alone.proofs.TypingLeaves.{effect_then, typed_leaves}
use Rattle.plain_model.specs.TypeEvents.{typed_all, typed_at}
use Rattle.plain_model.specs.declared.call.TheConstants.{CFORK, KFORK}
use Rattle.plain_alone.proofs.CallsAlone.{turned_round}
use Rattle.plain_alone.proofs.ForksAlone.{makes_or_kills}
use Rattle.plain_alone.proofs.KillsAlone.{kill_leaves}
use Rattle.plain_alone.proofs.MakesAlone.{make_leaves}
use Rattle.std.proofs.lemmas.Bool.{cases_Bool, eqb-true}
use Rattle.machine_names.specs.Bounds.{IsTerminal}
use Rattle.machine_names.specs.declared.names.Tty.{Tty}
use Rattle.script_texts.specs.declared.event.Event.{Event}
use Rattle.script_texts.specs.declared.event.Event.TheVariants.{Login, TypeIn, File, Words, Poke, Start, Run, Tick, Evict, Drum, Auto, Examine, Forks, Page, Trace}
use Rattle.plain_model.specs.Events.{outer}
use Rattle.plain_alone.proofs.EventsLeave.{at_job_leaves, silent_leaves, examine_leaves, forks_leaves, login_leaves, poke_leaves, start_leaves}
use Rattle.script_texts.specs.declared.event.Step.TheVariants.{Outer, Unit as AUnit, Idle}
use Rattle.script_texts.specs.declared.event.Step.{Step}
use Rattle.std.specs.FinMap as map
use Rattle.machine_names.specs.declared.names.ForkName.{ForkName}
use Rattle.script_texts.specs.Limits.{FitsStep}
use Rattle.plain_model.specs.declared.fork.Fork.{Fork}
use Rattle.plain_model.specs.State.{PlainState}
use Rattle.plain_alone.proofs.CallsDone.{FamiliesLeave, called_leaves}
use Rattle.plain_alone.proofs.OutsideUnits.{EffectLeaves, unit_leave}
use Rattle.plain_alone.proofs.WholeStates.{AreWholeStates}
use Rattle.std.proofs.lemmas.List.Elements.{All-append, All-cons, All-head, All-nil, All-tail}
use Rattle.std.specs.Option.{option_map_or}
use Rattle.script_texts.specs.declared.event.Item.TheVariants.{UnitLine}
use Rattle.plain_alone.proofs.ShownAt.{IsOnlyAt}
use Rattle.plain_alone.specs.Parts.{IsOwnOrIdle, is_event_of}
use Rattle.plain_model.specs.Run.{apply, items_of, unit_line}
use Rattle.plain_model.specs.Unit.{unit, unit_of}

-- of CFORK and KFORK, what isn't the one is the other
pub kills : (number : ℕ) → (CFORK == number) ≡ false → makes_or_kills number ≡ true → (KFORK == number) ≡ true
kills number apart does = by (number == CFORK) refl does
  where
    by : (b : Bool) → (number == CFORK) ≡ b → (b || (number == KFORK)) ≡ true → (KFORK == number) ≡ true
    by true is h = absurd (let wrong : true ≡ false = sym (turned_round number CFORK is) ∙ apart in cc wrong)
    by false is h = turned_round number KFORK h

module _ (Whole : PlainState → Type 0) (states : AreWholeStates Whole) where
  -- CFORK and KFORK
  made_or_killed_leave : (s : PlainState) (w : Whole s) (f : Fork) (on : IsTerminal f.name.tty) → FamiliesLeave s (states.own s w) f on
  made_or_killed_leave s w f on = record {
    forks = λ number does. elim (cases_Bool (CFORK == number)) [
      | inl is ↦ make_leaves s (states.own s w) f on number is
      | inr apart ↦ kill_leaves s (states.own s w) f on number apart (kills number apart does)
    ];
  }

  -- A UNIT of a fork that lives
  pub unit_leaves : (s : PlainState) (w : Whole s) (f : Fork) (on : IsTerminal f.name.tty) → EffectLeaves f.name.tty s (unit_of s f)
  unit_leaves s w f on = unit_leave s (states.own s w) f on (called_leaves s (states.own s w) f on (made_or_killed_leave s w f on))

  -- A TEXT that is typed, character by character
  pub text_leaves : (u : Tty) → IsTerminal u → (text : List ℕ) (x : PlainState) → Whole x → EffectLeaves u x (typed_all x u text)
  unfolding typed_all
  text_leaves u on [] x k = silent_leaves u on x (states.own x k) (states.tops x k) x (record { job = record { own = states.own x k; others = λ q far. refl }; serials = λ i far. refl; jobs = λ i far. refl; pages = leave_itself u x.pages; trace = refl })
  text_leaves u on (c ∷ cs) x k =
      effect_then u x (typed_at x u c) (typed_all (typed_at x u c).state u cs) (typed_leaves u on x (states.own x k) (states.tops x k) (λ j is. states.codes x k u j is) c) (text_leaves u on cs (typed_at x u c).state (states.typed x k u c))

  same_tty : (u v : Tty) → (v.0 == u.0) ≡ true → v ≡ u
  same_tty u v is = let same : v.0 ≡ u.0 = eqb-true v.0 u.0 is in λ i. record { 0 = same i }

  -- AN EVENT of a terminal
  pub event_leaves : (s : PlainState) (w : Whole s) (u : Tty) (e : Event) → FitsStep (Outer e) → is_event_of u e ≡ true → EffectLeaves u s (outer s e)
  unfolding outer
  event_leaves s w u (Login v user) fits its = subst (λ (x : Tty). EffectLeaves x s (outer s (Login v user))) (same_tty u v its) (login_leaves v fits.0.0 s (states.own s w) (states.tops s w) user)
  event_leaves s w u (TypeIn v text) fits its = subst (λ (x : Tty). EffectLeaves x s (outer s (TypeIn v text))) (same_tty u v its)
      (at_job_leaves v fits.0.0 s (states.own s w) (states.tops s w) (λ j. typed_all s v text) (λ j there. text_leaves v fits.0.0 text s w))
  event_leaves s w u (Poke v address word) fits its = subst (λ (x : Tty). EffectLeaves x s (outer s (Poke v address word))) (same_tty u v its) (poke_leaves v fits.0.0 s (states.own s w) (states.tops s w) address word)
  event_leaves s w u (Start v address) fits its = subst (λ (x : Tty). EffectLeaves x s (outer s (Start v address))) (same_tty u v its) (start_leaves v fits.0.0 s (states.own s w) (states.tops s w) address)
  event_leaves s w u (Examine v serial address) fits its = subst (λ (x : Tty). EffectLeaves x s (outer s (Examine v serial address))) (same_tty u v its) (examine_leaves v fits.0.0 s (states.own s w) (states.tops s w) serial address)
  event_leaves s w u (Forks v) fits its = subst (λ (x : Tty). EffectLeaves x s (outer s (Forks v))) (same_tty u v its) (forks_leaves v fits.0 s (states.own s w) (states.tops s w))
  event_leaves s w u (File name) fits its = absurd (cc its)
  event_leaves s w u (Words name page offset row) fits its = absurd (cc its)
  event_leaves s w u (Run n) fits its = absurd (cc its)
  event_leaves s w u Tick fits its = absurd (cc its)
  event_leaves s w u (Evict n) fits its = absurd (cc its)
  event_leaves s w u (Drum n) fits its = absurd (cc its)
  event_leaves s w u (Auto on) fits its = absurd (cc its)
  event_leaves s w u (Page name page) fits its = absurd (cc its)
  event_leaves s w u (Trace mark) fits its = absurd (cc its)

  -- A UNIT under a name shows at the terminal of the name
  line_shown : (s : PlainState) (name : ForkName) → All (IsOnlyAt name.tty) (unit_line s name)
  line_shown s name = by s.trace (map.get s.forks name)
    where
      by : (b : Bool) (o : Option Fork) → All (IsOnlyAt name.tty) (cond b (option_map_or (λ k. UnitLine name k.body.regs.pc ∷ []) o []) [])
      by false o = All-nil (IsOnlyAt name.tty)
      by true None = All-nil (IsOnlyAt name.tty)
      by true (Some k) = All-cons (IsOnlyAt name.tty) (UnitLine name k.body.regs.pc) [] (λ t. refl) (All-nil (IsOnlyAt name.tty))

  unit_shown : (s : PlainState) → Whole s → (name : ForkName) → IsTerminal name.tty → All (IsOnlyAt name.tty) (unit s name).items
  unfolding unit
  unit_shown s w name on = by (map.get s.forks name) refl
    where
      by : (o : Option Fork) → map.get s.forks name ≡ o → (let e = option_map_or (unit_of s) o (record { state = s; items = [] }) in All (IsOnlyAt name.tty) e.items)
      by None is = All-nil (IsOnlyAt name.tty)
      by (Some f) is =
          let named : f.name ≡ name = states.own s w name f is in
          let l = unit_leaves s w f (subst (λ (n : ForkName). IsTerminal n.tty) (sym named) on) in
          subst (λ (n : ForkName). All (IsOnlyAt n.tty) (unit_of s f).items) named l.items

  -- AN ENTRY of a terminal shows there and nowhere else, and an idle one shows nothing
  entry_shown : (s : PlainState) → Whole s → (t : Tty) (x : Step) → FitsStep x → IsOwnOrIdle t x → All (IsOnlyAt t) (apply s x).items
  unfolding apply
  entry_shown s w t (Outer e) fits (inl its) = let l = event_leaves s w t e fits its in l.items
  entry_shown s w t (AUnit name) fits (inl its) =
      subst (λ (u : Tty). All (IsOnlyAt u) (unit_line s name ++ (unit s name).items)) (same_tty t name.tty its)
      (All-append (IsOnlyAt name.tty) (unit_line s name) (unit s name).items (line_shown s name) (unit_shown s w name fits.0))
  entry_shown s w t Idle fits its = All-nil (IsOnlyAt t)
  entry_shown s w t (Outer e) fits (inr idle) = absurd (cc idle)
  entry_shown s w t (AUnit name) fits (inr idle) = absurd (cc idle)

  -- and so does a run of them
  pub run_shown : (xs : List Step) (s : PlainState) → Whole s → (t : Tty) → All FitsStep xs → All (IsOwnOrIdle t) xs → All (IsOnlyAt t) (items_of s xs)
  run_shown [] s w t fits own = All-nil (IsOnlyAt t)
  run_shown (x ∷ xs) s w t fits own =
      let now = All-head FitsStep x xs fits in
      All-append (IsOnlyAt t) (apply s x).items (items_of (apply s x).state xs) (entry_shown s w t x now (All-head (IsOwnOrIdle t) x xs own))
      (run_shown xs (apply s x).state (states.keeps s x w now) t (All-tail FitsStep x xs fits) (All-tail (IsOwnOrIdle t) x xs own))
