-- A character by who reads its terminal.
use Rattle.std.proofs.Common.{◌≡◌, ◌≢◌, ℕ, false, cond, List, [], Option, None, Some, ◌==◌, refl, sym, ◌∙◌, ap, subst, inl, inr}
use Rattle.std.proofs.lemmas.Bool.Decides.{eqb_tells}
use Rattle.machine_names.specs.declared.character.TheConstants.{LINE_END}
use Rattle.machine_names.specs.declared.names.Tty.{Tty}
use Rattle.plain_typing.specs.Characters.{read_as}
use Rattle.plain_typing.specs.Typing.{fate_of}
use Rattle.plain_typing.specs.declared.typed.TheConstants.{CONTROL_C}
use Rattle.page_contracts.specs.DrumWords.{DrumWords}
use Rattle.plain_model.specs.declared.fork.TerminalMode.TheVariants.{Command, Program}
use Rattle.plain_model.specs.State.{PlainJob, PlainState}
use Rattle.plain_model.specs.TypeEvents.{interrupted, line_ended, line_of, line_typed, typed_one, typed_so}
use Rattle.plain_model.specs.Unit.{Effect}
use Rattle.event_deeds.specs.Deeds.{DeedEffect, all_done, begun, deed, for_job, goes_on, line_begun, one_killed, over, purpose_done, typed_by}
use Rattle.event_deeds.specs.Leaves.{last_below}
use Rattle.event_deeds.specs.declared.answer.Showing.TheVariants.{Told}
use Rattle.event_deeds.specs.declared.deed.Purpose.{Purpose}
use Rattle.plain_model.specs.declared.fork.Fork.{Fork}
use Rattle.std.specs.Option.{option_map_or}
use Rattle.std.specs.Prelude.{IfOk, Result}
use Rattle.page_contracts.specs.declared.answers.Need.{Need}
use Rattle.step_shown.specs.declared.echo.Told.TheVariants.{Nothing as Silent}
use Rattle.event_deeds.specs.Showings.{showing_items}
use Rattle.event_deeds.specs.declared.answer.Answer.{Answer}
use Rattle.event_deeds.specs.declared.deed.Deed.{Deed}
use Rattle.event_deeds.specs.declared.deed.Deed.TheVariants.{Begin, End, Kill, Typed}
use Rattle.step_shown.specs.declared.echo.Echo.{Echo}
use Rattle.monitor_typing.specs.Deeds.{Does, effect_of, once}
use Rattle.monitor_calls.specs.declared.job.Job.{Job}
use Rattle.monitor_core.specs.declared.system.System.{System}
use Rattle.monitor_typing.specs.Effects.{Has, HasJobAt, job_in}
use Rattle.monitor_core.specs.Systems.{FitsPages, state_of}
use Rattle.monitor_typing.proofs.HasDone.{has_as, has_left}
use Rattle.job_forks.proofs.Places.{came_itself}
use Rattle.job_forks.specs.Holding.{ComeFrom}
use Rattle.plain_model.specs.Trees.{PlainTree}
use Rattle.monitor_core.proofs.Systems.{state_left}
use Rattle.monitor_calls.specs.Jobs.{job_at}
use Rattle.step_shown.specs.Echoes.{echo_items}
use Rattle.step_shown.specs.declared.echo.Echo.TheVariants.{Nothing}
use Rattle.monitor_typing.proofs.TypeDid.{acts_at, acts_nowhere}

not_equal : (a b : ℕ) → a ≢ b → (a == b) ≡ false
not_equal a b ne = elim (eqb_tells a b) [ inl same ↦ absurd (ne same.1) | inr other ↦ other.0 ]

module _ (s : PlainState) (t : Tty) (j : PlainJob) where
  stop_typed : typed_one Command s t j CONTROL_C ≡ interrupted s t j
  unfolding typed_one
  stop_typed = refl

  other_typed : (code : ℕ) → code ≢ CONTROL_C → code ≢ LINE_END → typed_one Command s t j code ≡ line_typed s t j code
  unfolding typed_one
  other_typed code no_stop no_end =
      ap (λ r. cond r (interrupted s t j) (cond (code == LINE_END) (line_ended s t j) (line_typed s t j code))) (not_equal code CONTROL_C no_stop)
      ∙ ap (λ r. cond r (line_ended s t j) (line_typed s t j code)) (not_equal code LINE_END no_end)

  program_typed : (code : ℕ) → typed_one Program s t j code ≡ typed_so (fate_of (line_of j) code) s t j code
  unfolding typed_one
  program_typed code = refl

module _ {P : Type 0} {b : _} (m m' : System P b) where
  -- the same deed
  pub does_as : (answer : Answer) (f g : PlainState → DeedEffect) → ((d : DrumWords) → g (state_of m d) ≡ f (state_of m d)) → Does m m' f answer → Does m m' g answer
  does_as answer f g same does = record {
    has = has_as m m' (λ s. effect_of (f s)) (λ s. showing_items s answer.showing) (λ s. effect_of (g s)) (λ d. ap effect_of (same d)) does.has;
    next = λ d fits. does.next d fits ∙ sym (ap (λ (e : DeedEffect). e.next) (same d));
  }

  -- a character that is over with its effect
  pub does_over : (t : Tty) (shown : Echo) (effect : PlainState → Effect) → Has m m' effect (echo_items t shown) → Does m m' (λ s. over (effect s)) (once t shown)
  does_over t shown effect has = record {
    has = has_as m m' effect (echo_items t shown) (λ s. effect_of (over (effect s))) (λ d. refl) has;
    next = λ d fits. refl;
  }

module _ (s : PlainState) (t : Tty) (j : PlainJob) where
  line_over : (code : ℕ) → code ≢ LINE_END → typed_by Command s t j code ≡ over (typed_one Command s t j code)
  line_over code no_end = ap (λ r. cond r (line_begun s t j) (over (typed_one Command s t j code))) (not_equal code LINE_END no_end)

module _ {P : Type 0} {b : _} (m m' : System P b) (t : Tty) (j : Job) where
  pub does_stop : (shown : Echo) (code : ℕ) → code ≡ CONTROL_C → Has m m' (λ s. interrupted s t (job_in m t j)) (echo_items t shown) → Does m m' (λ s. typed_by Command s t (job_in m t j) code) (once t shown)
  does_stop shown code is has =
      does_as m m' (once t shown) (λ s. over (interrupted s t (job_in m t j))) (λ s. typed_by Command s t (job_in m t j) code)
      (λ d. ap (typed_by Command (state_of m d) t (job_in m t j)) is ∙ ap over (stop_typed (state_of m d) t (job_in m t j))) (does_over m m' t shown (λ s. interrupted s t (job_in m t j)) has)

  pub does_end : (answer : Answer) (code : ℕ) → code ≡ LINE_END → Does m m' (λ s. line_begun s t (job_in m t j)) answer → Does m m' (λ s. typed_by Command s t (job_in m t j) code) answer
  does_end answer code is does = does_as m m' answer (λ s. line_begun s t (job_in m t j)) _ (λ d. ap (typed_by Command (state_of m d) t (job_in m t j)) is) does

  pub does_other : (shown : Echo) (code : ℕ) → code ≢ CONTROL_C → code ≢ LINE_END → Has m m' (λ s. line_typed s t (job_in m t j) code) (echo_items t shown) → Does m m' (λ s. typed_by Command s t (job_in m t j) code) (once t shown)
  does_other shown code no_stop no_end has =
      does_as m m' (once t shown) (λ s. over (line_typed s t (job_in m t j) code)) (λ s. typed_by Command s t (job_in m t j) code)
      (λ d. line_over (state_of m d) t (job_in m t j) code no_end ∙ ap over (other_typed (state_of m d) t (job_in m t j) code no_stop no_end)) (does_over m m' t shown (λ s. line_typed s t (job_in m t j) code) has)

  module _ (at : HasJobAt m t j) (c : ℕ) where
    typed_is : (d : DrumWords) → deed (state_of m d) (Typed t c) ≡ typed_by j.mode (state_of m d) t (job_in m t j) (read_as c)
    unfolding deed
    typed_is d = acts_at m t (λ s k. typed_by k.mode s t k (read_as c)) d j at

    pub does_in_program : (shown : Echo) → j.mode ≡ Program → Has m m' (λ s. typed_so (fate_of (line_of (job_in m t j)) (read_as c)) s t (job_in m t j) (read_as c)) (echo_items t shown) → Does m m' (λ s. deed s (Typed t c)) (once t shown)
    does_in_program shown is has =
        let effect : PlainState → Effect = λ s. typed_so (fate_of (line_of (job_in m t j)) (read_as c)) s t (job_in m t j) (read_as c) in
        does_as m m' (once t shown) (λ s. over (effect s)) (λ s. deed s (Typed t c))
        (λ d. typed_is d ∙ ap (λ x. typed_by x (state_of m d) t (job_in m t j) (read_as c)) is ∙ ap over (program_typed (state_of m d) t (job_in m t j) (read_as c))) (does_over m m' t shown effect has)

    pub does_in_line : (answer : Answer) (code : ℕ) → code ≡ read_as c → j.mode ≡ Command → Does m m' (λ s. typed_by Command s t (job_in m t j) code) answer → Does m m' (λ s. deed s (Typed t c)) answer
    does_in_line answer code is mode does =
        does_as m m' answer (λ s. typed_by Command s t (job_in m t j) code) (λ s. deed s (Typed t c))
        (λ d. typed_is d ∙ (λ i. typed_by (mode i) (state_of m d) t (job_in m t j) (sym is i))) does

-- nothing changes
pub does_still : {P : Type 0} {b : _} (m m' : System P b) (done : PlainState → DeedEffect) (answer : Answer) → m'.files ≡ m.files → m'.pages ≡ m.pages → m'.tree ≡ m.tree → m'.jobs.items ≡ m.jobs.items → m'.typed.items ≡ m.typed.items → m'.panel ≡ m.panel
    → ((d : DrumWords) → FitsPages m d → done (state_of m d) ≡ record { state = state_of m d; items = showing_items (state_of m d) answer.showing; next = answer.next }) → Does m m' done answer
does_still m m' done answer files same tree jobs typed panel is = record {
  has = has_left m m' (λ s. effect_of (done s)) (λ s. showing_items s answer.showing) files same panel (subst (λ (x : PlainTree). ComeFrom m.tree.forks x.forks) (sym tree) (came_itself m.tree.forks))
      (λ d f. ap effect_of (is d f) ∙ (λ i. record { state = sym (state_left m m' files same tree jobs typed panel d) i; items = showing_items (sym (state_left m m' files same tree jobs typed panel d) i) answer.showing }));
  next = λ d f. sym (ap (λ (e : DeedEffect). e.next) (is d f));
}

-- nothing is done
pub does_nothing : {P : Type 0} {b : _} (m : System P b) (done : PlainState → DeedEffect) (answer : Answer)
    → ((d : DrumWords) → FitsPages m d → done (state_of m d) ≡ record { state = state_of m d; items = showing_items (state_of m d) answer.showing; next = answer.next }) → Does m m done answer
does_nothing m done answer is = record {
  has = has_left m m (λ s. effect_of (done s)) (λ s. showing_items s answer.showing) refl refl refl (came_itself m.tree.forks) (λ d f. ap effect_of (is d f));
  next = λ d f. sym (ap (λ (e : DeedEffect). e.next) (is d f));
}

-- where there is no job
module _ {P : Type 0} {b : _} (m : System P b) (t : Tty) (none : job_at m.jobs.items t.0 ≡ None) where
  pub types_nothing : (c : ℕ) → Does m m (λ s. deed s (Typed t c)) (once t Nothing)
  unfolding deed
  types_nothing c = does_nothing m (λ s. for_job s t (λ k. typed_by k.mode s t k (read_as c))) (once t Nothing) (λ d f. acts_nowhere m t (λ s k. typed_by k.mode s t k (read_as c)) d none)

  pub begins_nothing : (name : List ℕ) → Does m m (λ s. deed s (Begin t name)) (record { showing = Told t Silent; next = None })
  unfolding deed
  begins_nothing name = does_nothing m (λ s. for_job s t (λ k. begun s t name)) _ (λ d f. acts_nowhere m t (λ s k. begun s t name) d none)

  pub kills_nothing : (purpose : Purpose) → Does m m (λ s. deed s (Kill t purpose)) (record { showing = Told t Silent; next = None })
  unfolding deed
  kills_nothing purpose = does_nothing m (λ s. for_job s t (λ k. one_killed s t purpose k.top)) _ (λ d f. acts_nowhere m t (λ s k. one_killed s t purpose k.top) d none)

  pub ends_nothing : (purpose : Purpose) → Does m m (λ s. deed s (End t purpose)) (record { showing = Told t Silent; next = None })
  unfolding deed
  ends_nothing purpose = does_nothing m (λ s. for_job s t (λ k. all_done s t k purpose)) _ (λ d f. acts_nowhere m t (λ s k. all_done s t k purpose) d none)

-- and where there is one
module _ {P : Type 0} {b : _} (m m' : System P b) (t : Tty) (j : Job) (at : HasJobAt m t j) (answer : Answer) where
  pub does_begin : (name : List ℕ) → Does m m' (λ s. begun s t name) answer → Does m m' (λ s. deed s (Begin t name)) answer
  unfolding deed
  does_begin name = does_as m m' answer (λ s. begun s t name) (λ s. for_job s t (λ k. begun s t name)) (λ d. acts_at m t (λ s k. begun s t name) d j at)

  pub does_kill_of : (purpose : Purpose) → Does m m' (λ s. one_killed s t purpose j.top) answer → Does m m' (λ s. deed s (Kill t purpose)) answer
  unfolding deed
  does_kill_of purpose = does_as m m' answer (λ s. one_killed s t purpose j.top) (λ s. for_job s t (λ k. one_killed s t purpose k.top)) (λ d. acts_at m t (λ s k. one_killed s t purpose k.top) d j at)

  pub does_end_of : (purpose : Purpose) → Does m m' (λ s. all_done s t (job_in m t j) purpose) answer → Does m m' (λ s. deed s (End t purpose)) answer
  unfolding deed
  does_end_of purpose = does_as m m' answer (λ s. all_done s t (job_in m t j) purpose) (λ s. for_job s t (λ k. all_done s t k purpose)) (λ d. acts_at m t (λ s k. all_done s t k purpose) d j at)

  -- once no inferior is left
  pub does_finish : (purpose : Purpose) → last_below m.tree.forks j.top ≡ None → Does m m' (λ s. over (record { state = purpose_done s t (job_in m t j) purpose; items = [] })) answer → Does m m' (λ s. all_done s t (job_in m t j) purpose) answer
  does_finish purpose none = does_as m m' answer (λ s. over (record { state = purpose_done s t (job_in m t j) purpose; items = [] })) (λ s. all_done s t (job_in m t j) purpose)
      (λ d. ap (λ (o : Option Fork). option_map_or (λ (k : Fork). goes_on (state_of m d) (Kill t purpose)) o (over (record { state = purpose_done (state_of m d) t (job_in m t j) purpose; items = [] }))) none)

-- while one is
pub does_first : {P : Type 0} {b : _} (m : System P b) (t : Tty) (j : Job) (purpose : Purpose) (f : Fork) → last_below m.tree.forks j.top ≡ Some f → Does m m (λ s. all_done s t (job_in m t j) purpose) (record { showing = Told t Silent; next = Some (Kill t purpose) })
does_first m t j purpose f some = does_nothing m (λ s. all_done s t (job_in m t j) purpose) _
    (λ d fits. ap (λ (o : Option Fork). option_map_or (λ (k : Fork). goes_on (state_of m d) (Kill t purpose)) o (over (record { state = purpose_done (state_of m d) t (job_in m t j) purpose; items = [] }))) some)

-- what a part does, by which deed it is
pub does_part : {P : Type 0} {b : _} (m mid m' : System P b) (d e : Deed) (r r' : Result Answer Need) → r' ≡ r → m' ≡ mid → e ≡ d → IfOk r (Does m mid (λ s. deed s d)) → IfOk r' (Does m m' (λ s. deed s e))
does_part m mid m' d e r r' done now is does =
    subst (λ x. IfOk r' (Does m m' (λ s. deed s x))) (sym is) (subst (λ x. IfOk r' (Does m x (λ s. deed s d))) (sym now) (subst (λ x. IfOk x (Does m mid (λ s. deed s d))) (sym done) does))
