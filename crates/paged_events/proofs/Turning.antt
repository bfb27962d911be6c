-- Turns of a run that were given.
use Rattle.std.proofs.Common.{◌≡◌, ℕ, zero, suc, [], ◌++◌, Bool, true, Option, replicate, refl, sym, ◌∙◌, ap, subst}
use Rattle.machine_names.specs.declared.names.ForkName.{ForkName}
use Rattle.page_contracts.specs.DrumWords.{DrumWords}
use Rattle.page_waits.specs.Acts.{IdledOver, RanOver}
use Rattle.page_waits.specs.Systems.{SystemMeaning, row_of}
use Rattle.page_waits.specs.Waits.{ListsMeaning}
use Rattle.event_deeds.specs.declared.answer.Showing.TheVariants as showing
use Rattle.plain_model.specs.Run.{AreLegal, apply, items_of, state_after}
use Rattle.plain_model.specs.State.{PlainState}
use Rattle.plain_model.specs.Unit.{Effect}
use Rattle.plain_model.proofs.Equations.{apply_idle}
use Rattle.script_texts.specs.Follows.{AreTurns, IsTurn}
use Rattle.script_texts.specs.Taker.{GoesOn, IsCut}
use Rattle.script_texts.specs.declared.event.Step.{Step}
use Rattle.script_texts.specs.declared.event.Step.TheVariants.{Idle as AnIdle, Unit as AUnit}
use Rattle.step_shown.specs.declared.progress.Progress.{Progress}
use Rattle.paged_events.specs.Given.{Gives, Standing}
use Rattle.event_items.specs.Outcome.{CutOver, judged_by}

-- so many equal turns are turns
pub are_turns : (n : ℕ) (step : Step) → IsTurn step → AreTurns (replicate n step)
are_turns zero step h = tt
are_turns (suc n) step h = (h, are_turns n step h)

-- units are legal whatever the AUTO mark
units_legal : (a b : Bool) (s : PlainState) (f : ForkName) (n : ℕ) → AreLegal a s (row_of f n) → AreLegal b s (row_of f n)
units_legal a b s f zero h = tt
units_legal a b s f (suc n) h = (h.0, units_legal a b (apply s (AUnit f)).state f n h.1)

-- idle entries leave the state, and show nothing
idle_state : (s : PlainState) (n : ℕ) → state_after s (replicate n AnIdle) ≡ s
idle_state s zero = refl
idle_state s (suc n) = ap (λ (e : Effect). state_after e.state (replicate n AnIdle)) (apply_idle s) ∙ idle_state s n

idle_items : (s : PlainState) (n : ℕ) → items_of s (replicate n AnIdle) ≡ []
idle_items s zero = refl
idle_items s (suc n) = ap (λ (e : Effect). e.items ++ items_of e.state (replicate n AnIdle)) (apply_idle s) ∙ idle_items s n

module _ {S L : Type 0} (means : SystemMeaning S) (lists : ListsMeaning L) {D T : Type 0} (held : D → Option DrumWords) (stands cut : Standing T) (auto : Bool) where
  pub units_gave : (f : ForkName) (done : Progress) (s s' : S) (drum drum' : D) (out out' : T) → RanOver means lists held f done s s' drum drum'
      → ((d : DrumWords) → means.fits s' d → means.gives s' d (showing.Reply done.reply) → GoesOn stands out out' (means.items (means.plain s' d) (showing.Reply done.reply)) (row_of f done.count)) → Gives means held stands cut auto s s' drum drum' out out' (row_of f done.count)
  units_gave f done s s' drum drum' out out' ran given = record {
    each = λ d st fits.
        let y = ran.each d st fits in (
          y.0,
          y.1,
          y.2,
          record {
            legal = units_legal true (judged_by means.store.flat auto) (means.plain s d) f done.count y.3;
            state = y.4;
            given = subst (λ is. GoesOn stands out out' is (row_of f done.count)) y.5 (given y.0 y.2 y.6);
          },
        );
  }

  pub units_cut : (f : ForkName) (done : Progress) (s s' : S) (drum drum' : D) (out out' : T) → RanOver means lists held f done s s' drum drum'
      → ((d : DrumWords) → means.fits s' d → means.gives s' d (showing.Reply done.reply) → IsCut stands cut out out' (means.items (means.plain s' d) (showing.Reply done.reply)) (row_of f done.count)) → CutOver means.store.flat means.fits means.plain held stands cut s drum out out' auto (row_of f done.count)
  units_cut f done s s' drum drum' out out' ran given = record {
    each = λ d st fits.
        let y = ran.each d st fits in
        record {
          legal = units_legal true (judged_by means.store.flat auto) (means.plain s d) f done.count y.3;
          given = subst (λ is. IsCut stands cut out out' is (row_of f done.count)) y.5 (given y.0 y.2 y.6);
        };
  }

  pub idle_gave : (count : ℕ) (s s' : S) (drum drum' : D) (out out' : T) → IdledOver means lists held auto count s s' drum drum' → GoesOn stands out out' [] (replicate count AnIdle) → Gives means held stands cut auto s s' drum drum' out out' (replicate count AnIdle)
  idle_gave count s s' drum drum' out out' idled given = record {
    each = λ d st fits.
        let y = idled.each d st fits in (
          y.0,
          y.1,
          y.2,
          record {
            legal = y.4;
            state = y.3 ∙ sym (idle_state (means.plain s d) count);
            given = subst (λ is. GoesOn stands out out' is (replicate count AnIdle)) (sym (idle_items (means.plain s d) count)) given;
          },
        );
  }

  pub idle_cut : (count : ℕ) (s s' : S) (drum drum' : D) (out out' : T) → IdledOver means lists held auto count s s' drum drum' → IsCut stands cut out out' [] (replicate count AnIdle) → CutOver means.store.flat means.fits means.plain held stands cut s drum out out' auto (replicate count AnIdle)
  idle_cut count s s' drum drum' out out' idled given = record {
    each = λ d st fits.
        let y = idled.each d st fits in
        record { legal = y.4; given = subst (λ is. IsCut stands cut out out' is (replicate count AnIdle)) (sym (idle_items (means.plain s d) count)) given };
  }
