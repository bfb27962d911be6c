-- TYPE, played: the characters of a text, and the step behind them.
use Rattle.std.proofs.Common.{◌≡◌, ℕ, ◌+◌, List, [], ◌∷◌, ◌++◌, Option, Some, false, sym, ◌∙◌, ap, subst, arith}
use Rattle.std.specs.Prelude.{Result, Ok, Err, OnOk, OnErr}
use Rattle.std.specs.Result.{IsErr}
use Rattle.machine_names.specs.declared.names.Tty.{Tty}
use Rattle.script_texts.specs.declared.event.Event.TheVariants.{TypeIn}
use Rattle.script_texts.specs.declared.event.Item.{Item}
use Rattle.script_texts.specs.declared.event.Step.{Step}
use Rattle.script_texts.specs.declared.event.Step.TheVariants.{Outer}
use Rattle.script_texts.specs.Taker.{GoesOn, IsCut}
use Rattle.script_texts.proofs.Takers.{cut_longer}
use Rattle.page_contracts.specs.DrumWords.{DrumWords}
use Rattle.plain_model.specs.TypeEvents.{typed_all}
use Rattle.plain_model.specs.Unit.{Effect}
use Rattle.monitor_calls.specs.declared.job.Job.{Job}
use Rattle.monitor_calls.specs.Jobs.{job_at}
use Rattle.monitor_core.specs.declared.system.System.{System}
use Rattle.monitor_core.specs.Systems.{FitsPages, state_of}
use Rattle.event_items.specs.Giving.{Standing, StaysTaker, Takes}
use Rattle.event_items.proofs.Given.{on_err, taker_failed, taker_then, takes_then}
use Rattle.event_items.proofs.GivenParts.{no_ok}
use Rattle.record_player.proofs.TypedIn.{types_all}
use Rattle.record_player.specs.declared.stage.Stage.{Stage}
use Rattle.record_player.specs.Stages.{CutIn, Gives, PlayedEvent, TypedOut}

module _ {P T : Type 0} {b : _} (fault_count : T → ℕ) (onward : T → T → Type 0) (stands cut : Standing T) (m : Stage P b) (t : Tty) (text : List ℕ) (j : Job) (at : job_at m.system.jobs.items t.0 ≡ Some j) where
  abbrev own : List Step
  own = Outer (TypeIn t text) ∷ []

  its_cut : (out out' : T) → ((d : DrumWords) → FitsPages m.system d → IsCut stands cut out out' ((typed_all (state_of m.system d) t text).items ++ []) own) → CutIn stands cut m out out' own
  its_cut out out' given = record {
    each = λ d f. record { legal = (tt, tt); given = subst (λ (e : Effect). IsCut stands cut out out' (e.items ++ []) own) (sym (types_all m.system t text d j at)) (given d f) };
  }

  -- the taker failed within what the characters show
  pub text_cut : {X Y E : Type 0} (mid : Stage P b) (out out' : T) (e : E) (r : Result X E) → IsErr r → TypedOut {X = Y} {E = E} fault_count onward stands cut m mid out out' (Err e) t text → PlayedEvent fault_count onward stands cut m mid out out' r (TypeIn t text)
  text_cut mid out out' e r fails typed = record {
    taker = taker_failed fault_count onward out out' e r typed.taker;
    ok = no_ok _ r fails;
    err = on_err r (its_cut out out' (λ d f. cut_longer stands cut out out' (typed_all (state_of m.system d) t text).items [] [] own (typed.given d f).err));
  }

  -- the step behind them
  pub text_played : {X Y E F : Type 0} (mid m' : Stage P b) (out between out' : T) (y : Y) (r : Result X E) → TypedOut {X = Y} {E = F} fault_count onward stands cut m mid out between (Ok y) t text → m'.system ≡ mid.system → m'.done ≡ mid.done + 1
      → StaysTaker fault_count onward between out' r → Takes stands cut between out' r [] own → PlayedEvent fault_count onward stands cut m m' out out' r (TypeIn t text)
  text_played {X} {Y} {E} mid m' out between out' y r typed same counts stays takes_own = record {
    taker = taker_then fault_count onward out between out' (Ok y) r typed.taker stays;
    ok = all r (λ d f. (takes d f).ok);
    err = part r (λ d f. (takes d f).err);
  }
    where
      takes : (d : DrumWords) → FitsPages m.system d → Takes stands cut out out' r ((typed_all (state_of m.system d) t text).items ++ []) own
      takes d f = takes_then stands cut out between out' r (typed_all (state_of m.system d) t text).items [] [] own (typed.given d f).ok takes_own

      all : (r : Result X E) → ((d : DrumWords) → FitsPages m.system d → OnOk r (GoesOn stands out out' ((typed_all (state_of m.system d) t text).items ++ []) own)) → OnOk r (Gives stands m m' out out' own)
      all (Err e) given = tt
      all (Ok x) given = record {
        count = omega (arith, counts, typed.count);
        each = λ d f.
            let left = typed.left d f in
            let is = types_all m.system t text d j at in (
              subst (λ (s : System P b). FitsPages s d) (sym same) left.0,
              record {
                legal = (tt, tt);
                state = ap (λ (s : System P b). state_of s d) same ∙ left.1 ∙ ap (λ (e : Effect). e.state) (sym is);
                given = subst (λ (e : Effect). GoesOn stands out out' (e.items ++ []) own) (sym is) (given d f);
              },
            );
      }

      part : (r : Result X E) → ((d : DrumWords) → FitsPages m.system d → OnErr r (IsCut stands cut out out' ((typed_all (state_of m.system d) t text).items ++ []) own)) → OnErr r (CutIn stands cut m out out' own)
      part (Ok x) given = tt
      part (Err e) given = its_cut out out' given
