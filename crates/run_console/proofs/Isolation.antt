-- Where the headline holds, each terminal that is apart sees its own work alone: the entries of the record fit their limits, and are legal.
use Rattle.std.proofs.Common.{◌||◌, ℕ, Bool, List, [], ◌∷◌, String, true, false, sym, subst}
use Rattle.script_texts.specs.declared.event.Event.{Event}
use Rattle.script_texts.specs.declared.event.Item.{Item}
use Rattle.script_texts.specs.declared.event.Step.{Step}
use Rattle.script_texts.specs.declared.event.Step.TheVariants.{Outer, Unit as AUnit, Idle}
use Rattle.script_texts.specs.Follows.{Follows, auto_after}
use Rattle.plain_model.specs.Run.{AreLegal, IsLegal, IsLegalStep, apply, state_after}
use Rattle.plain_model.specs.State.{PlainState, opening}
use Rattle.plain_model.proofs.Runs.{AreLegal-append}
use Rattle.plain_alone.specs.Alone.{AllSeeTheirOwn}
use Rattle.plain_alone.proofs.LegalRuns.{legal_can_run}
use Rattle.plain_alone.proofs.Isolated.{all_see_their_own}
use Rattle.command_words.specs.declared.request.EventSource.{EventSource}
use Rattle.command_words.specs.declared.request.EventSource.TheVariants.{Script, Generated}
use Rattle.command_words.specs.declared.sizes.Sizes.{Sizes}
use Rattle.script_driver.specs.RunTexts.{Headline, IsRunOf, entries_of}
use Rattle.script_driver.specs.Observed.{Observed}
use Rattle.run_console.specs.Headline.{HasHeadline}
use Rattle.run_console.specs.Isolation.{HasIsolation}
use Rattle.run_console.proofs.Spelled.{record_fits}

-- legal whatever the AUTO mark
step_unmarked : (auto : Bool) (s : PlainState) (x : Step) → IsLegalStep auto s x → IsLegalStep false s x
step_unmarked auto s (Outer e) legal = tt
step_unmarked auto s (AUnit f) legal = legal
step_unmarked auto s Idle legal = λ on. absurd (cc on)

steps_unmarked : (auto : Bool) (s : PlainState) (xs : List Step) → AreLegal auto s xs → AreLegal false s xs
steps_unmarked auto s [] legal = tt
steps_unmarked auto s (x ∷ xs) legal = (step_unmarked auto s x legal.0, steps_unmarked auto (apply s x).state xs legal.1)

unmarked : (flat auto : Bool) (s : PlainState) (es : List Event) (xs : List Step) (f : Follows es xs) → IsLegal flat auto s es xs f → AreLegal false s xs
unmarked flat auto s [] xs f legal = subst (AreLegal false s) (sym f) tt
unmarked flat auto s (e ∷ es) xs f legal =
    subst (AreLegal false s) (sym f.2)
    (AreLegal-append false s f.0 f.1 (steps_unmarked (flat || auto) s f.0 legal.0) (unmarked flat (auto_after auto e) (state_after s f.0) es f.1 f.4 legal.1))

module _ (sizes : Sizes) (told : Observed) where
  sees : (events : List Event) (text : List Item → List Step → List ℕ) (run : IsRunOf events text sizes told) → AllSeeTheirOwn sizes.drum run.entries
  sees events text run =
      all_see_their_own sizes.drum run.entries (record_fits events text sizes told run).fit
      (legal_can_run false (opening sizes.drum) run.entries (unmarked false true (opening sizes.drum) events run.entries run.follows run.legal))

  by_source : (events : EventSource) (headline : Headline events sizes told) → AllSeeTheirOwn sizes.drum (entries_of events sizes told headline)
  by_source Script headline = sees _ _ headline.run
  by_source (Generated seed) headline = sees _ _ headline.run

pub isolated : {Z : Type 0} (words : List (String Z)) (told : Observed) → HasHeadline words told → HasIsolation words told
isolated words told h = (h.0, h.1, λ paged. (h.2 paged, by_source h.0.sizes told h.0.events (h.2 paged)))
