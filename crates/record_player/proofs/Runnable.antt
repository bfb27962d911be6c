-- What can be done is legal, and is one of so many steps.
use Rattle.std.proofs.Common.{◌≡◌, true, sym, ◌∙◌, ap, subst, arith, replicate}
use Rattle.std.proofs.lemmas.List.{append-nil}
use Rattle.script_texts.specs.declared.event.Step.{Step}
use Rattle.script_texts.specs.declared.event.Step.TheVariants.{Outer, Unit as AUnit, Idle}
use Rattle.page_contracts.specs.DrumWords.{DrumWords}
use Rattle.script_texts.specs.Limits.{FitsStep}
use Rattle.machine_names.specs.Bounds.{IsForkName}
use Rattle.plain_model.specs.Forks.{runs_in}
use Rattle.plain_model.specs.Run.{apply, state_after, IsLegalStep}
use Rattle.plain_model.specs.Trees.{PlainTree}
use Rattle.step_shown.specs.declared.reply.Reply.{Reply}
use Rattle.step_shown.specs.declared.runner.Runner.{Runner}
use Rattle.monitor_core.specs.declared.system.System.{System}
use Rattle.step_shown.specs.Runners.{IsRunner}
use Rattle.monitor_core.specs.Systems.{CanDo, Did, DidAll, state_of}

-- what can be done is legal
is_legal : {P : Type 0} {b : _} (m : System P b) (d : DrumWords) (step : Step) → CanDo m step → IsLegalStep true (state_of m d) step
is_legal m d (Outer e) can = tt
is_legal m d (AUnit f) can = can
is_legal m d Idle none = λ on f r. none f r

-- a fork that can run has a name and a slot
pub runner_fits : (tree : PlainTree) (who : Runner) → IsRunner tree who → FitsStep (AUnit who.fork)
runner_fits tree who r = subst IsForkName r.named (r.trees.slotted.named r.fork r.there.0)

-- a step that is done is one of so many
pub did_one : {P : Type 0} {b : _} (m m' : System P b) (step : Step) (reply : Reply) → CanDo m step → Did m m' step reply → DidAll m m' step 1 reply
did_one m m' step reply can did = record {
  fits = λ d f. (did.each d f).0;
  legal = λ d f. (is_legal m d step can, tt);
  state = λ d f. (did.each d f).1;
  items = λ d f. (did.each d f).2 ∙ sym (append-nil (apply (state_of m d) step).items);
  runs = λ d f k less g. let none : k ≡ 0 = omega (arith, less) in ap (λ i. runs_in (state_after (state_of m d) (replicate i step)).forks g) none;
  shown = did.shown;
  within = did.within;
  most = did.most;
}
