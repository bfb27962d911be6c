-- Turns by which no transfer can be seen pass nobody over for long.
use Rattle.std.proofs.Common.{◌≡◌, ℕ, zero, suc, ◌+◌, ◌<◌, ◌≤◌, List, [], ◌∷◌, length, true, false, refl, sym, ◌∙◌, ap, subst, arith}
use Rattle.fork_lists.proofs.Nearing.{headed, in_line}
use Rattle.fork_lists.specs.Following.{last_counted}
use Rattle.job_sched.specs.Lines.{Nears, ahead_of}
use Rattle.job_sched.specs.Schedules.{Schedule, heads}
use Rattle.job_sched.specs.Units.{IsTimed}
use Rattle.job_sched.proofs.Lines.{due}
use Rattle.job_sched.proofs.Ties.{none_runs}
use Rattle.paged_events.proofs.RowPassed.{head_alone, head_counts}
use Rattle.machine_names.specs.declared.names.ForkName.{ForkName}
use Rattle.page_waits.specs.Told.{all_arrived}
use Rattle.plain_model.specs.Forks.{runs_in}
use Rattle.plain_model.specs.Moves.{moves}
use Rattle.plain_model.specs.Passing.{IsPassedOver}
use Rattle.plain_model.specs.Run.{apply}
use Rattle.plain_model.specs.State.{PlainState}
use Rattle.script_texts.specs.Follows.{AreTurns}
use Rattle.script_texts.specs.declared.event.Step.{Step}
use Rattle.script_texts.specs.declared.event.Step.TheVariants.{Outer, Unit as AUnit, Idle}
use Rattle.turn_forms.specs.Turns.{AreReady, moved}
use Rattle.turn_forms.proofs.Passing.{acts_come}
use Rattle.paged_events.specs.Turns.{AreCalmOver, TakesTurnsOver}

-- who is not the head has others before it
waits_first : (f : ForkName) (c : Schedule) → IsTimed c → 0 < length c.ready → heads f c.ready ≡ false → 1 ≤ ahead_of f c
waits_first f c timed some apart = by (ahead_of f c) refl
  where
    by : (n : ℕ) → ahead_of f c ≡ n → 1 ≤ n
    by zero none = absurd (let no : true ≡ false = sym ((due f c timed some).0 none) ∙ apart in cc no)
    by (suc n) is = omega arith

pub short : (f : ForkName) (c c' : Schedule) (s : PlainState) (xs : List Step) (turns : TakesTurnsOver c s xs c') → AreCalmOver c s xs c' turns → AreTurns xs → IsPassedOver f s xs → length xs ≤ ahead_of f c
short f c c' s [] turns calm are passed = omega arith
short f c c' s (Outer e ∷ xs) turns calm are passed = absurd are.0
short f c c' s (Idle ∷ xs) (begun, mid, silent, ready, empty, took, rest) (still, calm, told, later) are (can, other, more) =
    let now : AreReady s.forks c = subst (AreReady s.forks) still ready in
    let none : c.ready ≡ [] = subst (λ (d : Schedule). d.ready ≡ []) still empty in
    absurd (let no : true ≡ false = sym can ∙ none_runs (runs_in s.forks) c f now.listed now.filled now.some none calm in cc no)
short f c c' s (AUnit g ∷ []) (begun, mid, silent, ready, head, took, rest) (still, calm, told, later) are (can, other, more) =
    let now : AreReady s.forks c = subst (AreReady s.forks) still ready in
    let is : heads g c.ready ≡ true = subst (λ (d : Schedule). heads g d.ready ≡ true) still head in
    waits_first f c now.timed (headed g c.ready is) (head_alone f g c.ready is (λ same. other (ap AUnit (sym same))))
short f c c' s (AUnit g ∷ y ∷ ys) (begun, mid, silent, ready, head, took, rest) (still, calm, told, later) are (can, other, more) =
    let now : AreReady s.forks c = subst (AreReady s.forks) still ready in
    let is : heads g c.ready ≡ true = subst (λ (d : Schedule). heads g d.ready ≡ true) still head in
    let here = in_line f c calm (now.listed.each f ∙ can) in
    let next = (apply s (AUnit g)).state in
    let u = moved (moves took.seen next.forks) c in
    let came = acts_come f took.seen next.forks c more.0 now.timed here in
    let closer : Nears f c (last_counted g u) 1 = head_counts f g c u came (λ same. other (ap AUnit (sym same))) is in
    let end : mid ≡ last_counted g u =
    took.counted ∙ ap (λ needs. last_counted g (all_arrived needs (moved (moves took.seen next.forks) begun))) told ∙ ap (λ (d : Schedule). last_counted g (moved (moves took.seen next.forks) d)) still in
    let nearer = subst (λ (d : Schedule). ahead_of f d + 1 ≤ ahead_of f c) (sym end) closer.nearer in
    let rest_short = short f mid c' next (y ∷ ys) rest later are.1 more in
    omega (arith, nearer, rest_short)
