-- Entries that events may have are within their limits: a unit is of a fork that lives, and a whole state's forks have names within theirs.
use Rattle.std.proofs.Common.{◌≡◌, ℕ, List, [], ◌∷◌, ◌++◌, Bool, true, refl, subst, All}
use Rattle.std.specs.Prelude.{◌||◌}
use Rattle.std.proofs.lemmas.List.Elements.{All-append, All-cons, All-head, All-nil, All-same, All-tail}
use Rattle.machine_names.specs.Bounds.{IsForkName}
use Rattle.script_texts.specs.declared.event.Event.{Event}
use Rattle.script_texts.specs.declared.event.Step.{Step}
use Rattle.script_texts.specs.declared.event.Step.TheVariants.{Outer, Unit as AUnit, Idle}
use Rattle.script_texts.specs.Limits.{FitsEvent, FitsStep}
use Rattle.script_texts.specs.Follows.{Shape, silent, turns, single, shape_of, IsTurn, AreTurns, AreOfShape, Follows, auto_after}
use Rattle.plain_model.specs.State.{PlainState, opening}
use Rattle.plain_model.specs.Run.{apply, state_after, IsLegalStep, AreLegal, IsLegal}
use Rattle.fork_tree.proofs.CanRun.{runs_as}
use Rattle.fork_tree.proofs.Slots.{held_lives}
use Rattle.plain_laws.specs.Whole.{IsWholeMachine}
use Rattle.plain_laws.proofs.WholeRuns.{step_whole, steps_whole, whole_opening}

-- a turn is of a fork that lives, or idle
turn_fits : (s : PlainState) → IsWholeMachine s → (auto : Bool) (x : Step) → IsTurn x → IsLegalStep auto s x → FitsStep x
turn_fits s w auto (Outer e) turn legal = absurd turn
turn_fits s w auto (AUnit k) turn legal =
    let r = runs_as s.forks k legal in
    subst IsForkName (w.tree.slotted.own k r.0 r.1) (w.tree.slotted.named r.0 (held_lives s.forks w.tree.slotted k r.0 r.1))
turn_fits s w auto Idle turn legal = tt

turns_fit : (auto : Bool) (s : PlainState) (xs : List Step) → IsWholeMachine s → AreTurns xs → AreLegal auto s xs → All FitsStep xs
turns_fit auto s [] w are legal = All-nil FitsStep
turns_fit auto s (x ∷ xs) w are legal =
    let fits = turn_fits s w auto x are.0 legal.0 in
    All-cons FitsStep x xs fits (turns_fit auto (apply s x).state xs (step_whole s w x fits) are.1 legal.1)

event_fits : (auto : Bool) (s : PlainState) (e : Event) (shape : Shape) (xs : List Step) → IsWholeMachine s → FitsEvent e → shape_of e ≡ shape → AreOfShape (λ m n. m ≡ n) (Outer e ∷ []) shape xs → AreLegal auto s xs → All FitsStep xs
event_fits auto s e silent xs w fits is follows legal = All-same FitsStep xs [] follows (All-nil FitsStep)
event_fits auto s e (turns count) xs w fits is follows legal = turns_fit auto s xs w follows.1 legal
event_fits auto s e single xs w fits is follows legal = All-same FitsStep xs (Outer e ∷ []) follows (All-cons FitsStep (Outer e) [] (fits, is) (All-nil FitsStep))

events_fit : (flat auto : Bool) (s : PlainState) (es : List Event) (xs : List Step) → IsWholeMachine s → All FitsEvent es → (f : Follows es xs) → IsLegal flat auto s es xs f → All FitsStep xs
events_fit flat auto s [] xs w fits f legal = All-same FitsStep xs [] f (All-nil FitsStep)
events_fit flat auto s (e ∷ es) xs w fits f legal =
    let now = event_fits (flat || auto) s e (shape_of e) f.0 w (All-head FitsEvent e es fits) refl f.3 legal.0 in
    let later = events_fit flat (auto_after auto e) (state_after s f.0) es f.1 (steps_whole s f.0 w now) (All-tail FitsEvent e es fits) f.4 legal.1 in
    All-same FitsStep xs (f.0 ++ f.1) f.2 (All-append FitsStep f.0 f.1 now later)

-- entries that events within their limits may have from the opening state on
pub opened_fit : (flat : Bool) (limit : ℕ) (es : List Event) (xs : List Step) → All FitsEvent es → (f : Follows es xs) → IsLegal flat true (opening limit) es xs f → All FitsStep xs
opened_fit flat limit es xs fits f legal = events_fit flat true (opening limit) es xs (whole_opening limit) fits f legal
