-- How long a fork that can run is passed over in a run (CACM paper, "Scheduling").
use Rattle.std.specs.Prelude.{◌≡◌, ◌≢◌, ◌<◌, List, [], ◌∷◌, ◌++◌, length, ⊤}
use Rattle.machine_names.specs.declared.names.ForkName.{ForkName}
use Rattle.script_texts.specs.declared.event.Event.{Event}
use Rattle.script_texts.specs.declared.event.Step.{Step}
use Rattle.script_texts.specs.declared.event.Step.TheVariants.{Unit as AUnit}
use Rattle.script_texts.specs.Follows.{Follows}
use Rattle.plain_model.specs.declared.bounds.TheConstants.{MOST_PASSED}
use Rattle.plain_model.specs.State.{PlainState}
use Rattle.plain_model.specs.Forks.{IsRunnable}
use Rattle.plain_model.specs.Run.{apply, state_after}

-- a fork can run before each of these entries, and none of them is a unit of it
abbrev pub IsPassedOver : ForkName → PlainState → List Step → Type 0
IsPassedOver f s [] = ⊤
IsPassedOver f s (x ∷ xs) = IsRunnable s.forks f × (x ≢ AUnit f) × IsPassedOver f (apply s x).state xs

-- NO FORK IS PASSED OVER FOR LONG: one that can run before each of so many entries in a row has one of them
abbrev pub IsFair : PlainState → List Step → Type 0
IsFair s steps = (f : ForkName) (before passed after : List Step) → steps ≡ before ++ (passed ++ after) → IsPassedOver f (state_after s before) passed → length passed < MOST_PASSED

-- so in the entries of each event
abbrev pub AreFair : PlainState → (events : List Event) (steps : List Step) → Follows events steps → Type 0
AreFair s [] steps follows = ⊤
AreFair s (e ∷ es) steps follows = IsFair s follows.0 × AreFair (state_after s follows.0) es follows.1 follows.4
