-- Calm entries: before each so few pages and forks live that frames have room for them all, and for all that a unit refers to besides.
use Rattle.std.specs.Prelude.{◌≡◌, ℕ, ◌+◌, ◌<◌, ◌≤◌, List, [], ◌∷◌, ◌++◌, length, ⊤}
use Rattle.machine_names.specs.declared.names.ForkName.{ForkName}
use Rattle.page_contracts.specs.declared.store.TheConstants.{MOST_HELD}
use Rattle.plain_model.specs.declared.bounds.TheConstants.{MOST_PASSED}
use Rattle.plain_model.specs.Forks.{IsRunnable}
use Rattle.plain_model.specs.Passing.{IsPassedOver}
use Rattle.plain_model.specs.Run.{apply, state_after}
use Rattle.plain_model.specs.State.{PlainState}
use Rattle.plain_pages.specs.Room.{live}
use Rattle.script_texts.specs.Follows.{Follows}
use Rattle.script_texts.specs.declared.event.Event.{Event}
use Rattle.script_texts.specs.declared.event.Event.TheVariants.{Evict}
use Rattle.script_texts.specs.declared.event.Step.{Step}
use Rattle.script_texts.specs.declared.event.Step.TheVariants.{Idle}

-- so few pages and forks live that so many frames have room for them, and for as many as may be held for a fork
abbrev pub IsRoomy : ℕ → PlainState → Type 0
IsRoomy frames s = live s.pages + MOST_HELD ≤ frames

-- so before each of these entries
abbrev pub AreRoomy : ℕ → PlainState → List Step → Type 0
AreRoomy frames s [] = ⊤
AreRoomy frames s (x ∷ xs) = IsRoomy frames s × AreRoomy frames (apply s x).state xs

-- no fork can run
abbrev pub NoneRuns : PlainState → Type 0
NoneRuns s = (f : ForkName) → IsRunnable s.forks f → ⊥

-- IN CALM ENTRIES an idle one stands only where no fork can run, and a fork that can run before each of so many in a row has one of them.
pub record IsCalmlyFair (frames : ℕ) (s : PlainState) (steps : List Step) : Type 0 where
  pub idle : (before after : List Step) → steps ≡ before ++ (Idle ∷ after) → AreRoomy frames s (before ++ (Idle ∷ [])) → NoneRuns (state_after s before)
  pub fair : (f : ForkName) (before passed after : List Step) → steps ≡ before ++ (passed ++ after) → AreRoomy frames s (before ++ passed) → IsPassedOver f (state_after s before) passed → length passed < MOST_PASSED

-- So in the entries of each event before which no EVICT stands, while the entries before it are calm.
abbrev pub AreCalmlyFair : ℕ → PlainState → (events : List Event) (steps : List Step) → Follows events steps → Type 0
AreCalmlyFair frames s [] steps follows = ⊤
AreCalmlyFair frames s (Evict n ∷ es) steps follows = ⊤
AreCalmlyFair frames s (e ∷ es) steps follows = IsCalmlyFair frames s follows.0 × (AreRoomy frames s follows.0 → AreCalmlyFair frames (state_after s follows.0) es follows.1 follows.4)
