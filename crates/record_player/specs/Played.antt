-- Which entries the plain machine can do: those of a record, whatever wrote it.
use Rattle.std.specs.Prelude.{◌≡◌, ℕ, ◌+◌, List, [], ◌∷◌, ◌++◌, length}
use Rattle.script_texts.specs.declared.event.Step.{Step}
use Rattle.script_texts.specs.declared.event.Step.TheVariants.{Outer, Unit as AUnit, Idle}
use Rattle.plain_model.specs.State.{PlainState}
use Rattle.plain_model.specs.Forks.{IsRunnable}
use Rattle.plain_model.specs.Run.{apply, state_after}

-- a unit is of a fork that can run there. A record doesn't tell the AUTO mark, so an idle entry may always stand.
abbrev pub CanPlay : PlainState → Step → Type 0
CanPlay s (Outer e) = Unit {0}
CanPlay s (AUnit f) = IsRunnable s.forks f
CanPlay s Idle = Unit {0}

-- each entry can be played where it stands
abbrev pub ArePlayed : PlainState → List Step → Type 0
ArePlayed s [] = Unit {0}
ArePlayed s (x ∷ xs) = CanPlay s x × ArePlayed (apply s x).state xs

-- an entry of this number, from 1 on, is the first that can't be played, and these are the ones before it
pub record BreaksAt (s : PlainState) (entries : List Step) (number : ℕ) (before : List Step) : Type 0 where
  pub entry : Step
  pub later : List Step
  pub whole : entries ≡ before ++ entry ∷ later
  pub numbered : number ≡ length before + 1
  pub played : ArePlayed s before
  pub broken : CanPlay (state_after s before) entry → ⊥
