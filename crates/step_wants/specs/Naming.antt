-- What is away stands at its home, and how steps ask for a reference again.
use Rattle.std.specs.Prelude.{◌≡◌, ℕ, Option, Some}
use Rattle.machine_names.specs.declared.names.ForkName.{ForkName}
use Rattle.machine_names.specs.declared.names.PageName.{PageName}
use Rattle.page_contracts.specs.Pages.{Scene}
use Rattle.plain_units.specs.Steps.{Steps, calls, ends, keeps, refers, traps, widens}

-- what is in no frame of a scene, of maps and of pages, stands at these homes
pub record AreHomed (map_home : ForkName → Option ℕ) (page_home : PageName → Option ℕ) (scene : Scene) : Type 0 where
  pub maps : (f : ForkName) (home : ℕ) → scene.map_away f ≡ Some home → map_home f ≡ Some home
  pub pages : (n : PageName) (home : ℕ) → scene.page_away n ≡ Some home → page_home n ≡ Some home

-- steps that end at once
abbrev pub EndAtOnce : Steps → Type 0
EndAtOnce (ends e) = Unit {0}
EndAtOnce steps = ⊥

-- steps that ask for a reference again only right before they end
abbrev pub AskAgainLast : Steps → Type 0
AskAgainLast (refers a kind next) = (w : ℕ) → AskAgainLast (next w)
AskAgainLast (widens a next) = EndAtOnce next
AskAgainLast (keeps a w next) = AskAgainLast next
AskAgainLast (ends e) = Unit {0}
AskAgainLast (traps channel) = Unit {0}
AskAgainLast (calls number) = Unit {0}
