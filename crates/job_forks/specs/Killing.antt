-- What goes with a fork that is killed, and what its kill needs first of pages of which some are in no frame.
use Rattle.std.specs.Prelude.{◌≡◌, ◌⊎◌, true, None, Some}
use Rattle.machine_names.specs.declared.names.ForkName.{ForkName}
use Rattle.page_contracts.specs.declared.answers.Need.{Need}
use Rattle.page_contracts.specs.declared.answers.Need.TheVariants as need
use Rattle.page_contracts.specs.Pages.{Scene}
use Rattle.plain_model.specs.Forks.{ForkMap}
use Rattle.plain_model.specs.Inferiors.{is_inferior}

-- a fork goes with one that is killed: it is that one, or below it
abbrev pub GoesWith : ForkMap → ForkName → ForkName → Type 0
GoesWith forks name f = (f ≡ name) ⊎ (is_inferior forks name f ≡ true)

-- the map of a fork stands at the home that is needed, in no frame
abbrev pub IsMapAway : Scene → ForkName → Need → Type 0
IsMapAway scene f (need.Page home) = scene.map_away f ≡ Some home.0
IsMapAway scene f need.Frame = ⊥

-- the maps of all that go with one that is killed are in frames
abbrev pub AreMapsHere : Scene → ForkMap → ForkName → Type 0
AreMapsHere scene forks name = (f : ForkName) → GoesWith forks name f → scene.map_away f ≡ None

-- a kill needs the map of one that goes with it
pub record IsKilledAway (scene : Scene) (forks : ForkMap) (name : ForkName) (n : Need) : Type 0 where
  pub fork : ForkName
  pub goes : GoesWith forks name fork
  pub away : IsMapAway scene fork n
