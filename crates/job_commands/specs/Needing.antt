-- What a part of a command needs first: one map or one page of a file, whose home is told without a drum.
use Rattle.std.specs.Prelude.{◌≡◌, ℕ, Option, None, Some}
use Rattle.machine_names.specs.declared.names.ForkName.{ForkName}
use Rattle.machine_names.specs.Orders.{FilePage}
use Rattle.plain_model.specs.declared.fork.Fork.{Fork}
use Rattle.page_homes.specs.declared.homes.Home.{Home}
use Rattle.page_contracts.specs.declared.answers.Need.{Need}
use Rattle.page_contracts.specs.declared.answers.Need.TheVariants.{Page}
use Rattle.page_contracts.specs.Pages.{PagesMeaning, StandsInFile}
use Rattle.page_contracts.specs.Stores.{IsNeeded}

-- the map of a fork is needed, which is in no frame
pub record NeedsMap {P : Type 0} (means : PagesMeaning P) (p : P) (fork : ForkName) (n : Need) : Type 0 where
  pub home : Home
  pub page : n ≡ Page home
  pub own : means.map_home p fork ≡ Some home.0
  pub needed : IsNeeded means.store 1 p n

-- the page that a file names at one of its pages is needed, which is in no frame
pub record NeedsFilePage {P : Type 0} (means : PagesMeaning P) (p : P) (f : FilePage ℕ) (n : Need) : Type 0 where
  pub home : Home
  pub page : n ≡ Page home
  pub own : StandsInFile means p f home.0
  pub needed : IsNeeded means.store 1 p n

-- so is that of a fork, if there is one
abbrev pub NeedsLast : {P : Type 0} → PagesMeaning P → P → Option Fork → Need → Type 0
NeedsLast means p None n = ⊥
NeedsLast means p (Some f) n = NeedsMap means p f.name n
