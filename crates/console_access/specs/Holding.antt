-- The forks that pages hold.
use Rattle.std.specs.Prelude.{◌≡◌, true}
use Rattle.machine_names.specs.declared.names.ForkName.{ForkName}
use Rattle.machine_names.specs.Bounds.{IsTerminal}
use Rattle.page_contracts.specs.Pages.{PagesMeaning}

-- pages hold a fork of a terminal
pub record Holds {P : Type 0} (means : PagesMeaning P) (p : P) (f : ForkName) : Type 0 where
  pub lives : means.lives p f ≡ true
  pub terminal : IsTerminal f.tty
