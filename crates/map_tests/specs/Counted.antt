-- How many forks terminal 1 has, and how many pages it has made.
use Rattle.std.specs.Prelude.{ℕ, ◌+◌, ◌≤◌}
use Rattle.machine_names.specs.declared.names.TheConstants.{MOST_FORKS}
use Rattle.machine_names.specs.declared.names.Tty.{Tty}
use Rattle.page_contracts.specs.Pages.{PagesMeaning}

abbrev pub first : Tty
first = record { 0 = 1 }

-- no more forks and pages of terminal 1 than are counted, and room for the forks of a job
pub record AreCounted {P : Type 0} (means : PagesMeaning P) (p : P) (forks made : ℕ) : Type 0 where
  pub few : means.forks_of p first ≤ forks
  pub low : means.serial p first ≤ made + 1
  pub roomy : MOST_FORKS ≤ means.most_forks
