-- What a transfer of pages leaves of a system.
use Rattle.std.specs.Prelude.{◌≡◌}
use Rattle.page_contracts.specs.Pages.{StaysMapped}
use Rattle.monitor_core.specs.declared.system.System.{System}

-- the forks, the files and JFNs, the jobs, what was typed, the clock and the mark of TRACE are as they were
pub record StaysBeside {P : Type 0} {b : _} (old new : System P b) : Type 0 where
  pub tree : new.tree ≡ old.tree
  pub files : new.files ≡ old.files
  pub jobs : new.jobs.items ≡ old.jobs.items
  pub typed : new.typed.items ≡ old.typed.items
  pub panel : new.panel ≡ old.panel

-- and so is where each page and each map has its home
pub record StaysPlaced {P : Type 0} {b : _} (old new : System P b) : Type 0 where
  pub beside : StaysBeside old new
  pub mapped : StaysMapped b.means old.pages new.pages
