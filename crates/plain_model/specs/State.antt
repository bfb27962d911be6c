-- The state of the plain machine: numbers, lists and finite maps.
use Rattle.std.specs.Prelude.{ℕ, List, Bool, false, Option}
use Rattle.std.specs.Ordering.{nat_cmp}
use Rattle.std.specs.FinMap as map
use Rattle.machine_names.specs.declared.names.ForkName.{ForkName}
use Rattle.plain_model.specs.declared.fork.Fork.{Fork}
use Rattle.plain_model.specs.declared.fork.TerminalMode.{TerminalMode}
use Rattle.machine_names.specs.Orders.{fork_cmp, name_cmp}
use Rattle.plain_pages.specs.PlainPages.{NamedPages, first_serials, opening_pages}
use Rattle.plain_files.specs.Sizes.{PlainFile}
use Rattle.plain_files.specs.OpenFiles.{OpenFiles}

-- a job: its user, its top fork, who reads its terminal, the command line, the start address of its
-- last RUN command, its JFNs, the characters stored, and the channels of the codes that are assigned
pub record PlainJob : Type 0 where
  pub user : List ℕ
  pub top : ForkName
  pub mode : TerminalMode
  pub line : List ℕ
  pub start : Option ℕ
  pub jfns : OpenFiles
  pub input : List ℕ
  pub codes : map.FinMap nat_cmp (ForkName × ℕ)

-- the whole state: the pages, the files by name, the jobs by terminal, the forks by name, the next
-- fork serial of each terminal, the clock, and whether each unit is shown
pub record PlainState : Type 0 where
  pub pages : NamedPages
  pub files : map.FinMap name_cmp PlainFile
  pub jobs : map.FinMap nat_cmp PlainJob
  pub forks : map.FinMap fork_cmp Fork
  pub fork_serials : List ℕ
  pub clock : ℕ
  pub trace : Bool

-- no job, fork, file or page
unfoldable pub opening : ℕ → PlainState
opening limit = record { pages = opening_pages name_cmp limit; files = map.empty; jobs = map.empty; forks = map.empty; fork_serials = first_serials; clock = 0; trace = false }
