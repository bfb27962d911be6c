-- What laws say of the commands of the monitor.
use Rattle.std.specs.Prelude.{◌≡◌, ◌≢◌, ◌⊎◌, ◌<◌, ℕ, List, [], ◌∷◌, ◌++◌, true, None, Some, false}
use Rattle.std.specs.FinMap as map
use Rattle.machine_names.specs.declared.character.TheConstants.{CARRIAGE_RETURN, LINE_FEED, PROMPT}
use Rattle.machine_names.specs.declared.names.Access.{Access}
use Rattle.machine_names.specs.declared.names.ForkName.{ForkName}
use Rattle.machine_names.specs.declared.names.PageName.{PageName}
use Rattle.machine_names.specs.declared.names.Slot.{Slot}
use Rattle.machine_names.specs.declared.names.TheConstants.{SPACE_PAGES}
use Rattle.machine_names.specs.declared.names.Tty.{Tty}
use Rattle.machine_names.specs.Orders.{FilePage}
use Rattle.plain_typing.specs.declared.command.Command.{Command as ACommand}
use Rattle.plain_typing.specs.Commands.{command_of}
use Rattle.plain_pages.specs.declared.map.MapEntry.TheVariants.{Empty, Names}
use Rattle.plain_pages.specs.Maps.{entry_at}
use Rattle.plain_pages.specs.PlainPages.{NamedPages}
use Rattle.plain_model.specs.declared.fork.Fork.{Fork}
use Rattle.plain_model.specs.declared.fork.TerminalMode.TheVariants.{Command, Program}
use Rattle.plain_model.specs.Commands.{begun_at, start_address, with_job_at, with_line_end}
use Rattle.plain_model.specs.InterruptCalls.{living_codes}
use Rattle.plain_model.specs.State.{PlainState, PlainJob}
use Rattle.plain_model.specs.Unit.{Effect, printed}
use Rattle.plain_laws.specs.MappedLaws.{KeepsPage}
use Rattle.plain_laws.specs.TypeLaws.{HasJob, typed}

-- what a program may do with a page of its file: read and execute it; a write makes a copy
abbrev pub program_access : Access
program_access = record { r = true; w = false; x = true; c = true }

-- the line at a terminal in command mode is this command
pub record IsCommand (s : PlainState) (t : Tty) (j : PlainJob) (c : ACommand) : Type 0 where
  pub job : HasJob s t j
  pub mode : j.mode ≡ Command
  pub line : command_of j.user j.line ≡ c

-- what comes of the end of the line
abbrev pub line_done : PlainState → Tty → Effect
line_done s t = typed s t (CARRIAGE_RETURN ∷ [])

-- the state where the line is the job's no longer
abbrev pub without_line : PlainState → Tty → PlainJob → PlainState
without_line s t j = with_job_at s t (record j { line = [] })

-- a command is refused: it says why in a line, before the prompt, and changes nothing but that its own line is gone
abbrev pub Tells : PlainState → Tty → PlainJob → List ℕ → Type 0
Tells s t j why = line_done s t ≡ record { state = without_line s t j; items = printed t (CARRIAGE_RETURN ∷ LINE_FEED ∷ (with_line_end why ++ PROMPT ∷ [])) }

-- a page of a fork's space, and of a file
abbrev pub page_of_fork : ForkName → ℕ → Slot
page_of_fork f page = record { fork = f; page = page }

abbrev pub page_of_file : {K : Type 0} → K → ℕ → FilePage K
page_of_file file page = record { file = file; page = page }

-- The top fork of a job begins the program in a file, and is the only fork of the job. Each page of its space is that page of the file, to
-- be read and executed and not to be written, with the copy mark; or it is empty where the file has no such page. What files there are, which
-- pages they have and with which words stays as it was. Of the codes that the job's forks have assigned, those of the top fork stay.
pub record BeginsProgram (old new : PlainState) (t : Tty) (j : PlainJob) (name : List ℕ) (f : Fork) : Type 0 where
  pub named : (page : ℕ) (n : PageName) → page < SPACE_PAGES → map.get old.pages.files (page_of_file name page) ≡ Some n → entry_at new.pages.maps (page_of_fork j.top page) ≡ Some (Names n program_access)
  pub empty : (page : ℕ) → page < SPACE_PAGES → map.get old.pages.files (page_of_file name page) ≡ None → entry_at new.pages.maps (page_of_fork j.top page) ≡ Some Empty
  pub files : new.files ≡ old.files
  pub filed : new.pages.files ≡ old.pages.files
  pub kept : (at : FilePage (List ℕ)) → KeepsPage old.pages new.pages at
  pub begins : map.get new.forks j.top ≡ Some (begun_at (start_address old name) f)
  pub alone : (g : ForkName) → g.tty.0 ≡ t.0 → map.contains_key new.forks g ≡ true → g ≡ j.top
  pub job : HasJob new t (record j { mode = Program; line = []; start = Some (start_address old name); codes = living_codes new.forks j.codes })

-- a page is named by an entry of a map of another job's fork, or by a file
abbrev pub IsNamedElsewhere : NamedPages → Tty → PageName → Type 0
IsNamedElsewhere p t n = ((s : Slot) × (a : Access) × (s.fork.tty.0 ≢ t.0) × (entry_at p.maps s ≡ Some (Names n a))) ⊎ ((f : FilePage (List ℕ)) × (map.get p.files f ≡ Some n))

-- Nothing is left of the job at a terminal: not itself with its JFNs, no fork of its, no map, and no page that no other names. Other jobs and
-- their forks stay as they were, and so do the files with their pages and words.
pub record LeavesNothing (old new : PlainState) (t : Tty) : Type 0 where
  pub job : map.get new.jobs t.0 ≡ None
  pub forks : (f : ForkName) → f.tty.0 ≡ t.0 → map.get new.forks f ≡ None
  pub maps : (f : ForkName) → f.tty.0 ≡ t.0 → map.get new.pages.maps f ≡ None
  pub pages : (n : PageName) → map.contains_key new.pages.objects n ≡ true → IsNamedElsewhere new.pages t n
  pub jobs : (u : ℕ) → u ≢ t.0 → map.get new.jobs u ≡ map.get old.jobs u
  pub others : (f : ForkName) → f.tty.0 ≢ t.0 → map.get new.forks f ≡ map.get old.forks f
  pub files : new.files ≡ old.files
  pub filed : new.pages.files ≡ old.pages.files
  pub kept : (at : FilePage (List ℕ)) → KeepsPage old.pages new.pages at
