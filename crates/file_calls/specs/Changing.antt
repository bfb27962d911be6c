-- Changes that a call on JFNs makes, once it is done.
use Rattle.std.specs.Prelude.{◌≡◌, ℕ, ◌<◌, ◌≤◌, List, Some, None, IsSome}
use Rattle.std.specs.Option.{IsSomeAnd}
use Rattle.std.specs.FinMap as map
use Rattle.machine_names.specs.Bounds.{IsFileName, IsTerminal}
use Rattle.machine_names.specs.declared.names.Tty.{Tty}
use Rattle.machine_names.specs.declared.names.TheConstants.{MOST_FILES}
use Rattle.page_contracts.specs.DrumWords.{DrumWords}
use Rattle.page_contracts.specs.Pages.{PagesMeaning}
use Rattle.plain_files.specs.Bytes.{IsByteSize}
use Rattle.plain_files.specs.Directory.{Creates}
use Rattle.plain_files.specs.Jobs.{jfns_of}
use Rattle.plain_files.specs.OpenFiles.{free_jfn}
use Rattle.plain_files.specs.declared.jfn.Jfn.{Jfn}
use Rattle.plain_pages.specs.PlainPages.{NumberedPages}
use Rattle.plain_model.specs.declared.call.FileChange.{FileChange}
use Rattle.plain_model.specs.declared.call.FileChange.TheVariants.{Take, Make, Open, Release, Delete}
use Rattle.plain_model.specs.FileCalls.{Jobs, file_changed}
use Rattle.file_tables.specs.declared.tables.FileTables.{FileTables}
use Rattle.file_tables.specs.Tables.{Holds, files_of, jfns_at, open_of, times_of}
use Rattle.file_tables.specs.Keys.{key_of}
use Rattle.file_calls.specs.Asking.{parts}
use Rattle.file_calls.specs.Jobs.{AreHeld}

-- a JFN is the least that is free at a terminal
abbrev pub CanTake : FileTables → Tty → ℕ → Type 0
CanTake tables t n = IsTerminal t × (free_jfn (jfns_at tables t.0) ≡ Some n)

-- a JFN is held at a terminal
abbrev pub IsHeldAt : FileTables → Tty → ℕ → Type 0
IsHeldAt tables t n = IsTerminal t × Holds tables t.0 n

-- no file has this name, and there may be one more
pub record CanMake (tables : FileTables) (name : List ℕ) : Type 0 where
  pub full : IsFileName name
  pub absent : map.get (files_of tables) name ≡ None
  pub room : map.len (files_of tables) < MOST_FILES

-- no JFN but this stands for its file
abbrev pub IsSole : FileTables → Tty → ℕ → Type 0
IsSole tables t n = (jfn : Jfn) → map.get (jfns_of tables.jobs t.0) n ≡ Some jfn → times_of tables jfn.file.0 ≤ 1

-- a change can be made
abbrev pub CanChange : FileTables → FileChange → Type 0
CanChange tables (Take t n name) = CanTake tables t n × IsSome (map.get (files_of tables) name)
CanChange tables (Make t n name) = CanTake tables t n × CanMake tables name
CanChange tables (Open t n mode size) = IsHeldAt tables t n × IsByteSize size
CanChange tables (Release t n) = IsHeldAt tables t n
CanChange tables (Delete t n) = IsHeldAt tables t n × IsSole tables t n

-- it is one of a JFN of the job at a terminal
abbrev pub IsAt : Tty → FileChange → Type 0
IsAt t (Take u n name) = u ≡ t
IsAt t (Make u n name) = u ≡ t
IsAt t (Open u n mode size) = u ≡ t
IsAt t (Release u n) = u ≡ t
IsAt t (Delete u n) = u ≡ t

-- a change of a JFN of the job at a terminal, which can be made
abbrev pub IsSound : FileTables → Tty → FileChange → Type 0
IsSound tables t what = CanChange tables what × IsAt t what

-- files and JFNs were changed, whatever the pages, which stay
abbrev pub ChangesFiles : FileTables → FileTables → FileChange → Type 0
ChangesFiles old new what = (jobs : Jobs) (p : NumberedPages) → AreHeld jobs (open_of old) → parts jobs new p ≡ file_changed (key_of old) what (parts jobs old p)

-- a change was made over each drum that fits, and all jobs with these JFNs
pub record ChangesAll {P : Type 0} (means : PagesMeaning P) (old new : P) (tables tables' : FileTables) (what : FileChange) : Type 0 where
  pub fits : (d : DrumWords) → means.fits old d → means.fits new d
  pub left : (d : DrumWords) (jobs : Jobs) → means.fits old d → AreHeld jobs (open_of tables)
      → parts jobs tables' (means.plain new d) ≡ file_changed (key_of tables) what (parts jobs tables (means.plain old d))

-- the names of files and their numbers behind a change: one more, one fewer, or as they were
abbrev pub DirFollows : FileTables → FileTables → FileChange → Type 0
DirFollows old new (Make t n name) = (f : ℕ) × Creates old.dir new.dir f name
DirFollows old new (Delete t n) = IsSomeAnd (map.get (jfns_of old.jobs t.0) n) (λ jfn. new.dir ≡ map.remove old.dir jfn.file.0)
DirFollows old new what = new.dir ≡ old.dir
