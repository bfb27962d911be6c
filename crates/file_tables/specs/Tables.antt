-- What the tables of files and JFNs stand for.
use Rattle.std.specs.Prelude.{◌≡◌, ℕ, ◌≤◌, true, List, replicate, slice_set, Option, IsSome}
use Rattle.std.specs.Option.{IsSomeAnd}
use Rattle.std.specs.FinMap as map
use Rattle.machine_names.specs.declared.names.TheConstants.{TERMINALS}
use Rattle.machine_names.specs.Orders.{name_cmp}
use Rattle.plain_files.specs.Bytes.{most_bytes}
use Rattle.plain_files.specs.Sizes.{PlainFile}
use Rattle.plain_files.specs.Jobs.{names_in_all}
use Rattle.plain_files.specs.NamedFiles.{files_named, jobs_named, name_of}
use Rattle.plain_files.specs.OpenFiles.{OpenFiles, open_at}
use Rattle.file_tables.specs.declared.tables.FileTables.{FileTables}

-- the files by name
abbrev pub files_of : FileTables → map.FinMap name_cmp PlainFile
files_of m = files_named m.dir m.lengths

-- the file of a number, if it is there
abbrev pub file_of : FileTables → ℕ → Option PlainFile
file_of m f = map.get (files_of m) (name_of m.dir f)

-- a file has this number
abbrev pub IsThere : FileTables → ℕ → Type 0
IsThere m f = map.contains_key m.dir f ≡ true

-- the JFNs of all jobs, by the names of their files
abbrev pub open_of : FileTables → List OpenFiles
open_of m = jobs_named m.dir m.jobs

-- those of the job at a terminal
abbrev pub jfns_at : FileTables → ℕ → OpenFiles
jfns_at m t = open_at (open_of m) t

-- no job holds a JFN
unfoldable pub no_jobs : List OpenFiles
no_jobs = replicate TERMINALS map.empty

-- the job at a terminal holds this JFN
abbrev pub Holds : FileTables → ℕ → ℕ → Type 0
Holds m t n = map.contains_key (jfns_at m t) n ≡ true

-- its file is open by it, and it may be moved to this byte
abbrev pub CanMove : FileTables → ℕ → ℕ → ℕ → Type 0
CanMove m t n at = IsSomeAnd (map.get (jfns_at m t) n) (λ j. IsSome j.mode × (at ≤ most_bytes j.size))

-- how many JFNs of all jobs name the file of a number
abbrev pub times_of : FileTables → ℕ → ℕ
times_of m f = names_in_all m.jobs f

-- the job at a terminal holds these JFNs now, and every other job those that it held
abbrev pub Changes : FileTables → FileTables → ℕ → OpenFiles → Type 0
Changes old new t jfns = open_of new ≡ slice_set (open_of old) t jfns

-- the JFNs of all jobs are what they were, by name and by number
pub record OpenStay (old new : FileTables) : Type 0 where
  pub named : open_of new ≡ open_of old
  pub numbers : new.jobs ≡ old.jobs

-- the files, their numbers and their lengths are what they were
pub record FilesStay (old new : FileTables) : Type 0 where
  pub files : files_of new ≡ files_of old
  pub numbers : new.dir ≡ old.dir
