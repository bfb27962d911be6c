-- What the calls on bytes are asked with, by the tables of files; and the job that they see.
use Rattle.std.specs.Prelude.{◌≡◌, ℕ, List, Bool, Some, IsSome}
use Rattle.std.specs.FinMap as map
use Rattle.std.specs.Option.{unwrap_or}
use Rattle.std.specs.Ordering.{nat_cmp}
use Rattle.machine_names.specs.declared.names.ForkName.{ForkName}
use Rattle.machine_names.specs.declared.names.Tty.{Tty}
use Rattle.plain_files.specs.declared.jfn.Jfn.{Jfn}
use Rattle.plain_files.specs.JobFiles.{FitsJfn}
use Rattle.plain_files.specs.Jobs.{jfns_of}
use Rattle.plain_files.specs.OpenFiles.{OpenFile}
use Rattle.plain_files.specs.Sizes.{PlainFile, new_file}
use Rattle.plain_pages.specs.PlainPages.{NumberedPages}
use Rattle.plain_typing.specs.Lines.{InputLine}
use Rattle.file_tables.specs.declared.tables.FileTables.{FileTables}
use Rattle.file_tables.specs.Tables.{file_of, files_of, jfns_at}
use Rattle.plain_units.specs.declared.registers.Regs.{Regs}
use Rattle.plain_model.specs.ByteCalls.{ByteAsked, input_at, is_open, pages_of, with_input}
use Rattle.plain_model.specs.FileCalls.{FileParts, Jobs, held_at, with_held}
use Rattle.plain_model.specs.MapCalls.{is_read, is_written}
use Rattle.file_tables.specs.Keys.{IsKnown, key_of}
use Rattle.file_bytes.specs.declared.naming.Way.{Way}
use Rattle.file_bytes.specs.declared.naming.Way.TheVariants.{Anyhow, ToRead, ToWrite}

-- who calls, with which registers, with the JFNs of which job; which characters are stored, and how many pages files have
abbrev pub asked : ForkName → Regs → FileTables → List ℕ → (List ℕ → ℕ) → ByteAsked
asked who regs tables input pages = record { who = who; regs = regs; held = jfns_at tables who.tty.0; input = input; files = files_of tables; pages = pages }

-- the same, where files have their pages among these
abbrev pub asked_on : ForkName → Regs → FileTables → List ℕ → NumberedPages → ByteAsked
asked_on who regs tables input p = asked who regs tables input (pages_of (key_of tables) (files_of tables) p)

-- the pages, the files and the jobs, as the calls on bytes change them
abbrev pub parts : Jobs → FileTables → NumberedPages → FileParts nat_cmp
parts jobs tables p = record { pages = p; files = files_of tables; jobs = jobs }

-- the job at a terminal, if one is there, holds the JFNs of the tables, and the characters of a line are stored for it
pub record HasLine (jobs : Jobs) (t : Tty) (tables : FileTables) (line : InputLine) : Type 0 where
  pub jfns : held_at jobs t ≡ jfns_at tables t.0
  pub input : input_at jobs t ≡ line.input

-- the jobs, where that at a terminal holds the JFNs of the tables, and the characters of a line are stored for it; all else is as it was
abbrev pub jobs_with : Jobs → Tty → FileTables → InputLine → Jobs
jobs_with jobs t tables line = with_input (with_held jobs t (λ old. jfns_at tables t.0)) t (λ old. line.input)

-- how the file of a JFN is to be open
abbrev pub is_so : Way → OpenFile → Bool
is_so Anyhow j = is_open j
is_so ToRead j = is_read j
is_so ToWrite j = is_written j

-- a JFN of a file that is there, which stands at a byte that the file has room for, or behind the last one
abbrev pub IsUsable : FileTables → Jfn → Type 0
IsUsable tables jfn = IsKnown tables jfn.file × FitsJfn jfn

-- what the tables have of its file but for its pages
abbrev pub file_kept : FileTables → Jfn → PlainFile
file_kept tables jfn = unwrap_or (file_of tables jfn.file.0) new_file

-- that is a JFN of the job at a terminal, with this number
abbrev pub IsHeldAs : FileTables → Tty → ℕ → Jfn → Type 0
IsHeldAs tables t n jfn = IsUsable tables jfn × (map.get (jfns_of tables.jobs t.0) n ≡ Some jfn)

-- and its file is open
abbrev pub IsOpenAs : FileTables → Tty → ℕ → Jfn → Type 0
IsOpenAs tables t n jfn = IsHeldAs tables t n jfn × IsSome jfn.mode
