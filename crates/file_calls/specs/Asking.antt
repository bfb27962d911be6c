-- Who asks what of which files.
use Rattle.std.specs.Prelude.{ℕ, List, [], Option, None, nat_lt, is_some}
use Rattle.std.specs.Option.{option_and_then, option_map_or, unwrap_or}
use Rattle.std.specs.Ordering.{nat_cmp}
use Rattle.std.specs.FinMap as map
use Rattle.machine_names.specs.declared.names.ForkName.{ForkName}
use Rattle.machine_names.specs.declared.names.TheConstants.{MOST_FILES}
use Rattle.machine_names.specs.FileNames.{file_named}
use Rattle.plain_files.specs.NamedFiles.{number_of}
use Rattle.plain_files.specs.OpenFiles.{times_open_in_all}
use Rattle.plain_pages.specs.PlainPages.{NumberedPages}
use Rattle.plain_units.specs.declared.registers.Regs.{Regs}
use Rattle.plain_model.specs.declared.call.TheConstants.{BAD_NAME}
use Rattle.plain_model.specs.declared.call.End.TheVariants.{Failed}
use Rattle.plain_model.specs.declared.call.FileChange.{FileChange}
use Rattle.plain_model.specs.Calls.{Sight, Turn, ends}
use Rattle.plain_model.specs.FileCalls.{FileParts, JfnAsked, Jobs, taking}
use Rattle.file_tables.specs.declared.tables.FileTables.{FileTables}
use Rattle.file_tables.specs.Tables.{files_of, jfns_at, open_of}
use Rattle.file_calls.specs.Jobs.{jobs_holding}

-- a call on JFNs of a user's fork, with these registers, of these tables
abbrev pub asked_of : ForkName → Regs → List ℕ → FileTables → JfnAsked
asked_of who regs user tables = record { who = who; regs = regs; user = user; held = jfns_at tables who.tty.0; times = times_open_in_all (open_of tables) }

-- what it is told of files: which names there are, and whether one more may be there
abbrev pub names_of : FileTables → Sight ⊥ ℕ
names_of tables = record { file_of = λ none. None; is_name = λ name. is_some (map.get (files_of tables) name); has_more = nat_lt (map.len (files_of tables)) MOST_FILES }

-- how GTJFN goes on, told the text
abbrev pub named_turn : JfnAsked → Option (List ℕ) → Turn ⊥ FileChange
named_turn a text = option_map_or (taking a) (option_and_then (file_named a.user []) text) (ends (Failed BAD_NAME))

-- the pages, the files and the jobs, as the calls on JFNs change them
abbrev pub parts : Jobs → FileTables → NumberedPages → FileParts nat_cmp
parts jobs tables p = record { pages = p; files = files_of tables; jobs = jobs_holding jobs (open_of tables) }
