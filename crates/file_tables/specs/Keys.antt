-- The numbers of files as keys of their pages, and what a turn of a call is told of files that are known by their names.
use Rattle.std.specs.Prelude.{◌≡◌, ℕ, ◌<◌, List, nat_lt, Some, is_some}
use Rattle.std.specs.Option.{unwrap_or}
use Rattle.std.specs.FinMap as map
use Rattle.machine_names.specs.declared.names.TheConstants.{MOST_FILES}
use Rattle.machine_names.specs.declared.names.FileNo.{FileNo}
use Rattle.plain_files.specs.NamedFiles.{name_of, number_of}
use Rattle.plain_model.specs.Calls.{Sight}
use Rattle.file_tables.specs.declared.tables.FileTables.{FileTables}
use Rattle.file_tables.specs.Tables.{IsThere, files_of}

-- the number of the file of a name; 0 where there is none
abbrev pub key_of : FileTables → List ℕ → ℕ
key_of tables name = unwrap_or (number_of tables.dir name) 0

-- what is told of files
abbrev pub seen_in : FileTables → Sight (List ℕ) ℕ
seen_in tables = record { file_of = λ name. Some (key_of tables name); is_name = λ name. is_some (map.get (files_of tables) name); has_more = nat_lt (map.len (files_of tables)) MOST_FILES }

-- a file that is there, which has this number
pub record IsKnown (tables : FileTables) (f : FileNo) : Type 0 where
  pub there : IsThere tables f.0
  pub below : f.0 < MOST_FILES
  pub number : key_of tables (name_of tables.dir f.0) ≡ f.0
