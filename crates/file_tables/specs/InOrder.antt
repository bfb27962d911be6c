-- The files in the order of their names.
use Rattle.std.specs.Prelude.{ℕ, List, Bool, true, Option, None, Some}
use Rattle.std.specs.List.{filter}
use Rattle.std.specs.Option.{option_map}
use Rattle.std.specs.Ordering.{is_lt}
use Rattle.std.specs.FinMap as map
use Rattle.machine_names.specs.Orders.{name_cmp}
use Rattle.machine_names.specs.declared.names.FileNo.{FileNo}
use Rattle.plain_files.specs.NamedFiles.{name_of}
use Rattle.plain_files.specs.Sizes.{PlainFile}
use Rattle.file_tables.specs.declared.tables.FileTables.{FileTables}
use Rattle.file_tables.specs.Tables.{files_of}

-- whether a name comes after another, if one is given
abbrev pub is_later : Option (List ℕ) → List ℕ → Bool
is_later None name = true
is_later (Some before) name = is_lt (name_cmp before name)

-- the files whose names come after one, or all of them
abbrev pub files_after : FileTables → Option (List ℕ) → List (List ℕ × PlainFile)
files_after m after = filter (λ e. is_later after e.0) (map.entries (files_of m))

-- the name of a file, if one is given
abbrev pub name_given : FileTables → Option FileNo → Option (List ℕ)
name_given m f = option_map (λ g. name_of m.dir g.0) f
