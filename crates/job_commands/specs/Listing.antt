-- The lines of a listing, from a file on.
use Rattle.std.specs.Prelude.{ℕ, List, [], ◌∷◌, drop, length, Bool, true, Option, if◌then◌else◌}
use Rattle.std.specs.List.{flat_map}
use Rattle.std.specs.Option.{option_map, option_map_or}
use Rattle.std.specs.Ordering.{is_lt}
use Rattle.std.specs.FinMap as map
use Rattle.machine_names.specs.Orders.{name_cmp}
use Rattle.machine_names.specs.declared.names.FileNo.{FileNo}
use Rattle.plain_files.specs.Directory.{Files}
use Rattle.plain_files.specs.NamedFiles.{name_of}
use Rattle.plain_files.specs.Sizes.{PlainFile}
use Rattle.plain_model.specs.Commands.{directory_prefix, file_line, with_line_end}

-- the name of a file behind which others are asked for, if one is given
abbrev pub name_before : Files → Option FileNo → Option (List ℕ)
name_before files after = option_map (λ f. name_of files f.0) after

-- the line of a file in a user's directory
abbrev pub line_of : List ℕ → List ℕ → List ℕ
line_of user name = with_line_end (32 ∷ drop (length (directory_prefix user)) name)

-- whether a name comes behind another, if one is given
abbrev pub is_behind : Option (List ℕ) → List ℕ → Bool
is_behind after name = option_map_or (λ before. is_lt (name_cmp before name)) after true

-- the line of a file in a user's directory that comes behind another
abbrev pub line_behind : List ℕ → Option (List ℕ) → List ℕ → List ℕ
line_behind user after name = if is_behind after name then file_line user name else []

-- the lines of all files that come behind another, in the order of their names; behind none, those of all
abbrev pub lines_behind : List ℕ → map.FinMap name_cmp PlainFile → Option (List ℕ) → List ℕ
lines_behind user files after = flat_map (line_behind user after) (map.keys files)
