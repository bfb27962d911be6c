-- What names of files stand for: small letters, and names without a directory or a point.
use Rattle.std.specs.Prelude.{ℕ, List, [], ◌∷◌, ◌++◌, length, map, Bool, false, ◌&&◌, nat_lt, nat_le, ◌==◌, if◌then◌else◌, Option, None, Some}
use Rattle.std.specs.List.{list_all, list_any, position_or_len, before_first, after_first}
use Rattle.std.specs.Char.{to_ascii_uppercase}
use Rattle.machine_names.specs.Bounds.{is_name_code}

-- a text with its small letters raised
abbrev pub raised : List ℕ → List ℕ
raised text = map to_ascii_uppercase text

-- whether a name has a directory
abbrev pub has_directory : List ℕ → Bool
has_directory [] = false
has_directory (c ∷ cs) = c == 60

-- whether a name has an extension, if only an empty one
abbrev pub has_point : List ℕ → Bool
has_point text = list_any (λ c. c == 46) text

-- a name without a directory is one in the user's directory
abbrev pub directory_before : List ℕ → List ℕ → List ℕ
directory_before user text = if has_directory text then [] else 60 ∷ (user ++ 62 ∷ [])

-- a name without a point has this extension
abbrev pub extension_behind : List ℕ → List ℕ → List ℕ
extension_behind extension text = if has_point text then [] else 46 ∷ extension

-- the full name that a text stands for
unfoldable pub full_name : List ℕ → List ℕ → List ℕ → List ℕ
full_name user extension text = directory_before user text ++ (raised text ++ extension_behind extension text)

-- whether a text is the name of a directory
abbrev pub is_dir_name : List ℕ → Bool
is_dir_name name = nat_le 1 (length name) && nat_le (length name) 12 && list_all is_name_code name

-- whether these are a directory, a name and an extension
abbrev pub are_parts : List ℕ → List ℕ → List ℕ → Bool
are_parts dir stem extension = is_dir_name dir && nat_le 1 (length stem) && list_all is_name_code stem && list_all is_name_code extension

-- whether a character stands in a text, and what stands before the first one and behind it
abbrev pub stands_in : ℕ → List ℕ → Bool
stands_in c text = nat_lt (position_or_len (λ d. d == c) text) (length text)

abbrev pub before : ℕ → List ℕ → List ℕ
before c text = before_first (λ d. d == c) text

abbrev pub behind : ℕ → List ℕ → List ℕ
behind c text = after_first (λ d. d == c) text

-- whether a text is cut at its first > and then at its first point into the parts of a name
abbrev pub is_cut_name : List ℕ → Bool
is_cut_name text = let file = behind 62 text in stands_in 62 text && stands_in 46 file && are_parts (before 62 text) (before 46 file) (behind 46 file)

-- whether a text is the full name of a file
unfoldable pub is_file_name : List ℕ → Bool
is_file_name [] = false
is_file_name (c ∷ cs) = nat_le (length (c ∷ cs)) 39 && (c == 60) && is_cut_name cs

-- the file that a text names for a user; a name without a point has this extension
unfoldable pub file_named : List ℕ → List ℕ → List ℕ → Option (List ℕ)
file_named user extension text = let name = full_name user extension text in if is_file_name name then Some name else None
