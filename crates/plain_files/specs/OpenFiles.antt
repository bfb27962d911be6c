-- The JFNs of a job in the plain machine, which knows files by their names.
use Rattle.std.specs.Prelude.{◌≡◌, ◌≢◌, ◌⊎◌, ℕ, List, Bool, not, Option, Some, None, slice_index_or, count_by}
use Rattle.std.specs.Option.{IsSomeAnd}
use Rattle.std.specs.List.{find, range_with_len, sum_by}
use Rattle.std.specs.Ordering.{eq_by_cmp, nat_cmp}
use Rattle.std.specs.FinMap as map
use Rattle.machine_names.specs.Orders.{name_cmp}
use Rattle.plain_files.specs.declared.jfn.Mode.{Mode}
use Rattle.plain_files.specs.declared.bounds.TheConstants.{LARGEST_BYTE, MOST_JFNS}

-- what a JFN stands for: the name of a file, how it is open, the position and its byte size
pub record OpenFile : Type 0 where
  pub file : List ℕ
  pub mode : Option Mode
  pub at : ℕ
  pub size : ℕ

-- the JFNs that a job holds, each under its number
abbrev pub OpenFiles : Type 0
OpenFiles = map.FinMap nat_cmp OpenFile

-- the JFNs of the job at a terminal
abbrev pub open_at : List OpenFiles → ℕ → OpenFiles
open_at jobs t = slice_index_or jobs t map.empty

-- a JFN that was just taken for a file: the file isn't open by it, and has bytes as large as words
abbrev pub taken_file : List ℕ → OpenFile
taken_file name = record { file = name; mode = None; at = 0; size = LARGEST_BYTE }

-- a JFN by which its file is opened, at its first byte
abbrev pub opened_file : Mode → ℕ → OpenFile → OpenFile
opened_file mode size j = record { file = j.file; mode = Some mode; at = 0; size = size }

-- a JFN at another byte of its file
abbrev pub moved_file : ℕ → OpenFile → OpenFile
moved_file at j = record j { at = at }

-- whether a number is that of no JFN
abbrev pub is_free : OpenFiles → ℕ → Bool
is_free m n = not (map.contains_key m n)

-- the least number that is free, if the job may hold one more JFN
unfoldable pub free_jfn : OpenFiles → Option ℕ
free_jfn m = find (is_free m) (range_with_len 1 MOST_JFNS)

-- a JFN stands for the file of a name
abbrev pub Names : OpenFiles → ℕ → List ℕ → Type 0
Names m n name = IsSomeAnd (map.get m n) (λ j. j.file ≡ name)

-- whether a JFN stands for the file of a name
abbrev pub is_for : List ℕ → OpenFile → Bool
is_for name j = eq_by_cmp name_cmp j.file name

-- how many JFNs of a job stand for the file of a name
unfoldable pub times_open : OpenFiles → List ℕ → ℕ
times_open m name = count_by (is_for name) (map.values m)

-- how many of all jobs do
abbrev pub times_open_in_all : List OpenFiles → List ℕ → ℕ
times_open_in_all jobs name = sum_by (λ m. times_open m name) jobs

-- a JFN of some job stands for the file of a name
abbrev pub IsNamed : List OpenFiles → List ℕ → Type 0
IsNamed jobs name = (t : ℕ) × (n : ℕ) × Names (open_at jobs t) n name

-- a JFN other than this one of the job at this terminal does
abbrev pub IsNamedBesides : List OpenFiles → ℕ → ℕ → List ℕ → Type 0
IsNamedBesides jobs t n name = (u : ℕ) × (k : ℕ) × ((u ≢ t) ⊎ (k ≢ n)) × Names (open_at jobs u) k name
