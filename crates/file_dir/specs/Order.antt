-- The files in the order of their names.
use Rattle.std.specs.Prelude.{◌≡◌, ℕ, ◌+◌, ◌<◌, List, Option, Some, None, IsSome, Bool, false, length, slice_index_or}
use Rattle.std.specs.Ordering.{is_lt}
use Rattle.std.specs.FinMap as map
use Rattle.machine_names.specs.declared.names.FileNo.{FileNo}
use Rattle.machine_names.specs.Orders.{name_cmp}
use Rattle.plain_files.specs.Directory.{ComesBefore, Files}

-- the file at a place of a list of files
abbrev pub file_at : List FileNo → ℕ → ℕ
file_at order i = (slice_index_or order i (record { 0 = 0 })).0

-- the files stand in the order of their names, each at one place
pub record IsOrder (m : Files) (order : List FileNo) : Type 0 where
  pub size : length order ≡ map.len m
  pub there : (i : ℕ) → i < length order → IsSome (map.get m (file_at order i))
  pub rises : (i j : ℕ) (a b : List ℕ) → i < j → j < length order → map.get m (file_at order i) ≡ Some a → map.get m (file_at order j) ≡ Some b → ComesBefore a b
  pub whole : (f : ℕ) → IsSome (map.get m f) → (i : ℕ) × (i < length order) × (file_at order i ≡ f)

-- whether a name, if it is there, comes before a text
abbrev pub is_before : List ℕ → Option (List ℕ) → Bool
is_before text None = false
is_before text (Some name) = is_lt (name_cmp name text)

-- whether the name of a file comes before a text
abbrev pub precedes : Files → List ℕ → FileNo → Bool
precedes m text f = is_before text (map.get m f.0)

-- the first place behind that of a file, or the first of all
abbrev pub IsBehind : List FileNo → Option FileNo → ℕ → Type 0
IsBehind order None place = place ≡ 0
IsBehind order (Some f) place = (i : ℕ) × (i < length order) × (file_at order i ≡ f.0) × (place ≡ i + 1)
