-- The files that there are, by number and by full name.
use Rattle.std.specs.Prelude.{◌≡◌, ℕ, ◌<◌, ◌≤◌, List, ◌∷◌, ◌++◌, Option, Some, None, IfSome}
use Rattle.std.specs.Ordering.{nat_cmp}
use Rattle.std.specs.declared.cmp.Ordering.TheVariants.{Less}
use Rattle.std.specs.FinMap as map
use Rattle.number_map.specs.Numbers.{IsLeastFree}
use Rattle.machine_names.specs.declared.names.FileNo.{FileNo}
use Rattle.machine_names.specs.Bounds.{IsFileName}
use Rattle.machine_names.specs.Orders.{name_cmp}
use Rattle.machine_names.specs.declared.names.TheConstants.{MOST_FILES}

-- the full name of each file, by its number
abbrev pub Files : Type 0
Files = map.FinMap nat_cmp (List ℕ)

-- the files have numbers below their bound, and each has a full name of its own
pub record AreFiles (m : Files) : Type 0 where
  pub below : (f : ℕ) → MOST_FILES ≤ f → map.get m f ≡ None
  pub named : (f : ℕ) (name : List ℕ) → map.get m f ≡ Some name → IsFileName name
  pub once : (f g : ℕ) (name : List ℕ) → map.get m f ≡ Some name → map.get m g ≡ Some name → f ≡ g

-- no file has this name
abbrev pub IsAbsent : Files → List ℕ → Type 0
IsAbsent m name = (f : ℕ) → map.get m f ≡ Some name → ⊥

-- there was room, and a file of this name was made under the least free number
pub record Creates (old new : Files) (f : ℕ) (name : List ℕ) : Type 0 where
  pub room : map.len old < MOST_FILES
  pub least : IsLeastFree old 0 f
  pub below : f < MOST_FILES
  pub put : new ≡ map.insert old f name

-- one text comes before another, byte by byte
abbrev pub ComesBefore : List ℕ → List ℕ → Type 0
ComesBefore a b = name_cmp a b ≡ Less

-- a full name is that of a file of this directory
abbrev pub IsInDirectory : List ℕ → List ℕ → Type 0
IsInDirectory dir name = (file : List ℕ) × (name ≡ 60 ∷ (dir ++ 62 ∷ file))

-- a file of a directory, whose name comes after that of another file, if one is given
pub record ComesAfter (m : Files) (dir : List ℕ) (after : Option FileNo) (f : ℕ) : Type 0 where
  pub name : List ℕ
  pub stands : map.get m f ≡ Some name
  pub within : IsInDirectory dir name
  pub behind : IfSome after (λ a. IfSome (map.get m a.0) (λ before. ComesBefore before name))

-- the first such file
pub record IsNext (m : Files) (dir : List ℕ) (after : Option FileNo) (f : ℕ) : Type 0 where
  pub comes : ComesAfter m dir after f
  pub first : (g : ℕ) (other : ComesAfter m dir after g) → ComesBefore other.name comes.name → ⊥
