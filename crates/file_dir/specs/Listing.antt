-- Files that are gone through, one by one: those of a directory, or all.
use Rattle.std.specs.Prelude.{◌≡◌, ◌↔◌, List, [], ◌∷◌, Option, Some, IfSome, ℕ}
use Rattle.std.specs.List.{AllPairs, Contains}
use Rattle.std.specs.FinMap as map
use Rattle.machine_names.specs.declared.names.FileNo.{FileNo}
use Rattle.plain_files.specs.Directory.{ComesAfter, ComesBefore, Files, IsInDirectory, IsNext}

-- each of these files is the next one after the one before it, and none comes after the last
abbrev pub Lists : Files → List ℕ → Option FileNo → List FileNo → Type 0
Lists m dir after [] = (f : ℕ) → ComesAfter m dir after f → ⊥
Lists m dir after (f ∷ fs) = IsNext m dir after f.0 × Lists m dir (Some f) fs

-- a file is there, and is one of this directory
abbrev pub IsFileOf : Files → List ℕ → FileNo → Type 0
IsFileOf m dir f = (name : List ℕ) × (map.get m f.0 ≡ Some name) × IsInDirectory dir name

-- the name of one file comes before that of another
abbrev pub StandsBefore : Files → FileNo → FileNo → Type 0
StandsBefore m f g = (a b : List ℕ) → map.get m f.0 ≡ Some a → map.get m g.0 ≡ Some b → ComesBefore a b

-- these are the files of a directory, each of them once, in the order of their names
pub record IsWhole (m : Files) (dir : List ℕ) (fs : List FileNo) : Type 0 where
  pub each : (f : FileNo) → IsFileOf m dir f ↔ Contains fs f
  pub in_order : AllPairs (StandsBefore m) fs

-- a file whose name comes after that of another file, if one is given
pub record ComesLater (m : Files) (after : Option FileNo) (f : ℕ) : Type 0 where
  pub name : List ℕ
  pub stands : map.get m f ≡ Some name
  pub behind : IfSome after (λ a. IfSome (map.get m a.0) (λ before. ComesBefore before name))

-- the first such file
pub record IsFollowing (m : Files) (after : Option FileNo) (f : ℕ) : Type 0 where
  pub comes : ComesLater m after f
  pub first : (g : ℕ) (other : ComesLater m after g) → ComesBefore other.name comes.name → ⊥
