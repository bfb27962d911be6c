-- How the fields of a line are told apart.
use Rattle.std.specs.Prelude.{◌≡◌, ◌≢◌, ◌⊎◌, ℕ, List, [], ◌∷◌, ◌++◌, ◌≤◌, length, All}
use Rattle.machine_names.specs.Bounds.{IsDirName, IsNameCode}
use Rattle.script_texts.specs.Texts.{field}

-- this byte is not among these
abbrev pub Lacks : ℕ → List ℕ → Type 0
Lacks c bytes = All (λ d. d ≢ c) bytes

-- the first such byte of a text stands between these two
pub record IsCut (c : ℕ) (text front rest : List ℕ) : Type 0 where
  pub whole : text ≡ front ++ c ∷ rest
  pub first : Lacks c front

-- nothing, or a field behind a space and more
abbrev pub IsBehind : List ℕ → Type 0
IsBehind rest = (rest ≡ []) ⊎ ((more : List ℕ) × (rest ≡ field more))

-- what stands before the first space of a text, and what from it on
pub record IsHead (text front rest : List ℕ) : Type 0 where
  pub whole : text ≡ front ++ rest
  pub plain : Lacks 32 front
  pub behind : IsBehind rest

-- a text begins with a field of this value, and behind the field's space stands the rest
pub record Begins {V : Type 0} (Is : List ℕ → V → Type 0) (text : List ℕ) (value : V) (rest : List ℕ) : Type 0 where
  pub front : List ℕ
  pub whole : text ≡ front ++ field rest
  pub is : Is front value

-- a text begins with no such field
abbrev pub BeginsNot : {V : Type 0} → (List ℕ → V → Type 0) → List ℕ → Type 0
BeginsNot {V = V} Is text = (value : V) (rest : List ℕ) → Begins Is text value rest → ⊥

-- the parts of a file's name, which stand between <, >, a point and the end
abbrev pub AreParts : List ℕ → List ℕ → List ℕ → Type 0
AreParts dir stem extension = IsDirName dir × (1 ≤ length stem) × All IsNameCode stem × All IsNameCode extension
