-- The first character that a text types.
use Rattle.std.specs.Prelude.{◌≡◌, ℕ, ◌<◌, List, ◌++◌, length}
use Rattle.script_texts.specs.Script.{IsOctal, TypesOne}

-- a text types this character first, and goes on with the rest
pub record TypesFirst (text : List ℕ) (c : ℕ) (rest : List ℕ) : Type 0 where
  pub front : List ℕ
  pub whole : text ≡ front ++ rest
  pub types : TypesOne front c

abbrev pub TypesNone : List ℕ → Type 0
TypesNone text = (c : ℕ) (rest : List ℕ) → TypesFirst text c rest → ⊥

-- a text begins with three octal digits of this character, and goes on with the rest
pub record EscapesFirst (text : List ℕ) (c : ℕ) (rest : List ℕ) : Type 0 where
  pub digits : List ℕ
  pub whole : text ≡ digits ++ rest
  pub three : length digits ≡ 3
  pub octal : IsOctal 3 digits c
  pub small : c < 128

abbrev pub EscapesNone : List ℕ → Type 0
EscapesNone text = (c : ℕ) (rest : List ℕ) → EscapesFirst text c rest → ⊥
