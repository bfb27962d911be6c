-- Rows of words, each in a field behind its space.
use Rattle.std.specs.Prelude.{◌≡◌, ℕ, ◌≤◌, ◌<◌, ◌^◌, List, ◌++◌, length, take, drop, All}
use Rattle.script_texts.specs.declared.event.WordRow.{WordRow}
use Rattle.script_texts.specs.Script.{IsOctal, WordFields}
use Rattle.script_texts.specs.Texts.{field}
use Rattle.script_lang.specs.Fields.{IsBehind}

-- a text begins with a field of this word, and goes on with the rest
pub record StartsWord (text : List ℕ) (word : ℕ) (rest : List ℕ) : Type 0 where
  pub front : List ℕ
  pub whole : text ≡ field front ++ rest
  pub octal : IsOctal 12 front word
  pub behind : IsBehind rest

abbrev pub StartsNoWord : List ℕ → Type 0
StartsNoWord text = (word : ℕ) (rest : List ℕ) → StartsWord text word rest → ⊥

-- a text is the fields of a row of at most 8 words
pub record IsRow (text : List ℕ) (row : WordRow) : Type 0 where
  pub fields : WordFields text (take row.count row.words)
  pub most : row.count ≤ 8
  pub room : length row.words ≡ 8
  pub words : All (λ w. w < 2 ^ 36) row.words
  pub rest : All (λ w. w ≡ 0) (drop row.count row.words)
