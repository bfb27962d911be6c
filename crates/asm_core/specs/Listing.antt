-- The text that places words, each at its address.
use Rattle.std.specs.Prelude.{ℕ, ◌^◌, ◌<◌, List, [], ◌∷◌, ◌++◌, codes, All}
use Rattle.word36.specs.Octal.{octal_padded}
use Rattle.asm_core.specs.declared.line.Placed.{Placed}

-- the lines of a word: a LOC of its address, and the word in octal digits
abbrev pub placing : Placed → List ℕ → List ℕ
placing p behind = (codes " LOC " ++ octal_padded 6 p.address) ++ 10 ∷ ((codes " WORD " ++ octal_padded 12 p.word) ++ 10 ∷ behind)

-- the text that places some words
unfoldable pub listing : List Placed → List ℕ
listing [] = []
listing (p ∷ ps) = placing p (listing ps)

-- words at addresses of a space
abbrev pub AreInSpace : List Placed → Type 0
AreInSpace ps = All (λ p. (p.address < 2 ^ 18) × (p.word < 2 ^ 36)) ps
