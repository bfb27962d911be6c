-- How a line of a program is cut into its parts.
use Rattle.std.specs.Prelude.{ℕ, List, [], ◌∷◌, Bool, true, not, ◌||◌, ◌&&◌, nat_le, if◌then◌else◌, ◌==◌, Option, None, Some, take, drop, length}
use Rattle.std.specs.List.{list_all, position_or_len}

-- a blank: a space or a tab
abbrev pub is_blank : ℕ → Bool
is_blank c = (c == 32) || (c == 9)

-- what ends a field: a blank, or the semicolon of a comment
abbrev pub ends_field : ℕ → Bool
ends_field c = (c == 32) || (c == 9) || (c == 59)

-- a character of a line: a printed character, a space or a tab
abbrev pub is_line_code : ℕ → Bool
is_line_code c = (nat_le 32 c && nat_le c 126) || (c == 9)

-- a line without its line feed: at most 256 such characters
unfoldable pub is_line_text : List ℕ → Bool
is_line_text text = nat_le (length text) 256 && list_all is_line_code text

-- a text without the blanks in front of it
unfoldable pub past_blanks : List ℕ → List ℕ
past_blanks text = drop (position_or_len (λ c. not (is_blank c)) text) text

-- the field that a text begins with, up to the first character that ends it
unfoldable pub field : List ℕ → List ℕ
field text = take (position_or_len ends_field text) text

-- what stands behind that field
unfoldable pub behind_field : List ℕ → List ℕ
behind_field text = drop (position_or_len ends_field text) text

-- nothing, or a comment
abbrev pub is_end : List ℕ → Bool
is_end [] = true
is_end (c ∷ cs) = c == 59

-- nothing but blanks and a comment
unfoldable pub is_over : List ℕ → Bool
is_over text = is_end (past_blanks text)

-- one more character in front of what stands before a mark
abbrev pub before_cut : ℕ → Option (List ℕ × List ℕ) → Option (List ℕ × List ℕ)
before_cut c None = None
before_cut c (Some p) = Some (c ∷ p.0, p.1)

-- what stands before the first such mark, and what behind it
unfoldable pub cut : ℕ → List ℕ → Option (List ℕ × List ℕ)
cut mark [] = None
cut mark (c ∷ cs) = if c == mark then Some ([], cs) else before_cut c (cut mark cs)

-- one more character in front of the first of some pieces
abbrev pub onto_piece : ℕ → List (List ℕ) → List (List ℕ)
onto_piece c [] = []
onto_piece c (piece ∷ pieces) = (c ∷ piece) ∷ pieces

-- the pieces of a text that end with this mark, each without it
unfoldable pub pieces : ℕ → List ℕ → List (List ℕ)
pieces mark [] = []
pieces mark (c ∷ cs) = if c == mark then [] ∷ pieces mark cs else onto_piece c (pieces mark cs)

-- a text where no piece stands behind it
abbrev pub if_alone : List ℕ → List (List ℕ) → List ℕ → List ℕ
if_alone text [] rest = text
if_alone text (piece ∷ pieces) rest = rest

-- what stands behind the last such mark
unfoldable pub remainder : ℕ → List ℕ → List ℕ
remainder mark [] = []
remainder mark (c ∷ cs) = if c == mark then remainder mark cs else if_alone (c ∷ cs) (pieces mark cs) (remainder mark cs)
