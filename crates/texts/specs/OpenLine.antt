-- The transcript as it is written, item by item, while a terminal's line of characters may be open.
use Rattle.std.specs.Prelude.{ℕ, List, [], ◌∷◌, ◌++◌, decimal, Option, None, Some, if◌then◌else◌, ◌==◌, ◌&&◌, not, Bool, false}
use Rattle.script_texts.specs.declared.event.Item.{Item}
use Rattle.script_texts.specs.declared.event.Item.TheVariants.{Char}
use Rattle.script_texts.specs.Texts.{ended, escaped, shown_line}

-- the terminal whose line of characters is open
abbrev pub Open : Type 0
Open = Option ℕ

-- the end of the open line
abbrev pub line_end : Open → List ℕ
line_end None = []
line_end (Some t) = 10 ∷ []

-- what stands before a character of a terminal, behind what is open
abbrev pub line_start : Open → ℕ → List ℕ
line_start None t = 84 ∷ (decimal t ++ 32 ∷ [])
line_start (Some s) t = if s == t then [] else 10 ∷ 84 ∷ (decimal t ++ 32 ∷ [])

-- a line ends after a line feed
abbrev pub char_end : ℕ → List ℕ
char_end c = if c == 10 then 10 ∷ [] else []

-- the terminal whose line is open behind a character
abbrev pub char_open : ℕ → ℕ → Open
char_open t c = if c == 10 then None else Some t

-- a character of a terminal goes on in the line that is open, and doesn't end it
abbrev pub goes_on : Open → ℕ → ℕ → Bool
goes_on None t c = false
goes_on (Some s) t c = (s == t) && not (c == 10)

-- a line of its own, behind the end of the one that is open
abbrev pub own_line : Open → Item → List ℕ
own_line is_open i = line_end is_open ++ ended (shown_line i)

-- one item's bytes behind what is open
abbrev pub item_text : Open → Item → List ℕ
item_text is_open (Char t c) = line_start is_open t.0 ++ (escaped c ++ char_end c)
item_text is_open i = own_line is_open i

-- the terminal whose line is open behind an item
abbrev pub item_open : Item → Open
item_open (Char t c) = char_open t.0 c
item_open i = None

-- the text of the items that come while a line may be open, with the last line closed
abbrev pub text_after : Open → List Item → List ℕ
text_after is_open [] = line_end is_open
text_after is_open (i ∷ is) = item_text is_open i ++ text_after (item_open i) is
