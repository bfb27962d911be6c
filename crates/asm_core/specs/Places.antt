-- Where the lines of a program stand, what its symbols are, and what its words.
use Rattle.std.specs.Prelude.{ℕ, zero, suc, ◌+◌, ◌*◌, ◌/◌, ◌%◌, ◌^◌, List, [], ◌∷◌, ◌++◌, Bool, false, ◌&&◌, ◌||◌, nat_le, nat_lt, if◌then◌else◌, ◌==◌, Option, None, Some, Result, Ok, Err, length, drop, slice_index}
use Rattle.std.specs.Option.{is_some, unwrap_or}
use Rattle.std.specs.Str.{bytes_eq}
use Rattle.word36.specs.Words.{joined}
use Rattle.asm_core.specs.declared.line.Value.{Value}
use Rattle.asm_core.specs.declared.line.Value.TheVariants.{Number as Half, Named}
use Rattle.asm_core.specs.declared.line.Statement.{Statement}
use Rattle.asm_core.specs.declared.line.Statement.TheVariants.{Nothing, Loc, Number, Halves, Asciz}
use Rattle.asm_core.specs.declared.line.Line.{Line}
use Rattle.asm_core.specs.declared.line.Placed.{Placed}
use Rattle.asm_core.specs.declared.line.AsmFault.{AsmFault}
use Rattle.asm_core.specs.declared.line.AsmFault.TheVariants.{Line as BadLine, Overrun, Doubled, Undefined}
use Rattle.asm_core.specs.Cutting.{pieces, remainder}
use Rattle.asm_core.specs.Grammar.{line_of}

-- how many words a statement has; behind the characters of ASCIZ stands one zero at least
abbrev pub size_of : Statement → ℕ
size_of Nothing = 0
size_of (Loc n) = 0
size_of (Number w) = 1
size_of (Halves l r) = 1
size_of (Asciz text) = length text / 5 + 1

-- the location behind a statement
abbrev pub behind : ℕ → Statement → ℕ
behind l Nothing = l
behind l (Loc n) = n
behind l (Number w) = l + 1
behind l (Halves a b) = l + 1
behind l (Asciz text) = l + (length text / 5 + 1)

-- the location behind some lines: the number of the last LOC, or the one before them all, plus the sizes of the statements since
abbrev pub location_from : ℕ → List Line → ℕ
location_from l [] = l
location_from l (x ∷ xs) = location_from (behind l x.statement) xs

-- the location of the line behind these; the first line is at 0
unfoldable pub location : List Line → ℕ
location lines = location_from 0 lines

abbrev pub has_label : Option (List ℕ) → List ℕ → Bool
has_label None symbol = false
has_label (Some label) symbol = bytes_eq label symbol

-- the location of the first of some lines that a symbol labels
abbrev pub labelled_from : ℕ → List Line → List ℕ → Option ℕ
labelled_from l [] symbol = None
labelled_from l (x ∷ xs) symbol = if has_label x.label symbol then Some l else labelled_from (behind l x.statement) xs symbol

-- the value of a symbol in a program
unfoldable pub value_in : List Line → List ℕ → Option ℕ
value_in lines symbol = labelled_from 0 lines symbol

-- half a word, by what the symbols are
abbrev pub half_by : (List ℕ → Option ℕ) → Value → ℕ
half_by symbols (Half n) = n
half_by symbols (Named symbol) = unwrap_or (symbols symbol) 0

-- the seven bits of a character of a text, 0 behind its end
abbrev pub character : List ℕ → ℕ → ℕ
character text i = slice_index text i % 2 ^ 7

-- the word of the first five characters
abbrev pub five : List ℕ → ℕ
five text = character text 0 * 2 ^ 29 + character text 1 * 2 ^ 22 + character text 2 * 2 ^ 15 + character text 3 * 2 ^ 8 + character text 4 * 2

-- a text in so many words
unfoldable pub packed : ℕ → List ℕ → List ℕ
packed zero text = []
packed (suc n) text = five text ∷ packed n (drop 5 text)

-- the words of a statement, by what the symbols are
abbrev pub words_by : (List ℕ → Option ℕ) → Statement → List ℕ
words_by symbols Nothing = []
words_by symbols (Loc n) = []
words_by symbols (Number w) = w ∷ []
words_by symbols (Halves l r) = joined (half_by symbols l) (half_by symbols r) ∷ []
words_by symbols (Asciz text) = packed (length text / 5 + 1) text

-- words at successive addresses
unfoldable pub placed_from : ℕ → List ℕ → List Placed
placed_from address [] = []
placed_from address (w ∷ ws) = record { address = address; word = w } ∷ placed_from (address + 1) ws

-- the words of some lines behind others
unfoldable pub assembled_by : (List ℕ → Option ℕ) → List Line → List Line → List Placed
assembled_by symbols before [] = []
assembled_by symbols before (x ∷ xs) = placed_from (location before) (words_by symbols x.statement) ++ assembled_by symbols (before ++ x ∷ []) xs

-- the words of a program with their addresses, in the order of its lines
unfoldable pub assembled : List Line → List Placed
assembled lines = assembled_by (value_in lines) [] lines

-- the symbols that a statement uses
abbrev pub names_in : Value → List (List ℕ)
names_in (Half n) = []
names_in (Named symbol) = symbol ∷ []

abbrev pub used : Statement → List (List ℕ)
used Nothing = []
used (Loc n) = []
used (Number w) = []
used (Halves l r) = names_in l ++ names_in r
used (Asciz text) = []

-- the symbols that some lines use, in order
unfoldable pub uses : List Line → List (List ℕ)
uses [] = []
uses (x ∷ xs) = used x.statement ++ uses xs

-- the first of some symbols that has no value
unfoldable pub first_undefined : (List ℕ → Option ℕ) → List (List ℕ) → Option (List ℕ)
first_undefined symbols [] = None
first_undefined symbols (s ∷ ss) = if is_some (symbols s) then first_undefined symbols ss else Some s

-- a label or a word of a line at this location would stand at 2^18 or above
unfoldable pub overruns : ℕ → Line → Bool
overruns l x = (is_some x.label && nat_le (2 ^ 18) l) || (nat_le 1 (size_of x.statement) && nat_lt (2 ^ 18) (l + size_of x.statement))

-- a line behind these, unless one of them has its label
abbrev pub new_label : List Line → Line → Option (List ℕ) → Result Line AsmFault
new_label before x None = Ok x
new_label before x (Some symbol) = if is_some (value_in before symbol) then Err (Doubled symbol) else Ok x

-- what a text is as the line behind these: the line, or the fault in it. Lines are numbered from 1
abbrev pub checked : List Line → Option Line → Result Line AsmFault
checked before None = Err (BadLine (length before + 1))
checked before (Some x) = if overruns (location before) x then Err (Overrun (length before + 1)) else new_label before x x.label

-- the text of the next line
unfoldable pub next_line : List Line → List ℕ → Result Line AsmFault
next_line before text = checked before (line_of text)

abbrev pub onward : Result Line AsmFault → (Line → Result (List Line) AsmFault) → Result (List Line) AsmFault
onward (Err fault) rest = Err fault
onward (Ok x) rest = rest x

-- the lines behind these, or the first fault; what stands behind the last line feed is a line without one
unfoldable pub read_behind : List Line → List (List ℕ) → List ℕ → Result (List Line) AsmFault
read_behind before [] rest = if length rest == 0 then Ok before else Err (BadLine (length before + 1))
read_behind before (text ∷ texts) rest = onward (next_line before text) (λ x. read_behind (before ++ x ∷ []) texts rest)

-- the lines of a text, or the first fault in them
unfoldable pub lines_of : List ℕ → Result (List Line) AsmFault
lines_of text = read_behind [] (pieces 10 text) (remainder 10 text)

-- what a program gives in which each symbol is defined, or not
abbrev pub if_defined : List Line → Option (List ℕ) → Result (List Placed) AsmFault
if_defined lines None = Ok (assembled lines)
if_defined lines (Some symbol) = Err (Undefined symbol)

abbrev pub resolved : Result (List Line) AsmFault → Result (List Placed) AsmFault
resolved (Err fault) = Err fault
resolved (Ok lines) = if_defined lines (first_undefined (value_in lines) (uses lines))

-- what a text gives: the words of its program with their addresses, or its first fault
unfoldable pub outcome : List ℕ → Result (List Placed) AsmFault
outcome text = resolved (lines_of text)
