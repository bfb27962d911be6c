-- The lines of a program.
use Rattle.std.specs.Prelude.{ℕ, ◌+◌, ◌*◌, ◌^◌, List, [], ◌∷◌, ◌&&◌, nat_le, if◌then◌else◌, ◌==◌, Option, None, Some, length, codes}
use Rattle.std.specs.List.{list_all}
use Rattle.std.specs.Str.{bytes_eq}
use Rattle.word36.specs.Words.{joined}
use Rattle.asm_core.specs.declared.line.Value.{Value}
use Rattle.asm_core.specs.declared.line.Value.TheVariants.{Number as Half, Named}
use Rattle.asm_core.specs.declared.line.Statement.{Statement}
use Rattle.asm_core.specs.declared.line.Statement.TheVariants.{Nothing, Loc, Number, Halves, Asciz}
use Rattle.asm_core.specs.declared.line.Line.{Line}
use Rattle.asm_core.specs.Cutting.{behind_field, cut, field, is_line_text, is_over, past_blanks}
use Rattle.asm_core.specs.Numbers.{is_symbol, octal_number, register, value_of}
use Rattle.asm_core.specs.Names.{call_of, opcode_of}

-- the word of an instruction, by its left half and its address, which is 0 where none is written
abbrev pub with_address : ℕ → Option Value → Option Statement
with_address left None = None
with_address left (Some y) = Some (Halves (Half left) y)

abbrev pub address_in : ℕ → List ℕ → Option Statement
address_in left [] = Some (Halves (Half left) (Half 0))
address_in left (c ∷ cs) = with_address left (value_of (c ∷ cs))

-- an index register is not register 0
abbrev pub as_index : Option ℕ → Option ℕ
as_index None = None
as_index (Some n) = if n == 0 then None else Some n

-- the index register before the closing parenthesis, with which the operands end
abbrev pub closed : Option (List ℕ × List ℕ) → Option ℕ
closed None = None
closed (Some p) = if length p.1 == 0 then as_index (register p.0) else None

unfoldable pub index_of : List ℕ → Option ℕ
index_of text = closed (cut 41 text)

-- the address, before its index register in parentheses, if it has one
abbrev pub at_index : ℕ → List ℕ → Option ℕ → Option Statement
at_index left text None = None
at_index left text (Some x) = address_in (left + x) text

abbrev pub with_index : ℕ → List ℕ → Option (List ℕ × List ℕ) → Option Statement
with_index left text None = address_in left text
with_index left text (Some p) = at_index left p.0 (index_of p.1)

unfoldable pub indexed : ℕ → List ℕ → Option Statement
indexed left text = with_index left text (cut 40 text)

-- the address behind an at sign, which sets the indirect bit, if there is one
unfoldable pub addressed : ℕ → List ℕ → Option Statement
addressed left [] = indexed left []
addressed left (c ∷ cs) = if c == 64 then indexed (left + 2 ^ 4) cs else indexed left (c ∷ cs)

-- the address behind an accumulator and its comma, if there is one
abbrev pub at_register : ℕ → List ℕ → Option ℕ → Option Statement
at_register left text None = None
at_register left text (Some ac) = addressed (left + ac * 2 ^ 5) text

abbrev pub with_register : ℕ → List ℕ → Option (List ℕ × List ℕ) → Option Statement
with_register left text None = addressed left text
with_register left text (Some p) = at_register left p.1 (register p.0)

-- an instruction with its operands: accumulator, at sign, address and index register, each left out where it is not wanted
unfoldable pub instruction : ℕ → List ℕ → Option Statement
instruction op operands = with_register (op * 2 ^ 9) operands (cut 44 operands)

abbrev pub by_opcode : List ℕ → Option ℕ → Option Statement
by_opcode operands None = None
by_opcode operands (Some op) = instruction op operands

-- a monitor call, which has no operands; or an instruction
abbrev pub by_call : List ℕ → Option Statement → Option ℕ → Option Statement
by_call operands other None = other
by_call operands other (Some n) = if length operands == 0 then Some (Number (joined 0o104000 n)) else None

unfoldable pub named : List ℕ → List ℕ → Option Statement
named word operands = by_call operands (by_opcode operands (opcode_of word)) (call_of word)

-- a word that is one value: a symbol, or up to 12 octal digits
abbrev pub as_word : Option ℕ → Option Statement
as_word None = None
as_word (Some n) = Some (Number n)

unfoldable pub one_value : List ℕ → Option Statement
one_value text = if is_symbol text then Some (Halves (Half 0) (Named text)) else as_word (octal_number 12 text)

-- two values as halves, with two commas between
abbrev pub both_halves : Option Value → Option Value → Option Statement
both_halves None r = None
both_halves (Some l) None = None
both_halves (Some l) (Some r) = Some (Halves l r)

abbrev pub second_comma : List ℕ → List ℕ → Option Statement
second_comma front [] = None
second_comma front (c ∷ cs) = if c == 44 then both_halves (value_of front) (value_of cs) else None

abbrev pub parted_values : List ℕ → Option (List ℕ × List ℕ) → Option Statement
parted_values text None = one_value text
parted_values text (Some p) = second_comma p.0 p.1

unfoldable pub word_of : List ℕ → Option Statement
word_of text = parted_values text (cut 44 text)

abbrev pub as_location : Option ℕ → Option Statement
as_location None = None
as_location (Some n) = Some (Loc n)

-- a statement but ASCIZ, by its word and its operands
unfoldable pub plain : List ℕ → List ℕ → Option Statement
plain word operands =
    if length word == 0 then Some Nothing
    else (if bytes_eq word (codes "LOC") then as_location (octal_number 6 operands)
    else (if bytes_eq word (codes "WORD") then word_of operands else named word operands))

-- the text of ASCIZ, up to the closing quote, behind which nothing but a comment stands
abbrev pub up_to_quote : Option (List ℕ × List ℕ) → Option Statement
up_to_quote None = None
up_to_quote (Some p) = if is_over p.1 && list_all (nat_le 32) p.0 then Some (Asciz p.0) else None

unfoldable pub quoted : List ℕ → Option Statement
quoted text = up_to_quote (cut 34 text)

abbrev pub open_quote : List ℕ → Option Statement
open_quote [] = None
open_quote (c ∷ cs) = if c == 34 then quoted cs else None

unfoldable pub asciz : List ℕ → Option Statement
asciz text = open_quote (past_blanks text)

-- a statement whose operands begin this text
unfoldable pub with_operands : List ℕ → List ℕ → Option Statement
with_operands word text = if is_over (behind_field text) then plain word (field text) else None

-- the statement of a line behind its label; nothing but a comment stands behind the operands
unfoldable pub statement_of : List ℕ → Option Statement
statement_of text = if bytes_eq (field text) (codes "ASCIZ") then asciz (behind_field text) else with_operands (field text) (past_blanks (behind_field text))

abbrev pub with_label : Option (List ℕ) → Option Statement → Option Line
with_label label None = None
with_label label (Some statement) = Some (record { label = label; statement = statement })

-- the label before a colon, if a symbol stands there
abbrev pub labelled : List ℕ → Option (List ℕ × List ℕ) → Option Line
labelled text None = with_label None (statement_of text)
labelled text (Some p) = if is_symbol p.0 then with_label (Some p.0) (statement_of (past_blanks p.1)) else with_label None (statement_of text)

-- a text without the blanks in front as a line
unfoldable pub line_in : List ℕ → Option Line
line_in text = labelled text (cut 58 text)

-- a text without its line feed as a line: none where it is not of this grammar
unfoldable pub line_of : List ℕ → Option Line
line_of text = if is_line_text text then line_in (past_blanks text) else None
