-- The instruction table, one line a group of opcodes (PDP-10 handbook, "User operations").
use Rattle.std.specs.Prelude.{ℕ, zero, suc, ◌+◌, ◌-◌, ◌/◌, ◌%◌, ◌<◌, ◌≤◌, ◌&&◌, cond, nat_le, ◌==◌, List, [], ◌∷◌, Option, None, Some}
use Rattle.ka10_table.specs.declared.families.Family.{Family}
use Rattle.ka10_table.specs.declared.families.Family.TheVariants.{Illegal, Local, Monitor, ByteOp, Move, Imul, Mul, Idiv, Div, Shift, Jffo, DoubleShift, Exch, Blt, Aobj, Jrst, Jfcl, Xct, Pushj, PushPop, Popj, JsrJsp, JsaJra, AddSub, Compare, JumpSkip, AddOne, SubOne, Boolean, Half, Test}
use Rattle.ka10_table.specs.declared.families.OpMode.{OpMode}
use Rattle.ka10_table.specs.declared.families.OpMode.TheVariants.{Basic, Immediate, Memory, Both, Own}
use Rattle.ka10_table.specs.declared.families.TableRow.{TableRow}

-- a line of the table: its first and last opcode, and the fourth mode where it has modes, B or S
pub record Line : Type 0 where
  pub first : ℕ
  pub last : ℕ
  pub fourth : Option OpMode

-- a line without modes
abbrev pub plain : ℕ → ℕ → Line
plain first last = record { first = first; last = last; fourth = None }

-- a line with modes, four opcodes each
abbrev pub in_modes : OpMode → ℕ → ℕ → Line
in_modes fourth first last = record { first = first; last = last; fourth = Some fourth }

-- the lines of the table; an opcode of no other line is illegal
abbrev pub line_of : Family → Line
line_of Illegal = plain 0o000 0o777
line_of Local = plain 0o001 0o037
line_of Monitor = plain 0o104 0o104
line_of ByteOp = plain 0o133 0o137
line_of Move = in_modes Own 0o200 0o217
line_of Imul = in_modes Both 0o220 0o223
line_of Mul = in_modes Both 0o224 0o227
line_of Idiv = in_modes Both 0o230 0o233
line_of Div = in_modes Both 0o234 0o237
line_of Shift = plain 0o240 0o242
line_of Jffo = plain 0o243 0o243
line_of DoubleShift = plain 0o244 0o246
line_of Exch = plain 0o250 0o250
line_of Blt = plain 0o251 0o251
line_of Aobj = plain 0o252 0o253
line_of Jrst = plain 0o254 0o254
line_of Jfcl = plain 0o255 0o255
line_of Xct = plain 0o256 0o256
line_of Pushj = plain 0o260 0o260
line_of PushPop = plain 0o261 0o262
line_of Popj = plain 0o263 0o263
line_of JsrJsp = plain 0o264 0o265
line_of JsaJra = plain 0o266 0o267
line_of AddSub = in_modes Both 0o270 0o277
line_of Compare = plain 0o300 0o317
line_of JumpSkip = plain 0o320 0o337
line_of AddOne = plain 0o340 0o357
line_of SubOne = plain 0o360 0o377
line_of Boolean = in_modes Both 0o400 0o477
line_of Half = in_modes Own 0o500 0o577
line_of Test = plain 0o600 0o677

-- the modes of four successive opcodes
abbrev pub mode_of : OpMode → ℕ → OpMode
mode_of fourth k = cond (k == 0) Basic (cond (k == 1) Immediate (cond (k == 2) Memory fourth))

-- the row of an opcode in a line: without modes it is numbered from the first opcode, with modes four opcodes have one number
abbrev pub row_in : Option OpMode → Family → ℕ → TableRow
row_in None family place = record { family = family; mode = Basic; code = place }
row_in (Some fourth) family place = record { family = family; mode = mode_of fourth (place % 4); code = place / 4 }

-- the row of an opcode, if it stands in one of some lines
unfoldable pub row_among : List Family → ℕ → TableRow
row_among [] op = record { family = Illegal; mode = Basic; code = 0 }
row_among (f ∷ fs) op =
    cond (nat_le (line_of f).first op && nat_le op (line_of f).last) (row_in (line_of f).fourth f (op - (line_of f).first)) (row_among fs op)

-- the row of an opcode
unfoldable pub row_of : ℕ → TableRow
row_of op = row_among (
    Local ∷ Monitor ∷ ByteOp ∷ Move ∷ Imul ∷ Mul ∷ Idiv ∷ Div ∷ Shift ∷ Jffo ∷ DoubleShift ∷ Exch ∷
    Blt ∷ Aobj ∷ Jrst ∷ Jfcl ∷ Xct ∷ Pushj ∷ PushPop ∷ Popj ∷ JsrJsp ∷ JsaJra ∷ AddSub ∷ Compare ∷
    JumpSkip ∷ AddOne ∷ SubOne ∷ Boolean ∷ Half ∷ Test ∷ []) op

-- the rows of so many opcodes from one on
unfoldable pub rows_from : ℕ → ℕ → List TableRow
rows_from zero op = []
rows_from (suc n) op = row_of op ∷ rows_from n (op + 1)

-- how many codes so many opcodes have
abbrev pub codes_of : Option OpMode → ℕ → ℕ
codes_of None opcodes = opcodes
codes_of (Some fourth) opcodes = opcodes / 4

-- how many codes a family has
abbrev pub codes_in : Family → ℕ
codes_in f = codes_of (line_of f).fourth ((line_of f).last - (line_of f).first + 1)

-- a row and its opcode are of one line
pub record IsInLine (op : ℕ) (row : TableRow) : Type 0 where
  pub from_first : (line_of row.family).first ≤ op
  pub to_last : op ≤ (line_of row.family).last
  pub code : row.code < codes_in row.family
