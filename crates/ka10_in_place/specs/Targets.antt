-- Where the instruction of a row stores its word.
use Rattle.std.specs.Prelude.{ℕ, nat_lt, ◌==◌, if◌then◌else◌, Option, None, Some}
use Rattle.word36.specs.Words.{right}
use Rattle.ka10_table.specs.declared.families.Family.{Family}
use Rattle.ka10_table.specs.declared.families.Family.TheVariants.{Move, Imul, Mul, Idiv, Div, Exch, Blt, Pushj, PushPop, JsrJsp, JsaJra, AddSub, AddOne, SubOne, Boolean, Half}
use Rattle.ka10_table.specs.declared.families.OpMode.{OpMode}
use Rattle.ka10_table.specs.declared.families.OpMode.TheVariants.{Basic, Immediate}
use Rattle.ka10_table.specs.declared.families.TableRow.{TableRow}
use Rattle.plain_units.specs.Deeds.{Deed, up}
use Rattle.ka10_in_place.specs.Stores.{IsNowhere, GoesTo, IsBefore}

-- none; at E, if the operation is done; where a pushdown list is pushed; and where a block transfer stores
pub data Target : Type 0 where
  unstored : Target
  operand : Target
  top : Target
  block : Target

-- the result of a mode
abbrev pub by_mode_at : OpMode → Target → Target
by_mode_at Basic t = unstored
by_mode_at Immediate t = unstored
by_mode_at mode t = t

-- the first eight of sixteen store none
abbrev pub by_eight : ℕ → Target
by_eight code = if nat_lt code 8 then unstored else operand

abbrev pub target_by : Family → OpMode → ℕ → Target
target_by Move mode code = by_mode_at mode operand
target_by Imul mode code = by_mode_at mode operand
target_by Mul mode code = by_mode_at mode operand
target_by Idiv mode code = by_mode_at mode operand
target_by Div mode code = by_mode_at mode operand
target_by Exch mode code = operand
target_by Blt mode code = block
target_by Pushj mode code = top
target_by PushPop mode code = if code == 0 then top else operand
target_by JsrJsp mode code = if code == 0 then operand else unstored
target_by JsaJra mode code = if code == 0 then operand else unstored
target_by AddSub mode code = by_mode_at mode operand
target_by AddOne mode code = by_eight code
target_by SubOne mode code = by_eight code
target_by Boolean mode code = by_mode_at mode operand
target_by Half mode code = by_mode_at mode operand
target_by family mode code = unstored

abbrev pub target_of : TableRow → Target
target_of row = target_by row.family row.mode row.code

-- a deed with this word in its accumulator, this address and this operand stores there, if it stores
abbrev pub StoresAt : Target → ℕ → ℕ → ℕ → Deed → Type 0
StoresAt unstored a e m d = IsNowhere d.store
StoresAt operand a e m d = GoesTo e d.store
StoresAt top a e m d = GoesTo (right (up a)) d.store
StoresAt block a e m d = IsBefore (right a) m d.store

-- the address at which a word is stored in each case
abbrev pub place_of : Target → ℕ → ℕ → Option ℕ
place_of unstored a e = None
place_of operand a e = Some e
place_of top a e = Some (right (up a))
place_of block a e = None
