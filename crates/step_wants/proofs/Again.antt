-- An instruction asks for a reference again only right before it ends.
use Rattle.std.proofs.Common.{ℕ, zero, suc, List, Bool, true, false, cond, Option, None, Some}
use Rattle.ka10_table.specs.declared.families.Family.{Family}
use Rattle.ka10_table.specs.declared.families.Family.TheVariants.{Illegal, Local, Monitor, ByteOp, Move, Imul, Mul, Idiv, Div, Shift, Jffo, DoubleShift, Exch, Blt, Aobj, Jrst, Jfcl, Xct, Pushj, PushPop, Popj, JsrJsp, JsaJra, AddSub, Compare, JumpSkip, AddOne, SubOne, Boolean, Half, Test}
use Rattle.ka10_table.specs.declared.families.TableRow.{TableRow}
use Rattle.ka10_table.specs.Rows.{row_of}
use Rattle.machine_names.specs.declared.names.Kind.TheVariants.{Read}
use Rattle.plain_units.specs.declared.registers.Regs.{Regs}
use Rattle.plain_units.specs.Steps.{Steps, refers}
use Rattle.plain_units.specs.Addressing.{ac_field, address, address_within, indexed, is_indirect, last_taken, most_words, opcode}
use Rattle.plain_units.specs.Deeds.{Deed, Store, back, before, into, nowhere}
use Rattle.plain_units.specs.Instructions.{IDPB, ILDB, IBP, LDB, deposits_byte, does, does_byte, does_pointer, execute, executes, finishes, finishes_by, first_part_done, instruction, is_executive, loads_byte, takes}
use Rattle.std.specs.Prelude.{◌==◌}
use Rattle.step_wants.specs.Naming.{AskAgainLast}

finishes_last : (regs : Regs) (ac : ℕ) (d : Deed) → AskAgainLast (finishes regs ac d)
unfolding finishes
finishes_last regs ac d = by d.store
  where
    by : (s : Store) → AskAgainLast (finishes_by s regs ac d)
    by nowhere = tt
    by (back at w) = tt
    by (into at w) = λ v. tt
    by (before at w) = λ v. tt

takes_last : (at : Option ℕ) (e : ℕ) (next : ℕ → Steps) → ((m : ℕ) → AskAgainLast (next m)) → AskAgainLast (takes at e next)
unfolding takes
takes_last None e next all = all e
takes_last (Some at) e next all = all

does_last : (row : TableRow) (op : ℕ) (regs : Regs) (ac e last : ℕ) → AskAgainLast (does row op regs ac e last)
unfolding does
does_last row op regs ac e last = takes_last _ e _ (λ m. finishes_last regs ac _)

within_last : (n : ℕ) (ac : List ℕ) (w : ℕ) (next : ℕ → ℕ → Steps) → ((e last : ℕ) → AskAgainLast (next e last)) → AskAgainLast (address_within n ac w next)
unfolding address_within
within_last zero ac w next all = tt
within_last (suc n) ac w next all = by (is_indirect w) (λ v. within_last n ac v next all)
  where
    by : (b : Bool) → ((v : ℕ) → AskAgainLast (address_within n ac v next)) → AskAgainLast (cond b (refers (indexed ac w) Read (λ v. address_within n ac v next)) (next (indexed ac w) (last_taken ac w)))
    by true rest = rest
    by false rest = all (indexed ac w) (last_taken ac w)

address_last : (ac : List ℕ) (w : ℕ) (next : ℕ → ℕ → Steps) → ((e last : ℕ) → AskAgainLast (next e last)) → AskAgainLast (address ac w next)
unfolding address
address_last ac w next all = within_last most_words ac w next all

-- whichever of two steps a test chooses
either_last : (b : Bool) (x y : Steps) → AskAgainLast x → AskAgainLast y → AskAgainLast (cond b x y)
either_last true x y p q = p
either_last false x y p q = q

loads_last : (regs : Regs) (ac p : ℕ) → AskAgainLast (loads_byte regs ac p)
loads_last regs ac p = address_last regs.ac p _ (λ e last w. finishes_last regs ac _)

deposits_last : (regs : Regs) (ac p : ℕ) → AskAgainLast (deposits_byte regs ac p)
deposits_last regs ac p = address_last regs.ac p _ (λ e last w. finishes_last regs ac _)

byte_last : (code : ℕ) (regs : Regs) (ac e p : ℕ) → AskAgainLast (does_byte code regs ac e p)
byte_last code regs ac e p =
    either_last (code == IBP) _ _ (finishes_last regs ac _)
    (either_last (code == LDB) _ _ (loads_last regs ac p)
    (either_last (code == ILDB) _ _ (either_last regs.flags.bis _ _ (loads_last (first_part_done regs) ac p) (finishes_last regs ac _))
    (either_last (code == IDPB) _ _ (either_last regs.flags.bis _ _ (deposits_last (first_part_done regs) ac p) (finishes_last regs ac _))
    (deposits_last regs ac p))))

pointer_last : (code : ℕ) (regs : Regs) (ac e : ℕ) → AskAgainLast (does_pointer code regs ac e)
unfolding does_pointer
pointer_last code regs ac e = λ p. byte_last code regs ac e p

-- most families: the address, and then the row's deed
row_last : (row : TableRow) (regs : Regs) (w : ℕ) → AskAgainLast (address regs.ac w (does row (opcode w) regs (ac_field w)))
row_last row regs w = address_last regs.ac w _ (does_last row (opcode w) regs (ac_field w))

executes_last : (family : Family) (row : TableRow) (is_local : Bool) (regs : Regs) (w : ℕ) (next : Bool → ℕ → Steps) → ((l : Bool) (v : ℕ) → AskAgainLast (next l v)) → AskAgainLast (executes family row is_local regs w next)
executes_last family row is_local regs w next all = by family
  where
    by : (g : Family) → AskAgainLast (executes g row is_local regs w next)
    by Illegal = tt
    by Local = address_last regs.ac w _ (λ e last v u. all true u)
    by Monitor = either_last is_local _ _ tt (address_last regs.ac w _ (λ e last. tt))
    by ByteOp = address_last regs.ac w _ (λ e last. pointer_last row.code regs (ac_field w) e)
    by Xct = address_last regs.ac w _ (λ e last. all is_local)
    by Jrst = either_last (is_executive (ac_field w)) _ _ tt (row_last row regs w)
    by Move = row_last row regs w
    by Imul = row_last row regs w
    by Mul = row_last row regs w
    by Idiv = row_last row regs w
    by Div = row_last row regs w
    by Shift = row_last row regs w
    by Jffo = row_last row regs w
    by DoubleShift = row_last row regs w
    by Exch = row_last row regs w
    by Blt = row_last row regs w
    by Aobj = row_last row regs w
    by Jfcl = row_last row regs w
    by Pushj = row_last row regs w
    by PushPop = row_last row regs w
    by Popj = row_last row regs w
    by JsrJsp = row_last row regs w
    by JsaJra = row_last row regs w
    by AddSub = row_last row regs w
    by Compare = row_last row regs w
    by JumpSkip = row_last row regs w
    by AddOne = row_last row regs w
    by SubOne = row_last row regs w
    by Boolean = row_last row regs w
    by Half = row_last row regs w
    by Test = row_last row regs w

execute_last : (n : ℕ) (is_local : Bool) (regs : Regs) (w : ℕ) → AskAgainLast (execute n is_local regs w)
unfolding execute
execute_last zero is_local regs w = tt
execute_last (suc n) is_local regs w = let row = row_of (opcode w) in executes_last row.family row is_local regs w (λ l v. execute n l regs v) (λ l v. execute_last n l regs v)

pub instruction_last : (regs : Regs) → AskAgainLast (instruction regs)
unfolding instruction
instruction_last regs = λ w. execute_last most_words false regs w
