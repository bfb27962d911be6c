-- Only BLT stores a word before the accumulators are written.
use Rattle.std.proofs.Common.{◌≡◌, ℕ, ◌-◌, ◌^◌, Bool, true, false, Option, None, Some, refl, sym, ◌∙◌, ap}
use Rattle.std.specs.Prelude.{◌==◌, nat_lt, if◌then◌else◌}
use Rattle.word36.specs.Words.{right}
use Rattle.word36.specs.Arithmetic.{Outcome, arithmetic}
use Rattle.ka10_table.specs.declared.families.Family.{Family}
use Rattle.ka10_table.specs.declared.families.Family.TheVariants.{Illegal, Local, Monitor, ByteOp, Move, Imul, Mul, Idiv, Div, Shift, Jffo, DoubleShift, Exch, Blt, Aobj, Jrst, Jfcl, Xct, Pushj, PushPop, Popj, JsrJsp, JsaJra, AddSub, Compare, JumpSkip, AddOne, SubOne, Boolean, Half, Test}
use Rattle.ka10_table.specs.declared.families.OpMode.{OpMode}
use Rattle.ka10_table.specs.declared.families.OpMode.TheVariants.{Basic, Immediate, Memory, Both, Own}
use Rattle.ka10_table.specs.declared.families.TableRow.{TableRow}
use Rattle.plain_units.specs.declared.registers.Regs.{Regs}
use Rattle.plain_units.specs.Deeds.{Deed, Operands, Store, nowhere, back, into, before, calls_by_accumulator, calls_by_word, computes, counts, deed_of, halves_up, jumps_or_skips, moves, moves_half, operands, operated, pushes_or_pops}
use Rattle.plain_units.proofs.Shorthands.{done_by, combines}

-- whether a store comes before the accumulators
abbrev is_before : Store → Bool
is_before nowhere = false
is_before (back at w) = false
is_before (into at w) = false
is_before (before at w) = true

-- a deed that stores a word so leaves one for its accumulator, and none for the next
abbrev pub Blocks : Deed → Type 0
Blocks d = (at w : ℕ) → d.store ≡ before at w → (d.next ≡ None) × ((a : ℕ) × (d.ac ≡ Some a))

operated_after : (mode : OpMode) (regs : Regs) (ac e : ℕ) (x : Option Outcome) → is_before (operated mode regs ac e x).store ≡ false
operated_after Basic regs ac e (Some o) = refl
operated_after Immediate regs ac e (Some o) = refl
operated_after Memory regs ac e (Some o) = refl
operated_after Both regs ac e (Some o) = refl
operated_after Own regs ac e (Some o) = refl
operated_after mode regs ac e None = refl

module _ (op : ℕ) (o : Operands) where
  computed_after : (mode : OpMode) → is_before (computes mode op o).store ≡ false
  computed_after mode = operated_after mode o.regs o.ac o.e (arithmetic op o.a o.a1 o.m)

  moved_after : (mode : OpMode) → is_before (moves mode op o).store ≡ false
  moved_after Basic = computed_after Basic
  moved_after Immediate = computed_after Immediate
  moved_after Both = computed_after Both
  moved_after Own = computed_after Own
  moved_after Memory = by (arithmetic op o.a o.a1 o.a) refl
    where
      by : (x : Option Outcome) → arithmetic op o.a o.a1 o.a ≡ x → is_before (moves Memory op o).store ≡ false
      by (Some x) h = rw h refl
      by None h = rw h refl

  combined_after : (mode : OpMode) → is_before (combines mode op o).store ≡ false
  combined_after Basic = refl
  combined_after Immediate = refl
  combined_after Memory = refl
  combined_after Both = refl
  combined_after Own = refl

  half_after : (mode : OpMode) → is_before (moves_half mode op o).store ≡ false
  half_after Basic = refl
  half_after Immediate = refl
  half_after Memory = refl
  half_after Both = refl
  half_after Own = refl

module _ (code : ℕ) (o : Operands) where
  pushed_after : (b : Bool) → (code == 0) ≡ b → is_before (pushes_or_pops code o).store ≡ false
  pushed_after true h = rw h refl
  pushed_after false h = rw h refl

  called_after : (b : Bool) → (code == 0) ≡ b → is_before (calls_by_word code o).store ≡ false
  called_after true h = rw h refl
  called_after false h = rw h refl

  saved_after : (b : Bool) → (code == 0) ≡ b → is_before (calls_by_accumulator code o).store ≡ false
  saved_after true h = rw h refl
  saved_after false h = rw h refl

  jumped_after : (b : Bool) → nat_lt code 8 ≡ b → is_before (jumps_or_skips code o).store ≡ false
  jumped_after true h = rw h refl
  jumped_after false h = rw h refl

  counted_after : (n : ℕ) (b : Bool) → nat_lt code 8 ≡ b → is_before (counts n code o.regs o.ac o.a o.e o.m).store ≡ false
  counted_after n true h = rw h refl
  counted_after n false h = rw h refl

module _ (mode : OpMode) (code op : ℕ) (o : Operands) where
  stores_after : (d : Deed) → is_before d.store ≡ false → Blocks d
  stores_after d h at w is = absurd (let no : false ≡ true = sym h ∙ ap is_before is in cc no)

  abbrev of : Family → Deed
  of family = done_by family mode code op o

  blocks : (family : Family) → Blocks (of family)
  blocks Blt = λ at w h. (refl, (halves_up (if right o.a == o.ac then o.m else o.a), refl))
  blocks Illegal = stores_after (of Illegal) refl
  blocks Local = stores_after (of Local) refl
  blocks Monitor = stores_after (of Monitor) refl
  blocks ByteOp = stores_after (of ByteOp) refl
  blocks Xct = stores_after (of Xct) refl
  blocks Move = stores_after (of Move) (moved_after op o mode)
  blocks Imul = stores_after (of Imul) (computed_after op o mode)
  blocks Mul = stores_after (of Mul) (computed_after op o mode)
  blocks Idiv = stores_after (of Idiv) (computed_after op o mode)
  blocks Div = stores_after (of Div) (computed_after op o mode)
  blocks AddSub = stores_after (of AddSub) (computed_after op o mode)
  blocks Shift = stores_after (of Shift) refl
  blocks Jffo = stores_after (of Jffo) refl
  blocks DoubleShift = stores_after (of DoubleShift) refl
  blocks Exch = stores_after (of Exch) refl
  blocks Aobj = stores_after (of Aobj) refl
  blocks Jrst = stores_after (of Jrst) refl
  blocks Jfcl = stores_after (of Jfcl) refl
  blocks Pushj = stores_after (of Pushj) refl
  blocks PushPop = stores_after (of PushPop) (pushed_after code o (code == 0) refl)
  blocks Popj = stores_after (of Popj) refl
  blocks JsrJsp = stores_after (of JsrJsp) (called_after code o (code == 0) refl)
  blocks JsaJra = stores_after (of JsaJra) (saved_after code o (code == 0) refl)
  blocks Compare = stores_after (of Compare) refl
  blocks JumpSkip = stores_after (of JumpSkip) (jumped_after code o (nat_lt code 8) refl)
  blocks AddOne = stores_after (of AddOne) (counted_after code o 1 (nat_lt code 8) refl)
  blocks SubOne = stores_after (of SubOne) (counted_after code o (2 ^ 36 - 1) (nat_lt code 8) refl)
  blocks Boolean = stores_after (of Boolean) (combined_after op o mode)
  blocks Half = stores_after (of Half) (half_after op o mode)
  blocks Test = stores_after (of Test) refl

pub only_blocks : (row : TableRow) (op : ℕ) (regs : Regs) (ac e last m : ℕ) → Blocks (deed_of row op regs ac e last m)
unfolding deed_of
only_blocks row op regs ac e last m = blocks row.mode row.code op (operands regs ac e last m) row.family
