-- Where each instruction stores.
use Rattle.std.proofs.Common.{◌≡◌, ℕ, ◌-◌, ◌^◌, Bool, true, false, Option, Some, None, refl, subst}
use Rattle.std.specs.Prelude.{nat_lt, ◌==◌}
use Rattle.word36.specs.Arithmetic.{Outcome, arithmetic}
use Rattle.word36.specs.Words.{right}
use Rattle.ka10_table.specs.declared.families.Family.{Family}
use Rattle.ka10_table.specs.declared.families.Family.TheVariants.{Illegal, Local, Monitor, ByteOp, Move, Imul, Mul, Idiv, Div, Shift, Jffo, DoubleShift, Exch, Blt, Aobj, Jrst, Jfcl, Xct, Pushj, PushPop, Popj, JsrJsp, JsaJra, AddSub, Compare, JumpSkip, AddOne, SubOne, Boolean, Half, Test}
use Rattle.ka10_table.specs.declared.families.OpMode.{OpMode}
use Rattle.ka10_table.specs.declared.families.OpMode.TheVariants.{Basic, Immediate, Memory, Both, Own}
use Rattle.ka10_table.specs.declared.families.TableRow.{TableRow}
use Rattle.plain_units.specs.declared.registers.Regs.{Regs}
use Rattle.plain_units.specs.Deeds.{Deed, Operands, deed_of, in_ac, operands, operated, computes, moves, counts, jumps_or_skips, pushes_or_pops, calls_by_word, calls_by_accumulator, moves_half, up}
use Rattle.ka10_in_place.specs.Stores.{IsNowhere, GoesTo}
use Rattle.ka10_in_place.specs.Targets.{Target, unstored, operand, top, block, target_of, target_by, by_mode_at, by_eight, StoresAt, place_of}
use Rattle.plain_units.proofs.Shorthands.{done_by, combines}

-- a deed stores there, over what it works on
abbrev StoresOver : Target → Operands → Deed → Type 0
StoresOver t o d = StoresAt t o.a o.e o.m d

-- an operation stores its result by its mode, if it gives one
operated_at : (mode : OpMode) (regs : Regs) (ac a e m : ℕ) (x : Option Outcome) → StoresAt (by_mode_at mode operand) a e m (operated mode regs ac e x)
operated_at Basic regs ac a e m None = tt
operated_at Basic regs ac a e m (Some o) = tt
operated_at Immediate regs ac a e m None = tt
operated_at Immediate regs ac a e m (Some o) = tt
operated_at Memory regs ac a e m None = tt
operated_at Memory regs ac a e m (Some o) = refl
operated_at Both regs ac a e m None = tt
operated_at Both regs ac a e m (Some o) = refl
operated_at Own regs ac a e m None = tt
operated_at Own regs ac a e m (Some o) = refl

module _ (op : ℕ) (o : Operands) where
  computed_at : (mode : OpMode) → StoresOver (by_mode_at mode operand) o (computes mode op o)
  computed_at mode = operated_at mode o.regs o.ac o.a o.e o.m (arithmetic op o.a o.a1 o.m)

  moved_at : (mode : OpMode) → StoresOver (by_mode_at mode operand) o (moves mode op o)
  moved_at Basic = computed_at Basic
  moved_at Immediate = computed_at Immediate
  moved_at Memory = by (arithmetic op o.a o.a1 o.a) refl
    where
      by : (x : Option Outcome) → arithmetic op o.a o.a1 o.a ≡ x → StoresOver operand o (moves Memory op o)
      by None h = rw h tt
      by (Some x) h = rw h refl
  moved_at Both = computed_at Both
  moved_at Own = computed_at Own

  combined_at : (mode : OpMode) → StoresOver (by_mode_at mode operand) o (combines mode op o)
  combined_at Basic = tt
  combined_at Immediate = tt
  combined_at Memory = refl
  combined_at Both = refl
  combined_at Own = refl

  half_at : (mode : OpMode) → StoresOver (by_mode_at mode operand) o (moves_half mode op o)
  half_at Basic = tt
  half_at Immediate = tt
  half_at Memory = refl
  half_at Both = refl
  half_at Own = refl

module _ (code : ℕ) (o : Operands) where
  counted_at : (n : ℕ) (b : Bool) → nat_lt code 8 ≡ b → StoresOver (by_eight code) o (counts n code o.regs o.ac o.a o.e o.m)
  counted_at n true h = rw h tt
  counted_at n false h = rw h refl

  skips_at : (b : Bool) → nat_lt code 8 ≡ b → IsNowhere (jumps_or_skips code o).store
  skips_at true h = rw h tt
  skips_at false h = rw h tt

  push_at : (b : Bool) → (code == 0) ≡ b → StoresOver (target_by PushPop Basic code) o (pushes_or_pops code o)
  push_at true h = rw h refl
  push_at false h = rw h refl

  by_word_at : (b : Bool) → (code == 0) ≡ b → StoresOver (target_by JsrJsp Basic code) o (calls_by_word code o)
  by_word_at true h = rw h refl
  by_word_at false h = rw h tt

  by_accumulator_at : (b : Bool) → (code == 0) ≡ b → StoresOver (target_by JsaJra Basic code) o (calls_by_accumulator code o)
  by_accumulator_at true h = rw h refl
  by_accumulator_at false h = rw h tt

module _ (mode : OpMode) (code op : ℕ) (o : Operands) where
  family_at : (f : Family) → StoresOver (target_by f mode code) o (done_by f mode code op o)
  family_at Illegal = tt
  family_at Local = tt
  family_at Monitor = tt
  family_at ByteOp = tt
  family_at Move = moved_at op o mode
  family_at Imul = computed_at op o mode
  family_at Mul = computed_at op o mode
  family_at Idiv = computed_at op o mode
  family_at Div = computed_at op o mode
  family_at Shift = tt
  family_at Jffo = tt
  family_at DoubleShift = tt
  family_at Exch = refl
  family_at Blt = (refl, refl)
  family_at Aobj = tt
  family_at Jrst = tt
  family_at Jfcl = tt
  family_at Xct = tt
  family_at Pushj = refl
  family_at PushPop = push_at code o (code == 0) refl
  family_at Popj = tt
  family_at JsrJsp = by_word_at code o (code == 0) refl
  family_at JsaJra = by_accumulator_at code o (code == 0) refl
  family_at AddSub = computed_at op o mode
  family_at Compare = tt
  family_at JumpSkip = skips_at code o (nat_lt code 8) refl
  family_at AddOne = counted_at code o 1 (nat_lt code 8) refl
  family_at SubOne = counted_at code o (2 ^ 36 - 1) (nat_lt code 8) refl
  family_at Boolean = combined_at op o mode
  family_at Half = half_at op o mode
  family_at Test = tt

-- the instruction of a row stores where its row says
pub stores_at : (row : TableRow) (op : ℕ) (regs : Regs) (ac e last m : ℕ) → StoresAt (target_of row) (in_ac regs ac) e m (deed_of row op regs ac e last m)
unfolding deed_of
stores_at row op regs ac e last m = family_at row.mode row.code op (operands regs ac e last m) row.family

-- nowhere, or to an address
pub stored_nowhere : (t : Target) (a e m : ℕ) (d : Deed) → t ≡ unstored → StoresAt t a e m d → IsNowhere d.store
stored_nowhere t a e m d h s = subst (λ (u : Target). StoresAt u a e m d) h s

pub stored_to : (t : Target) (a e m to : ℕ) (d : Deed) → place_of t a e ≡ Some to → StoresAt t a e m d → GoesTo to d.store
stored_to unstored a e m to d h s = absurd (cc h)
stored_to operand a e m to d h s = let same : e ≡ to = cc h in subst (λ (x : ℕ). GoesTo x d.store) same s
stored_to top a e m to d h s = let same : right (up a) ≡ to = cc h in subst (λ (x : ℕ). GoesTo x d.store) same s
stored_to block a e m to d h s = absurd (cc h)
