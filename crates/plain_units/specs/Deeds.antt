-- What each instruction does with the word that it takes, one definition a family (PDP-10 handbook, "User operations").
use Rattle.std.specs.Prelude.{ℕ, ◌+◌, ◌-◌, ◌/◌, ◌%◌, ◌^◌, Bool, true, false, ◌-ℤ◌, ◌||◌, ◌&&◌, nat_lt, nat_le, ◌==◌, if◌then◌else◌, Option, None, Some, slice_index}
use Rattle.std.specs.Int.{bit_at}
use Rattle.word36.specs.declared.flags.Flags.{Flags}
use Rattle.word36.specs.Words.{left, right, joined, signed, is_negative}
use Rattle.word36.specs.Arithmetic.{Outcome, arithmetic, added, not_divided}
use Rattle.word36.specs.Shifts.{shifted, first_one}
use Rattle.word36.specs.Boolean.{boolean_of}
use Rattle.word36.specs.Halves.{half_of}
use Rattle.word36.specs.Tests.{mask_of, tested, test_skips, condition_holds}
use Rattle.ka10_table.specs.declared.families.Family.{Family}
use Rattle.ka10_table.specs.declared.families.Family.TheVariants.{Illegal, Local, Monitor, ByteOp, Move, Imul, Mul, Idiv, Div, Shift, Jffo, DoubleShift, Exch, Blt, Aobj, Jrst, Jfcl, Xct, Pushj, PushPop, Popj, JsrJsp, JsaJra, AddSub, Compare, JumpSkip, AddOne, SubOne, Boolean, Half, Test}
use Rattle.ka10_table.specs.declared.families.OpMode.{OpMode}
use Rattle.ka10_table.specs.declared.families.OpMode.TheVariants.{Basic, Immediate, Memory, Own}
use Rattle.ka10_table.specs.declared.families.TableRow.{TableRow}
use Rattle.plain_units.specs.declared.channel.TheConstants.{OVERFLOW, PUSHDOWN_OVERFLOW}
use Rattle.plain_units.specs.declared.registers.Regs.{Regs}

-- where a word goes: nowhere; back to where the operand was read; to a place that is only written; and the same, but
-- before the accumulators are written
pub data Store : Type 0 where
  nowhere : Store
  back : ℕ → ℕ → Store
  into : ℕ → ℕ → Store
  before : ℕ → ℕ → Store

-- what an instruction leaves: the words of accumulators AC and AC plus 1, if they change, the flags, the program
-- counter, a word that it stores, and a channel that it posts
pub record Deed : Type 0 where
  pub ac : Option ℕ
  pub next : Option ℕ
  pub flags : Flags
  pub pc : ℕ
  pub store : Store
  pub post : Option ℕ

-- the word of an accumulator, and the accumulator behind one
abbrev pub in_ac : Regs → ℕ → ℕ
in_ac regs ac = slice_index regs.ac ac

abbrev pub behind_ac : ℕ → ℕ
behind_ac ac = (ac + 1) % 16

-- what an instruction works on: the registers, accumulator AC, its word and that of the one behind it, the effective
-- address, the last word taken for that, and the operand
pub record Operands : Type 0 where
  pub regs : Regs
  pub ac : ℕ
  pub a : ℕ
  pub a1 : ℕ
  pub e : ℕ
  pub last : ℕ
  pub m : ℕ

-- the same, with the words of the accumulators as the registers have them
abbrev pub operands : Regs → ℕ → ℕ → ℕ → ℕ → Operands
operands regs ac e last m = record { regs = regs; ac = ac; a = in_ac regs ac; a1 = in_ac regs (behind_ac ac); e = e; last = last; m = m }

-- the address of the next instruction, and of that behind it
abbrev pub next_pc : Regs → ℕ
next_pc regs = (regs.pc + 1) % 2 ^ 18

abbrev pub skip_pc : Regs → ℕ
skip_pc regs = (regs.pc + 2) % 2 ^ 18

-- nothing but the next instruction
abbrev pub nothing_done : Regs → Deed
nothing_done regs = record { ac = None; next = None; flags = regs.flags; pc = next_pc regs; store = nowhere; post = None }

-- flags that are set stay, and others are set with them
abbrev pub set_with : Flags → Flags → Flags
set_with f g = record {
  overflow = f.overflow || g.overflow;
  carry0 = f.carry0 || g.carry0;
  carry1 = f.carry1 || g.carry1;
  fov = f.fov || g.fov;
  bis = f.bis || g.bis;
  nodiv = f.nodiv || g.nodiv;
}

-- a flag as a bit of the left half
abbrev pub flag_bit : Bool → ℕ → ℕ
flag_bit on n = if on then 2 ^ n else 0

-- the flags in a left half: overflow bit 0, carry 0 bit 1, carry 1 bit 2, floating overflow bit 3, first part done bit
-- 4, user bit 5, which is always 1, no divide bit 12
abbrev pub flags_half : Flags → ℕ
flags_half f = flag_bit f.overflow 17 + flag_bit f.carry0 16 + flag_bit f.carry1 15 + flag_bit f.fov 14 + flag_bit f.bis 13 + 2 ^ 12 + flag_bit f.nodiv 5

-- the flags of a left half
abbrev pub half_flags : ℕ → Flags
half_flags h = record {
  overflow = bit_at h 17 == 1;
  carry0 = bit_at h 16 == 1;
  carry1 = bit_at h 15 == 1;
  fov = bit_at h 14 == 1;
  bis = bit_at h 13 == 1;
  nodiv = bit_at h 5 == 1;
}

-- the PC word: the flags, and the address of the next instruction
abbrev pub pc_word : Regs → ℕ
pc_word regs = joined (flags_half regs.flags) (next_pc regs)

-- the first part of a byte instruction isn't done
abbrev pub without_bis : Flags → Flags
without_bis f = record f { bis = false }

-- a word for an accumulator that isn't accumulator 0
abbrev pub unless_zero : ℕ → ℕ → Option ℕ
unless_zero ac w = if ac == 0 then None else Some w

-- the result of a mode goes to AC, to AC, to E, to both, or to E and to AC where AC isn't 0
abbrev pub to_ac : OpMode → ℕ → ℕ → Option ℕ
to_ac Memory ac w = None
to_ac Own ac w = unless_zero ac w
to_ac mode ac w = Some w

abbrev pub to_e : OpMode → ℕ → ℕ → Store
to_e Basic e w = nowhere
to_e Immediate e w = nowhere
to_e mode e w = back e w

abbrev pub by_mode : OpMode → Regs → ℕ → ℕ → ℕ → Deed
by_mode mode regs ac e w = record (nothing_done regs) { ac = to_ac mode ac w; store = to_e mode e w }

-- a second word goes to AC plus 1, but in mode M
abbrev pub to_next : OpMode → Option ℕ → Option ℕ
to_next Memory low = None
to_next mode low = low

-- overflow posts its channel
abbrev pub overflow_post : Bool → Option ℕ
overflow_post overflow = if overflow then Some OVERFLOW else None

-- an operation in its mode; a division that isn't done sets flags alone
abbrev pub operated : OpMode → Regs → ℕ → ℕ → Option Outcome → Deed
operated mode regs ac e (Some o) = record (by_mode mode regs ac e o.word) { next = to_next mode o.low; flags = set_with regs.flags o.flags; post = overflow_post o.flags.overflow }
operated mode regs ac e None = record (nothing_done regs) { flags = set_with regs.flags not_divided; post = overflow_post true }

-- an operation on the accumulator and the operand
abbrev pub computes : OpMode → ℕ → Operands → Deed
computes mode op o = operated mode o.regs o.ac o.e (arithmetic op o.a o.a1 o.m)

-- 200 to 217: MOVE, MOVS, MOVN, MOVM; in mode M the accumulator is the source, and E is only written
abbrev pub moves : OpMode → ℕ → Operands → Deed
moves Memory op o = into_e (arithmetic op o.a o.a1 o.a)
  where
    into_e : Option Outcome → Deed
    into_e (Some x) = record (nothing_done o.regs) { flags = set_with o.regs.flags x.flags; store = into o.e x.word; post = overflow_post x.flags.overflow }
    into_e None = nothing_done o.regs
moves mode op o = computes mode op o

-- 240 to 242, 244 to 246: ASH, ROT, LSH and ASHC, ROTC, LSHC
abbrev pub shifts : ℕ → Operands → Deed
shifts op o = operated Basic o.regs o.ac o.e (Some (shifted op o.a o.a1 o.e))

-- 243: JFFO jumps where there is a one, and counts the zeros before it
abbrev pub finds_first_one : Operands → Deed
finds_first_one o = record (nothing_done o.regs) { next = Some (first_one o.a); pc = if o.a == 0 then next_pc o.regs else o.e }

-- both halves of a word one higher, each by itself
abbrev pub halves_up : ℕ → ℕ
halves_up w = joined ((left w + 1) % 2 ^ 18) ((right w + 1) % 2 ^ 18)

-- 251: BLT moves one word from the left half's address to the right half's, and then counts AC up as it stands; it
-- goes on with itself until the address just stored is E or greater
abbrev pub moves_block : Operands → Deed
moves_block o = record (nothing_done o.regs) {
  ac = Some (halves_up (if right o.a == o.ac then o.m else o.a));
  pc = if nat_le o.e (right o.a) then next_pc o.regs else o.regs.pc;
  store = before (right o.a) o.m;
}

-- one in each half, added as one number
abbrev pub both_ones : ℕ
both_ones = 2 ^ 18 + 1

abbrev pub up : ℕ → ℕ
up w = (w + both_ones) % 2 ^ 36

abbrev pub down : ℕ → ℕ
down w = (w + 2 ^ 36 - both_ones) % 2 ^ 36

-- 252, 253: AOBJP, AOBJN jump where the result isn't negative, is negative
abbrev pub adds_to_both : ℕ → Operands → Deed
adds_to_both code o = record (nothing_done o.regs) {
  ac = Some (up o.a);
  pc = if is_negative (up o.a) then (if code == 0 then next_pc o.regs else o.e) else (if code == 0 then o.e else next_pc o.regs);
}

-- 254: JRST jumps; with bit 2 of AC the flags become those of the last word taken for the address
abbrev pub jumps : Operands → Deed
jumps o = record (nothing_done o.regs) { flags = if o.ac / 2 % 2 == 1 then half_flags (left o.last) else o.regs.flags; pc = o.e }

-- 255: JFCL jumps where a flag that AC names is set, and clears those named: overflow 10, carry 0 4, carry 1 2, floating overflow 1 (octal)
abbrev pub jumps_on_flags : Operands → Deed
jumps_on_flags o =
    let f = o.regs.flags in
    let v = bit_at o.ac 3 == 1 in
    let c0 = bit_at o.ac 2 == 1 in
    let c1 = bit_at o.ac 1 == 1 in
    let fov = bit_at o.ac 0 == 1 in
    record (nothing_done o.regs) {
      flags = record f { overflow = if v then false else f.overflow; carry0 = if c0 then false else f.carry0; carry1 = if c1 then false else f.carry1; fov = if fov then false else f.fov };
      pc = if (v && f.overflow) || (c0 && f.carry0) || (c1 && f.carry1) || (fov && f.fov) then o.e else next_pc o.regs;
    }

-- a left half that comes to this posts that a pushdown list ran over, or under
abbrev pub pushdown_post : ℕ → ℕ → Option ℕ
pushdown_post limit w = if left w == limit then Some PUSHDOWN_OVERFLOW else None

-- 260: PUSHJ
abbrev pub calls_by_push : Operands → Deed
calls_by_push o = record (nothing_done o.regs) { ac = Some (up o.a); flags = without_bis o.regs.flags; pc = o.e; store = into (right (up o.a)) (pc_word o.regs); post = pushdown_post 0 (up o.a) }

-- 261, 262: PUSH, POP
abbrev pub pushes_or_pops : ℕ → Operands → Deed
pushes_or_pops code o =
    if code == 0 then record (nothing_done o.regs) { ac = Some (up o.a); store = into (right (up o.a)) o.m; post = pushdown_post 0 (up o.a) }
    else record (nothing_done o.regs) { ac = Some (down o.a); store = into o.e o.m; post = pushdown_post (2 ^ 18 - 1) (down o.a) }

-- 263: POPJ
abbrev pub returns_by_pop : Operands → Deed
returns_by_pop o = record (nothing_done o.regs) { ac = Some (down o.a); pc = right o.m; post = pushdown_post (2 ^ 18 - 1) (down o.a) }

-- 264, 265: JSR, JSP
abbrev pub calls_by_word : ℕ → Operands → Deed
calls_by_word code o =
    if code == 0 then record (nothing_done o.regs) { flags = without_bis o.regs.flags; pc = (o.e + 1) % 2 ^ 18; store = into o.e (pc_word o.regs) }
    else record (nothing_done o.regs) { ac = Some (pc_word o.regs); flags = without_bis o.regs.flags; pc = o.e }

-- 266, 267: JSA, JRA
abbrev pub calls_by_accumulator : ℕ → Operands → Deed
calls_by_accumulator code o =
    if code == 0 then record (nothing_done o.regs) { ac = Some (joined o.e (next_pc o.regs)); pc = (o.e + 1) % 2 ^ 18; store = into o.e o.a }
    else record (nothing_done o.regs) { ac = Some o.m; pc = o.e }

-- 300 to 317: CAI, CAM compare the accumulator with the operand
abbrev pub compares : ℕ → Operands → Deed
compares code o = record (nothing_done o.regs) { pc = if condition_holds (code % 8) (signed o.a -ℤ signed o.m) then skip_pc o.regs else next_pc o.regs }

-- 320 to 337: JUMP, SKIP
abbrev pub jumps_or_skips : ℕ → Operands → Deed
jumps_or_skips code o =
    if nat_lt code 8 then record (nothing_done o.regs) { pc = if condition_holds code (signed o.a) then o.e else next_pc o.regs }
    else record (nothing_done o.regs) { ac = unless_zero o.ac o.m; pc = if condition_holds (code - 8) (signed o.m) then skip_pc o.regs else next_pc o.regs }

-- 340 to 377: AOJ, SOJ jump by the accumulator, AOS, SOS skip by the word at E, with a number added to it first
abbrev pub counts : ℕ → ℕ → Regs → ℕ → ℕ → ℕ → ℕ → Deed
counts n code regs ac a e m = if nat_lt code 8 then jumped (added a n) else skipped (added m n)
  where
    jumped : Outcome → Deed
    jumped o = record (nothing_done regs) { ac = Some o.word; flags = set_with regs.flags o.flags; pc = if condition_holds code (signed o.word) then e else next_pc regs; post = overflow_post o.flags.overflow }

    skipped : Outcome → Deed
    skipped o = record (nothing_done regs) {
      ac = unless_zero ac o.word;
      flags = set_with regs.flags o.flags;
      pc = if condition_holds (code - 8) (signed o.word) then skip_pc regs else next_pc regs;
      store = back e o.word;
      post = overflow_post o.flags.overflow;
    }

-- 500 to 577: halfwords; in mode M the accumulator's half goes to the word at E, in mode S the word's half into itself
abbrev pub moves_half : OpMode → ℕ → Operands → Deed
moves_half Memory op o = by_mode Memory o.regs o.ac o.e (half_of op o.a o.m)
moves_half Own op o = by_mode Own o.regs o.ac o.e (half_of op o.m o.m)
moves_half mode op o = by_mode mode o.regs o.ac o.e (half_of op o.m o.a)

-- 600 to 677: tests; the skip looks at the old word
abbrev pub tests : ℕ → Operands → Deed
tests op o = let mask = mask_of op o.m in
    record (nothing_done o.regs) { ac = Some (tested op o.a mask); pc = if test_skips op o.a mask then skip_pc o.regs else next_pc o.regs }

-- in mode I the operand is 0,,E, and no word is taken
abbrev pub operand_of : OpMode → ℕ → Option ℕ
operand_of Immediate e = None
operand_of mode e = Some e

-- in modes I and M a move takes no word
abbrev pub moved_from : OpMode → ℕ → Option ℕ
moved_from Memory e = None
moved_from mode e = operand_of mode e

-- the first eight of sixteen look at the accumulator, the others at the word at E
abbrev pub of_second_eight : ℕ → ℕ → Option ℕ
of_second_eight code e = if nat_lt code 8 then None else Some e

-- What an instruction of each family does: which word it takes, with this word in its accumulator and this E, where none
-- stands for the operand 0,,E; and its deed, for an opcode. Those of no other line have steps of their own (`executes`).
abbrev pub acts : Family → OpMode → ℕ → (ℕ → ℕ → Option ℕ) × (ℕ → Operands → Deed)
acts Move mode code = (λ a e. moved_from mode e, moves mode)
acts Imul mode code = (λ a e. operand_of mode e, computes mode)
acts Mul mode code = (λ a e. operand_of mode e, computes mode)
acts Idiv mode code = (λ a e. operand_of mode e, computes mode)
acts Div mode code = (λ a e. operand_of mode e, computes mode)
acts Shift mode code = (λ a e. None, shifts)
acts Jffo mode code = (λ a e. None, λ op. finds_first_one)
acts DoubleShift mode code = (λ a e. None, shifts)
acts Exch mode code = (λ a e. Some e, λ op o. record (nothing_done o.regs) { ac = Some o.m; store = back o.e o.a })
acts Blt mode code = (λ a e. Some (left a), λ op. moves_block)
acts Aobj mode code = (λ a e. None, λ op. adds_to_both code)
acts Jrst mode code = (λ a e. None, λ op. jumps)
acts Jfcl mode code = (λ a e. None, λ op. jumps_on_flags)
acts Pushj mode code = (λ a e. None, λ op. calls_by_push)
acts PushPop mode code = (λ a e. if code == 0 then Some e else Some (right a), λ op. pushes_or_pops code)
acts Popj mode code = (λ a e. Some (right a), λ op. returns_by_pop)
acts JsrJsp mode code = (λ a e. None, λ op. calls_by_word code)
acts JsaJra mode code = (λ a e. if code == 0 then None else Some (left a), λ op. calls_by_accumulator code)
acts AddSub mode code = (λ a e. operand_of mode e, computes mode)
acts Compare mode code = (λ a e. of_second_eight code e, λ op. compares code)
acts JumpSkip mode code = (λ a e. of_second_eight code e, λ op. jumps_or_skips code)
acts AddOne mode code = (λ a e. of_second_eight code e, λ op o. counts 1 code o.regs o.ac o.a o.e o.m)
acts SubOne mode code = (λ a e. of_second_eight code e, λ op o. counts (2 ^ 36 - 1) code o.regs o.ac o.a o.e o.m)
acts Boolean mode code = (λ a e. operand_of mode e, λ op o. by_mode mode o.regs o.ac o.e (boolean_of op o.a o.m))
acts Half mode code = (λ a e. operand_of mode e, moves_half mode)
acts Test mode code = (λ a e. of_second_eight (code % 16) e, tests)
acts family mode code = (λ a e. None, λ op o. nothing_done o.regs)

-- the word that one takes
abbrev pub taken_by : Family → OpMode → ℕ → ℕ → ℕ → Option ℕ
taken_by family mode code a e = (acts family mode code).0 a e

-- the address of the word that the instruction of a row takes, if it takes one
unfoldable pub taken_of : TableRow → Regs → ℕ → ℕ → Option ℕ
taken_of row regs ac e = (acts row.family row.mode row.code).0 (in_ac regs ac) e

-- what the instruction of an opcode, with its row, does
unfoldable pub deed_of : TableRow → ℕ → Regs → ℕ → ℕ → ℕ → ℕ → Deed
deed_of row op regs ac e last m = (acts row.family row.mode row.code).1 op (operands regs ac e last m)
