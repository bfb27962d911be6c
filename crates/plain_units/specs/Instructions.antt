-- The unit of an instruction, as the steps that it takes (PDP-10 handbook, "User operations").
use Rattle.std.specs.Prelude.{ℕ, zero, suc, ◌+◌, ◌*◌, ◌/◌, ◌%◌, ◌^◌, Bool, true, false, ◌||◌, ◌==◌, if◌then◌else◌, Option, None, Some, List, slice_set}
use Rattle.word36.specs.Bytes.{incremented, loaded, deposited}
use Rattle.ka10_table.specs.declared.families.Family.{Family}
use Rattle.ka10_table.specs.declared.families.Family.TheVariants.{Illegal, Local, Monitor, ByteOp, Jrst, Xct}
use Rattle.ka10_table.specs.declared.families.TableRow.{TableRow}
use Rattle.ka10_table.specs.Rows.{row_of}
use Rattle.plain_units.specs.declared.channel.TheConstants.{ILLEGAL_INSTRUCTION}
use Rattle.machine_names.specs.declared.names.Kind.TheVariants.{Read, Write, Execute}
use Rattle.plain_units.specs.declared.registers.Regs.{Regs}
use Rattle.plain_units.specs.Steps.{Steps, Ending, refers, widens, keeps, ends, traps, calls, is_accumulator}
use Rattle.plain_units.specs.Addressing.{opcode, ac_field, address, most_words}
use Rattle.plain_units.specs.Deeds.{Deed, Store, nowhere, back, into, before, nothing_done, without_bis, in_ac, behind_ac, taken_of, deed_of}

-- the word at an address, or 0,,E
unfoldable pub takes : Option ℕ → ℕ → (ℕ → Steps) → Steps
takes None e next = next e
takes (Some at) e next = refers at Read next

-- an accumulator with a word, if it gets one
abbrev pub with_word : List ℕ → ℕ → Option ℕ → List ℕ
with_word ac i None = ac
with_word ac i (Some w) = slice_set ac i w

-- the accumulators, the flags and the program counter of a deed
abbrev pub with_deed : Regs → ℕ → Deed → Regs
with_deed regs ac d = record { ac = with_word (with_word regs.ac ac d.ac) (behind_ac ac) d.next; pc = d.pc; flags = d.flags }

-- the end of a unit that stores a word at an address last; low addresses are the accumulators
abbrev pub storing : Regs → ℕ → ℕ → Option ℕ → Ending
storing regs at w post =
    if is_accumulator at then record { regs = record regs { ac = slice_set regs.ac at w }; put = None; post = post }
    else record { regs = regs; put = Some (record { at = at; word = w }); post = post }

-- the same, where the word is stored before the accumulators are written
abbrev pub storing_first : Regs → ℕ → Deed → ℕ → ℕ → Ending
storing_first regs ac d at w =
    if is_accumulator at then record { regs = with_deed (record regs { ac = slice_set regs.ac at w }) ac d; put = None; post = d.post }
    else record { regs = with_deed regs ac d; put = Some (record { at = at; word = w }); post = d.post }

-- the end of a deed, by where its word goes
abbrev pub finishes_by : Store → Regs → ℕ → Deed → Steps
finishes_by nowhere regs ac d = ends (record { regs = with_deed regs ac d; put = None; post = d.post })
finishes_by (back at w) regs ac d = widens at (ends (storing (with_deed regs ac d) at w d.post))
finishes_by (into at w) regs ac d = refers at Write (λ v. ends (storing (with_deed regs ac d) at w d.post))
finishes_by (before at w) regs ac d = refers at Write (λ v. ends (storing_first regs ac d at w))

-- a deed ends the unit; where it stores a word, it asks for that first
unfoldable pub finishes : Regs → ℕ → Deed → Steps
finishes regs ac d = finishes_by d.store regs ac d

-- an instruction that takes one word at most and stores one at most
unfoldable pub does : TableRow → ℕ → Regs → ℕ → ℕ → ℕ → Steps
does row op regs ac e last = takes (taken_of row regs ac e) e (λ m. finishes regs ac (deed_of row op regs ac e last m))

-- 133: IBP, by the order of the byte instructions
abbrev pub IBP : ℕ
IBP = 0

-- 134: ILDB
abbrev pub ILDB : ℕ
ILDB = 1

-- 135: LDB
abbrev pub LDB : ℕ
LDB = 2

-- 136: IDPB
abbrev pub IDPB : ℕ
IDPB = 3

-- a byte is loaded into AC from the word that a pointer names
abbrev pub loads_byte : Regs → ℕ → ℕ → Steps
loads_byte regs ac p = address regs.ac p (λ e last. refers e Read (λ w. finishes regs ac (record (nothing_done regs) { ac = Some (loaded p w) })))

-- the low bits of AC are deposited into the word that a pointer names
abbrev pub deposits_byte : Regs → ℕ → ℕ → Steps
deposits_byte regs ac p = address regs.ac p (λ e last. refers e Read (λ w. finishes regs ac (record (nothing_done regs) { store = back e (deposited p w (in_ac regs ac)) })))

-- the first part of ILDB and IDPB: the pointer is incremented, and the instruction is done again
abbrev pub does_first_part : Regs → ℕ → ℕ → ℕ → Steps
does_first_part regs ac e p = finishes regs ac (record (nothing_done regs) { flags = record regs.flags { bis = true }; pc = regs.pc; store = back e (incremented p) })

-- the second part is LDB or DPB, with the mark of the first taken away
abbrev pub first_part_done : Regs → Regs
first_part_done regs = record regs { flags = without_bis regs.flags }

-- a byte instruction with its pointer, the word at E
abbrev pub does_byte : ℕ → Regs → ℕ → ℕ → ℕ → Steps
does_byte code regs ac e p =
    if code == IBP then finishes regs ac (record (nothing_done regs) { store = back e (incremented p) })
    else (if code == LDB then loads_byte regs ac p
    else (if code == ILDB then (if regs.flags.bis then loads_byte (first_part_done regs) ac p else does_first_part regs ac e p)
    else (if code == IDPB then (if regs.flags.bis then deposits_byte (first_part_done regs) ac p else does_first_part regs ac e p)
    else deposits_byte regs ac p)))

-- a byte instruction takes its pointer, at E
unfoldable pub does_pointer : ℕ → Regs → ℕ → ℕ → Steps
does_pointer code regs ac e = refers e Read (does_byte code regs ac e)

-- the opcode and AC of a word kept, with E for its address
abbrev pub local_word : ℕ → ℕ → ℕ
local_word w e = w / 2 ^ 23 * 2 ^ 23 + e

-- where a local call stores its word
abbrev pub LOCAL_CALL : ℕ
LOCAL_CALL = 0o40

-- where the word stands that it executes
abbrev pub LOCAL_HANDLER : ℕ
LOCAL_HANDLER = 0o41

-- AC with bit 4 or bit 10 (octal) makes JRST an instruction of the executive
abbrev pub is_executive : ℕ → Bool
is_executive ac = (ac / 4 % 2 == 1) || (ac / 8 % 2 == 1)

-- an instruction of a family; XCT and a local call go on with another word, behind a local call as one of its own
abbrev pub executes : Family → TableRow → Bool → Regs → ℕ → (Bool → ℕ → Steps) → Steps
executes Illegal row is_local regs w next = traps ILLEGAL_INSTRUCTION
executes Monitor row is_local regs w next = if is_local then traps ILLEGAL_INSTRUCTION else address regs.ac w (λ e last. calls e)
executes Xct row is_local regs w next = address regs.ac w (λ e last. refers e Execute (next is_local))
executes Local row is_local regs w next = address regs.ac w (λ e last. refers LOCAL_CALL Write (λ v. keeps LOCAL_CALL (local_word w e) (refers LOCAL_HANDLER Execute (next true))))
executes ByteOp row is_local regs w next = address regs.ac w (λ e last. does_pointer row.code regs (ac_field w) e)
executes Jrst row is_local regs w next =
    if is_executive (ac_field w) then traps ILLEGAL_INSTRUCTION else address regs.ac w (does row (opcode w) regs (ac_field w))
executes family row is_local regs w next = address regs.ac w (does row (opcode w) regs (ac_field w))

-- a word executed, with so many words to be executed at most
unfoldable pub execute : ℕ → Bool → Regs → ℕ → Steps
execute zero is_local regs w = traps ILLEGAL_INSTRUCTION
execute (suc n) is_local regs w = let row = row_of (opcode w) in executes row.family row is_local regs w (λ l v. execute n l regs v)

-- the unit of the instruction at the program counter
unfoldable pub instruction : Regs → Steps
instruction regs = refers regs.pc Execute (execute most_words false regs)
