-- A unit, or the rest of one, done in place on a fork's registers and pages.
use Rattle.std.specs.Prelude.{◌≡◌, ℕ, ◌<◌, ◌≤◌, ◌^◌, Bool, true, false, not, Option, None, Some, length}
use Rattle.std.specs.Ordering.{nat_cmp}
use Rattle.ka10_table.specs.declared.families.Family.{Family}
use Rattle.ka10_table.specs.declared.families.Family.TheVariants.{Illegal, Local, Monitor, ByteOp, Jrst, Xct}
use Rattle.ka10_table.specs.declared.families.TableRow.{TableRow}
use Rattle.ka10_table.specs.Rows.{row_of}
use Rattle.plain_units.specs.declared.channel.TheConstants.{OVERFLOW, PUSHDOWN_OVERFLOW}
use Rattle.plain_units.specs.declared.registers.Regs.{Regs}
use Rattle.page_contracts.specs.declared.answers.SpaceHandle.{SpaceHandle}
use Rattle.machine_names.specs.declared.names.ForkName.{ForkName}
use Rattle.plain_units.specs.Deeds.{Deed, deed_of, in_ac, taken_by}
use Rattle.plain_units.specs.Instructions.{does, does_pointer, finishes, is_executive}
use Rattle.page_contracts.specs.DrumWords.{DrumWords}
use Rattle.page_contracts.specs.Pages.{PagesMeaning, MayLose, StaysPut}
use Rattle.plain_pages.specs.PlainPages.{NumberedPages}
use Rattle.plain_units.specs.Steps.{Steps}
use Rattle.ka10_in_place.specs.declared.ending.Quick.{Quick}
use Rattle.ka10_in_place.specs.declared.ending.Quick.TheVariants as quick
use Rattle.ka10_deeds.specs.declared.done.Post.{Post}
use Rattle.ka10_deeds.specs.declared.done.Post.TheVariants as post
use Rattle.ka10_deeds.specs.Acts.{Instruction}
use Rattle.ka10_spots.specs.Glide.{glide}
use Rattle.ka10_spots.specs.Once.{After}

-- a fact about a unit that was done, with the channel that it posts
abbrev pub IfDone : Quick → (Option ℕ → Type 0) → Type 0
IfDone quick.Done holds = holds None
IfDone quick.Overflow holds = holds (Some OVERFLOW)
IfDone quick.Pushdown holds = holds (Some PUSHDOWN_OVERFLOW)
IfDone quick.Slow holds = Unit {0}

-- a unit was done
abbrev pub IsDone : Quick → Type 0
IsDone quick.Slow = ⊥
IsDone q = Unit {0}

-- a unit that was done, with its post
abbrev pub ended : Post → Quick
ended post.Nothing = quick.Done
ended post.Overflow = quick.Overflow
ended post.Pushdown = quick.Pushdown

-- what something does to a fork's pages, with what it leaves
abbrev pub Does : Type 1
Does = ForkName → NumberedPages → After nat_cmp → Type 0

-- Done in place, in a space: where it isn't done here, nothing has changed, and no page was used; where it is, the pages and the registers are
-- what it leaves, for each fork whose space this is and over each drum that fits. Only words of pages change.
pub record InPlace {P : Type 0} (means : PagesMeaning P) (space : SpaceHandle) (does : Does) (old new : P) (regs after : Regs) (result : Quick) : Type 0 where
  pub slow : result ≡ quick.Slow → (after ≡ regs) × (new ≡ old)
  pub told : (d : DrumWords) (f : ForkName) → means.fits old d → means.space old f ≡ Some space → IfDone result (λ post. does f (means.plain old d) (record { pages = means.plain new d; regs = after; post = post }))
  pub fits : (d : DrumWords) → means.fits old d → means.fits new d
  pub stays : StaysPut means old new
  pub loses : MayLose means old new
  pub pc : after.pc < 2 ^ 18
  pub accumulators : length after.ac ≡ length regs.ac

-- the rest of a unit, behind so many references at most
abbrev pub Rest : ℕ → Regs → Steps → Does
Rest most regs left f p a = (n : ℕ) → n ≤ most → glide f p regs.ac n left ≡ Some a

-- a deed at the end of a unit, behind all references but its own
abbrev pub Finish : Regs → ℕ → Deed → Does
Finish regs ac deed = Rest 15 regs (finishes regs ac deed)

-- an instruction with its own row
abbrev pub IsOwnRow : Instruction → Type 0
IsOwnRow i = i.row ≡ row_of i.op

-- the deed of an instruction with its accumulator, its address, the last word taken for that, and its operand
abbrev pub deed_in : Instruction → Regs → ℕ → ℕ → ℕ → ℕ → Deed
deed_in i regs ac e last m = deed_of i.row i.op regs ac e last m

-- the address of the word that it takes, if it takes one
abbrev pub taken_in : Instruction → Regs → ℕ → ℕ → Option ℕ
taken_in i regs ac e = taken_by i.row.family i.row.mode i.row.code (in_ac regs ac) e

-- an instruction that goes on with its effective address
abbrev pub is_addressed : Family → ℕ → Bool
is_addressed Illegal ac = false
is_addressed Local ac = false
is_addressed Monitor ac = false
is_addressed Xct ac = false
is_addressed Jrst ac = not (is_executive ac)
is_addressed family ac = true

-- one that takes a word at most, and does a deed
abbrev pub is_deed : Family → ℕ → Bool
is_deed ByteOp ac = false
is_deed family ac = is_addressed family ac

-- what it does from there on
abbrev pub behind_address : Family → TableRow → ℕ → Regs → ℕ → ℕ → ℕ → Steps
behind_address ByteOp row op regs ac e last = does_pointer row.code regs ac e
behind_address family row op regs ac e last = does row op regs ac e last

-- the rest of the unit of an opcode's instruction, behind its effective address: there are thirteen references at most, the
-- fetch and twelve indirect words
pub record Addressee (op : ℕ) (regs : Regs) (ac e last : ℕ) (f : ForkName) (p : NumberedPages) (a : After nat_cmp) : Type 0 where
  pub addressed : is_addressed (row_of op).family ac ≡ true
  pub runs : Rest 13 regs (behind_address (row_of op).family (row_of op) op regs ac e last) f p a
