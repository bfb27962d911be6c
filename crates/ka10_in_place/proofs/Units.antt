-- Units in place, from the fetch on.
use Rattle.std.proofs.Common.{◌≡◌, ℕ, Bool, true, false, cond, not, Some, refl, ◌∙◌, ap, arith}
use Rattle.std.specs.Ordering.{nat_cmp}
use Rattle.ka10_table.specs.declared.families.Family.{Family}
use Rattle.ka10_table.specs.declared.families.Family.TheVariants.{Illegal, Local, Monitor, Jrst, Xct}
use Rattle.ka10_table.specs.declared.families.TableRow.{TableRow}
use Rattle.ka10_table.specs.Rows.{row_of}
use Rattle.plain_units.specs.declared.channel.TheConstants.{ILLEGAL_INSTRUCTION}
use Rattle.machine_names.specs.declared.names.ForkName.{ForkName}
use Rattle.machine_names.specs.declared.names.Kind.TheVariants.{Execute}
use Rattle.plain_units.specs.declared.registers.Regs.{Regs}
use Rattle.plain_pages.specs.PlainPages.{NumberedPages}
use Rattle.plain_units.specs.Steps.{Steps, traps}
use Rattle.plain_units.specs.Addressing.{address, opcode, ac_field}
use Rattle.plain_units.specs.Instructions.{instruction, execute, executes, does, is_executive}
use Rattle.ka10_spots.specs.Once.{After}
use Rattle.ka10_spots.specs.Glide.{glide, Takes, Addressed}
use Rattle.ka10_in_place.specs.InPlace.{Addressee, is_addressed, behind_address}

-- an instruction with an address goes on with it
executes_addressed : (family : Family) (row : TableRow) (regs : Regs) (w : ℕ) (next : Bool → ℕ → Steps) → is_addressed family (ac_field w) ≡ true → executes family row false regs w next ≡ address regs.ac w (behind_address family row (opcode w) regs (ac_field w))
executes_addressed Illegal row regs w next h = absurd (cc h)
executes_addressed Local row regs w next h = absurd (cc h)
executes_addressed Monitor row regs w next h = absurd (cc h)
executes_addressed Xct row regs w next h = absurd (cc h)
executes_addressed Jrst row regs w next h = by (is_executive (ac_field w)) h
  where
    by : (b : Bool) → not b ≡ true → cond b (traps ILLEGAL_INSTRUCTION) (address regs.ac w (does row (opcode w) regs (ac_field w))) ≡ address regs.ac w (does row (opcode w) regs (ac_field w))
    by true e = absurd (cc e)
    by false e = refl
executes_addressed family row regs w next h = refl

-- a unit is its fetch, its address, and the rest
pub unit_glides : (f : ForkName) (p : NumberedPages) (regs : Regs) (w e last : ℕ) (a : After nat_cmp) → Takes f p regs.ac regs.pc Execute w → Addressed f p regs.ac 1 13 w e last
    → Addressee (opcode w) regs (ac_field w) e last f p a → glide f p regs.ac 0 (instruction regs) ≡ Some a
unfolding glide instruction execute
unit_glides f p regs w e last a t at here = rw (t.ready, ← t.is) rest
  where
    rest : glide f p regs.ac 1 (execute 17 false regs w) ≡ Some a
    rest = ap (glide f p regs.ac 1) (executes_addressed (row_of (opcode w)).family (row_of (opcode w)) regs w _ here.addressed)
        ∙ (at.runs (behind_address (row_of (opcode w)).family (row_of (opcode w)) (opcode w) regs (ac_field w)) ∙ here.runs at.count (omega arith))
