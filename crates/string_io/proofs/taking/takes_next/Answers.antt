use Rattle.std.proofs.Common.{◌≡◌, ℕ, subst}
use Rattle.plain_units.specs.Deeds.{in_ac}
use Rattle.plain_units.specs.declared.registers.Regs.{Regs}
use Rattle.plain_model.specs.StringCalls.{behind_byte, next_pointer}
use Rattle.call_turns.specs.Turns.{FitsEnd}
use Rattle.ka10_unit.specs.Gathers.{framed}
use Rattle.file_bytes.specs.Planning.{CanTurn}
use Rattle.string_io.specs.declared.plan.Plan.{Plan}
use Rattle.string_io.specs.Depositing.{Deposits}
use Rattle.string_io.proofs.Planned.{deposit_plans, fits_one, result_fits}
use Rattle.string_io.proofs.taking.takes_next.Goals as goal

pub returns-clause-told : goal.returns-clause-told
returns-clause-told g c tables input can =
    let means = g.P.Pages.means in
    let who = c.args.who in
    let regs = c.args.regs.now in
    let change = c.args.change in
    let byte = c.args.byte in
    let result = c.deposits.result in
    let p : ℕ = next_pointer (in_ac regs 2) in
    deposit_plans means c.args.pages.now tables who change regs (behind_byte regs p byte) p byte result
    (λ d fits.
    subst (λ (n : ℕ). Deposits who (framed means c.args.pages.now d) change regs (behind_byte regs n byte) n byte result) c.pointer_in-pointer.ensures
    (subst (λ (told : Regs). Deposits who (framed means c.args.pages.now d) change regs told c.pointer_in-pointer.result byte result) c.behind_byte.ensures.is (c.deposits.ensures.told d fits)))
    (λ plan is. fits_one (CanTurn tables who.tty) change can plan.ending (result_fits (λ (x : Plan). FitsEnd (λ what. what ≡ change) x.ending) result c.deposits.ensures.fits plan is))
