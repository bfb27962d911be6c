use Rattle.std.proofs.Common.{◌≡◌, ℕ, sym, ◌∙◌, ap, subst}
use Rattle.std.specs.Prelude.{Ok, Err}
use Rattle.plain_pages.specs.PlainPages.{NumberedPages}
use Rattle.plain_units.specs.Deeds.{in_ac}
use Rattle.plain_model.specs.Calls.{ends}
use Rattle.plain_model.specs.ByteCalls.{ByteTurn}
use Rattle.plain_model.specs.StringCalls.{next_pointer, prints_next}
use Rattle.call_turns.specs.Turns.{FitsEnd}
use Rattle.ka10_unit.specs.Gathers.{framed}
use Rattle.text_pointers.specs.Reading.{ReadsByte}
use Rattle.file_bytes.specs.Asking.{asked_on}
use Rattle.file_bytes.specs.Planning.{CanTurn}
use Rattle.string_io.proofs.Planned.{byte_plans, byte_stops, fits_end}
use Rattle.string_io.proofs.printing.psout.Goals as goal

pub returns-in-Err-clause-told : goal.returns-in-Err-clause-told
returns-in-Err-clause-told g c tables input =
    let means = g.P.Pages.means in
    let who = c.args.who in
    let regs = c.args.regs.now in
    let pointer : ℕ = next_pointer (in_ac regs 1) in
    let next : NumberedPages → ℕ → ByteTurn = λ q byte. ends (prints_next (asked_on who regs tables input q) pointer byte) in
    byte_stops means c.args.pages.now tables who regs pointer next c.in-Err.stop
    (λ d fits. subst (λ (n : ℕ). ReadsByte who (framed means c.args.pages.now d) regs n (Err c.in-Err.stop)) c.pointer_in-pointer.ensures (c.in-Err.ensures.told d fits))

pub returns-in-Ok-clause-told : goal.returns-in-Ok-clause-told
returns-in-Ok-clause-told g c tables input =
    let means = g.P.Pages.means in
    let who = c.args.who in
    let regs = c.args.regs.now in
    let read = c.in-Ok.read in
    let pointer : ℕ = next_pointer (in_ac regs 1) in
    let next : NumberedPages → ℕ → ByteTurn = λ q byte. ends (prints_next (asked_on who regs tables input q) pointer byte) in
    let its : c.reading_plan.result.ending ≡ c.prints_next-ending.result = c.reading_plan.ensures.ending in
    byte_plans means c.args.pages.now tables who regs pointer next read c.reading_plan.result c.reading_plan.ensures.fork c.reading_plan.ensures.gather c.reading_plan.ensures.put
    (λ d fits. subst (λ (n : ℕ). ReadsByte who (framed means c.args.pages.now d) regs n (Ok read)) c.pointer_in-pointer.ensures (c.in-Ok.ensures.told d fits))
    (subst (FitsEnd (CanTurn tables who.tty)) (sym its) (c.prints_next-ending.ensures.fits tables who))
    (λ q. ap ends its ∙ ap ends (c.prints_next-ending.ensures.end who tables input (asked_on who regs tables input q).pages) ∙ ap (λ (n : ℕ). ends (prints_next (asked_on who regs tables input q) n read.byte)) c.pointer_in-pointer.ensures)

pub returns-in-Ok-clause-fits : goal.returns-in-Ok-clause-fits
returns-in-Ok-clause-fits g c tables = (
  c.reading_plan.ensures.fork ∙ c.in-Ok.ensures.fork,
  fits_end tables c.args.who.tty c.reading_plan.result.ending (subst (FitsEnd (CanTurn tables c.args.who.tty)) (sym c.reading_plan.ensures.ending) (c.prints_next-ending.ensures.fits tables c.args.who)),
)
