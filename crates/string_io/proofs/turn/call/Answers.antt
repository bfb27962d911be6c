use Rattle.std.proofs.Common.{◌≡◌, refl, sym, subst, arith}
use Rattle.machine_names.specs.declared.names.ForkName.{ForkName}
use Rattle.plain_model.specs.StringCalls.{string_call}
use Rattle.ka10_unit.proofs.Carried.{grows_none, grows_within}
use Rattle.ka10_unit.specs.Gathers.{framed}
use Rattle.file_bytes.specs.Asking.{asked_on}
use Rattle.string_io.specs.Depositing.{CanCarry, pages_planned}
use Rattle.string_io.specs.Planning.{OpensEnd}
use Rattle.string_io.proofs.Turns.{stops_so, went}
use Rattle.string_io.proofs.turn.call.Goals as goal

pub returns-in-Ok-clause-told : goal.returns-in-Ok-clause-told
returns-in-Ok-clause-told g c =
    let means = g.P.Pages.means in
    let old = c.args.pages.now in
    let who = c.args.who in
    let tables = c.args.tables.now in
    let line = c.args.input.now in
    let plan = c.in-Ok.plan in
    let fork : plan.fork ≡ who = c.in-Ok.ensures.fits.0 in
    let plans = c.in-Ok.ensures.told in
    went means old tables line who (λ p. string_call c.args.number (asked_on who c.args.regs.now tables line.input p)) c.carry_out.new.pages c.carry_out.new.tables c.carry_out.new.input plan fork plans
    (λ d fits. c.carry_out.ensures.told d fits
    (subst (λ (f : ForkName). CanCarry f (framed means old d) plan) (sym fork) (plans.stands plan d refl fits))
    (subst (λ (f : ForkName). OpensEnd tables (framed means old d) f.tty (pages_planned (framed means old d) plan) plan.ending) (sym fork) (plans.opens plan d refl fits)))
    c.carry_out.result c.carry_out.ensures.answer

pub returns-in-Err-clause-told : goal.returns-in-Err-clause-told
returns-in-Err-clause-told g c =
    let who = c.args.who in
    let tables = c.args.tables.now in
    let line = c.args.input.now in
    stops_so g.P.Pages.means c.args.pages.now tables line who (λ p. string_call c.args.number (asked_on who c.args.regs.now tables line.input p)) c.in-Err.stop c.in-Err.ensures.told c.stopped.result c.stopped.ensures.answer

pub returns-in-Err-clause-grows : goal.returns-in-Err-clause-grows
returns-in-Err-clause-grows g c = let p = c.args.pages.now in grows_within g.P.Pages.means c.args.who.tty 0 129 p p (omega arith) (grows_none g.P.Pages.means c.args.who.tty p)
