use Rattle.std.proofs.Common.{ℕ, sym, ◌∙◌, ap, subst, arith, rules}
use Rattle.plain_model.specs.Calls.{ends}
use Rattle.plain_model.specs.StringCalls.{string_call}
use Rattle.call_turns.specs.Turns.{FitsEnd}
use Rattle.ka10_unit.proofs.Adding.{sound_as}
use Rattle.file_bytes.specs.Asking.{asked_on}
use Rattle.file_bytes.specs.Planning.{CanTurn}
use Rattle.string_io.specs.Planning.{Plans}
use Rattle.string_io.proofs.Planned.{once_plans}
use Rattle.string_io.proofs.Turns.{no_call}
use Rattle.string_io.proofs.turn.planned.Goals as goal

pub returns-in-43-clause-told : goal.returns-in-43-clause-told
returns-in-43-clause-told g c =
    let who = c.args.who in
    let tables = c.args.tables.now in
    let input = c.args.input.now.input in
    subst (λ (n : ℕ). Plans g.P.Pages.means c.args.pages.now tables who (λ p. string_call n (asked_on who c.args.regs.now tables input p)) c.sout.result) (sym c.in-43.is) (c.sout.ensures.told input)

pub returns-in-62-clause-told : goal.returns-in-62-clause-told
returns-in-62-clause-told g c =
    let who = c.args.who in
    let tables = c.args.tables.now in
    let input = c.args.input.now.input in
    subst (λ (n : ℕ). Plans g.P.Pages.means c.args.pages.now tables who (λ p. string_call n (asked_on who c.args.regs.now tables input p)) c.psout.result) (sym c.in-62.is) (c.psout.ensures.told tables input)

pub returns-in_default-clause-told : goal.returns-in_default-clause-told
returns-in_default-clause-told g c =
    let means = g.P.Pages.means in
    let who = c.args.who in
    let regs = c.args.regs.now in
    let tables = c.args.tables.now in
    let input = c.args.input.now.input in
    once_plans means c.args.pages.now tables who (λ d fits. sound_as means c.args.pages.now _ (g.met.P.Pages.whole c.args.pages.now d fits) (g.met.P.Pages.agrees c.args.pages.now d fits)) c.at_once.result c.at_once.ensures.fork c.at_once.ensures.put c.at_once.ensures.none c.at_once.ensures.told
    (λ p. string_call c.args.number (asked_on who regs tables input p)) (subst (FitsEnd (CanTurn tables who.tty)) (sym c.at_once.ensures.ending) (omega arith))
    (λ p. ap ends c.at_once.ensures.ending ∙ no_call c.args.number (asked_on who regs tables input p) (grind (arith, rules, c.in_default)) (grind (arith, rules, c.in_default)) (grind (arith, rules, c.in_default)))
