use Rattle.std.proofs.Common.{ℕ, Result, sym, ◌∙◌, ap, subst}
use Rattle.plain_files.specs.NamedFiles.{open_file}
use Rattle.plain_files.specs.OpenFiles.{OpenFile}
use Rattle.plain_pages.specs.PlainPages.{NumberedPages}
use Rattle.plain_model.specs.declared.call.TheConstants.{NOT_OPEN}
use Rattle.plain_model.specs.declared.call.End.TheVariants.{Refused}
use Rattle.plain_model.specs.Calls.{ends, given}
use Rattle.plain_model.specs.MapCalls.{is_read}
use Rattle.plain_model.specs.ByteCalls.{ByteAsked, jfn_number, jfn_open}
use Rattle.plain_model.specs.StringCalls.{sin, takes_character, takes_from}
use Rattle.call_turns.specs.Turns.{FitsEnd}
use Rattle.ka10_unit.proofs.Adding.{sound_as}
use Rattle.file_bytes.specs.Asking.{asked_on}
use Rattle.file_bytes.specs.Planning.{CanTurn}
use Rattle.file_bytes.proofs.Tests.{at_file, at_input, at_output}
use Rattle.string_io.proofs.Planned.{once_plans, plans_by}
use Rattle.string_io.proofs.taking.sin.Goals as goal

pub returns-then-number-eq-TERMINAL_INPUT-clause-told : goal.returns-then-number-eq-TERMINAL_INPUT-clause-told
returns-then-number-eq-TERMINAL_INPUT-clause-told g c =
    let who = c.args.who in
    let tables = c.args.tables.now in
    let input = c.args.input.now.input in
    let a : NumberedPages → ByteAsked = asked_on who c.args.regs.now tables input in
    plans_by g.P.Pages.means c.args.pages.now tables who (λ p. takes_character (a p) input) (λ p. sin (a p)) c.takes_character.result
    (λ p. at_input (jfn_number (a p)) (takes_character (a p) input) (ends (Refused NOT_OPEN)) (given (jfn_open is_read (a p)) (takes_from (a p))) (sym c.jfn_number-number.ensures.number ∙ c.if-number-eq-TERMINAL_INPUT.true)) c.takes_character.ensures.told

pub returns-then-number-eq-TERMINAL_OUTPUT-clause-told : goal.returns-then-number-eq-TERMINAL_OUTPUT-clause-told
returns-then-number-eq-TERMINAL_OUTPUT-clause-told g c =
    let means = g.P.Pages.means in
    let who = c.args.who in
    let tables = c.args.tables.now in
    let input = c.args.input.now.input in
    let a : NumberedPages → ByteAsked = asked_on who c.args.regs.now tables input in
    once_plans means c.args.pages.now tables who (λ d fits. sound_as means c.args.pages.now _ (g.met.P.Pages.whole c.args.pages.now d fits) (g.met.P.Pages.agrees c.args.pages.now d fits)) c.at_once.result c.at_once.ensures.fork c.at_once.ensures.put c.at_once.ensures.none c.at_once.ensures.told
    (λ p. sin (a p)) (subst (FitsEnd (CanTurn tables who.tty)) (sym c.at_once.ensures.ending) tt)
    (λ p. ap ends c.at_once.ensures.ending ∙ at_output (jfn_number (a p)) (takes_character (a p) input) (ends (Refused NOT_OPEN)) (given (jfn_open is_read (a p)) (takes_from (a p))) (sym c.jfn_number-number.ensures.number ∙ c.if-number-eq-TERMINAL_OUTPUT.true))

pub returns-in-Ok-clause-told : goal.returns-in-Ok-clause-told
returns-in-Ok-clause-told g c =
    let who = c.args.who in
    let tables = c.args.tables.now in
    let input = c.args.input.now.input in
    let a : NumberedPages → ByteAsked = asked_on who c.args.regs.now tables input in
    let j = open_file tables.dir c.in-Ok.jfn in
    plans_by g.P.Pages.means c.args.pages.now tables who (λ p. takes_from (a p) j) (λ p. sin (a p)) c.takes_from.result
    (λ p. ap (λ (r : Result OpenFile ℕ). given r (takes_from (a p))) (c.in-Ok.ensures.held (a p).input (a p).pages)
    ∙ at_file (jfn_number (a p)) (takes_character (a p) input) (ends (Refused NOT_OPEN)) (given (jfn_open is_read (a p)) (takes_from (a p)))
    (λ e. c.if-number-eq-TERMINAL_INPUT.false (c.jfn_number-number.ensures.number ∙ e)) (λ e. c.if-number-eq-TERMINAL_OUTPUT.false (c.jfn_number-number.ensures.number ∙ e))) (c.takes_from.ensures.told input)

pub returns-in-Err-clause-told : goal.returns-in-Err-clause-told
returns-in-Err-clause-told g c =
    let means = g.P.Pages.means in
    let who = c.args.who in
    let tables = c.args.tables.now in
    let input = c.args.input.now.input in
    let a : NumberedPages → ByteAsked = asked_on who c.args.regs.now tables input in
    once_plans means c.args.pages.now tables who (λ d fits. sound_as means c.args.pages.now _ (g.met.P.Pages.whole c.args.pages.now d fits) (g.met.P.Pages.agrees c.args.pages.now d fits)) c.at_once-in-Err.result c.at_once-in-Err.ensures.fork c.at_once-in-Err.ensures.put c.at_once-in-Err.ensures.none c.at_once-in-Err.ensures.told
    (λ p. sin (a p)) (subst (FitsEnd (CanTurn tables who.tty)) (sym c.at_once-in-Err.ensures.ending) tt)
    (λ p. ap ends c.at_once-in-Err.ensures.ending ∙ ap (λ (r : Result OpenFile ℕ). given r (takes_from (a p))) (c.in-Err.ensures.held (a p).input (a p).pages)
    ∙ at_file (jfn_number (a p)) (takes_character (a p) input) (ends (Refused NOT_OPEN)) (given (jfn_open is_read (a p)) (takes_from (a p)))
    (λ e. c.if-number-eq-TERMINAL_INPUT.false (c.jfn_number-number.ensures.number ∙ e)) (λ e. c.if-number-eq-TERMINAL_OUTPUT.false (c.jfn_number-number.ensures.number ∙ e)))
