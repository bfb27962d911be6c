use Rattle.std.proofs.Common.{◌≡◌, ℕ, Result, sym, ◌∙◌, ap, subst}
use Rattle.plain_files.specs.NamedFiles.{open_file}
use Rattle.plain_files.specs.OpenFiles.{OpenFile}
use Rattle.plain_model.specs.declared.call.TheConstants.{NOT_OPEN}
use Rattle.plain_model.specs.declared.call.End.TheVariants.{Refused}
use Rattle.plain_model.specs.Calls.{ends, given}
use Rattle.plain_model.specs.MapCalls.{is_written}
use Rattle.plain_model.specs.ByteCalls.{ByteTurn, bout, jfn_number, jfn_open, prints_byte, put_byte}
use Rattle.file_bytes.specs.Asking.{asked_on}
use Rattle.file_bytes.specs.Planning.{IsPlan}
use Rattle.file_bytes.proofs.Plans.{can_turn, ends_at_once}
use Rattle.file_bytes.proofs.Tests.{at_file, at_input, at_output}
use Rattle.byte_io.proofs.writing.bout.Goals as goal

pub returns-then-number-eq-TERMINAL_INPUT-clause-told : goal.returns-then-number-eq-TERMINAL_INPUT-clause-told
returns-then-number-eq-TERMINAL_INPUT-clause-told g c input d f =
    let tables = c.args.tables.now in
    let p = g.P.Pages.means.plain c.args.pages.now d in
    let a = asked_on c.args.who c.args.regs.now tables input p in
    ends_at_once tables c.args.who.tty p (bout a) (Refused NOT_OPEN) tt
    (at_input (jfn_number a) (ends (Refused NOT_OPEN)) (ends (prints_byte a)) (given (jfn_open is_written a) (put_byte a)) (sym c.jfn_number-number.ensures.number ∙ c.if-number-eq-TERMINAL_INPUT.true))

pub returns-then-number-eq-TERMINAL_OUTPUT-clause-told : goal.returns-then-number-eq-TERMINAL_OUTPUT-clause-told
returns-then-number-eq-TERMINAL_OUTPUT-clause-told g c input d f =
    let tables = c.args.tables.now in
    let p = g.P.Pages.means.plain c.args.pages.now d in
    let a = asked_on c.args.who c.args.regs.now tables input p in
    ends_at_once tables c.args.who.tty p (bout a) c.prints_byte.result (c.prints_byte.ensures.fits c.args.who tables)
    (ap ends (c.prints_byte.ensures.end c.args.who tables input a.pages)
    ∙ at_output (jfn_number a) (ends (Refused NOT_OPEN)) (ends (prints_byte a)) (given (jfn_open is_written a) (put_byte a)) (sym c.jfn_number-number.ensures.number ∙ c.if-number-eq-TERMINAL_OUTPUT.true))

pub returns-then-number-eq-TERMINAL_OUTPUT-clause-fits : goal.returns-then-number-eq-TERMINAL_OUTPUT-clause-fits
returns-then-number-eq-TERMINAL_OUTPUT-clause-fits g c =
    can_turn c.args.tables.now c.args.who.tty g.P.Pages.means c.args.pages.now c.prints_byte.result (c.prints_byte.ensures.fits c.args.who c.args.tables.now)

pub returns-in-Ok-clause-told : goal.returns-in-Ok-clause-told
returns-in-Ok-clause-told g c input d f =
    let tables = c.args.tables.now in
    let p = g.P.Pages.means.plain c.args.pages.now d in
    let scene = g.P.Pages.means.scene c.args.pages.now in
    let a = asked_on c.args.who c.args.regs.now tables input p in
    let j = open_file tables.dir c.in-Ok.jfn in
    let is : put_byte a j ≡ bout a =
    ap (λ (r : Result OpenFile ℕ). given r (put_byte a)) (c.in-Ok.ensures.held input a.pages)
    ∙ at_file (jfn_number a) (ends (Refused NOT_OPEN)) (ends (prints_byte a)) (given (jfn_open is_written a) (put_byte a))
    (λ e. c.if-number-eq-TERMINAL_INPUT.false (c.jfn_number-number.ensures.number ∙ e)) (λ e. c.if-number-eq-TERMINAL_OUTPUT.false (c.jfn_number-number.ensures.number ∙ e)) in
    subst (λ (t : ByteTurn). IsPlan tables scene c.args.who.tty p t c.put_byte.result) is (c.put_byte.ensures.told input d f)

pub returns-in-Err-clause-told : goal.returns-in-Err-clause-told
returns-in-Err-clause-told g c input d f =
    let tables = c.args.tables.now in
    let p = g.P.Pages.means.plain c.args.pages.now d in
    let a = asked_on c.args.who c.args.regs.now tables input p in
    ends_at_once tables c.args.who.tty p (bout a) (Refused c.in-Err.code) tt
    (ap (λ (r : Result OpenFile ℕ). given r (put_byte a)) (c.in-Err.ensures.held input a.pages)
    ∙ at_file (jfn_number a) (ends (Refused NOT_OPEN)) (ends (prints_byte a)) (given (jfn_open is_written a) (put_byte a))
    (λ e. c.if-number-eq-TERMINAL_INPUT.false (c.jfn_number-number.ensures.number ∙ e)) (λ e. c.if-number-eq-TERMINAL_OUTPUT.false (c.jfn_number-number.ensures.number ∙ e)))
