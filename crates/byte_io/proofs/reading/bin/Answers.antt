use Rattle.std.proofs.Common.{◌≡◌, ℕ, Result, sym, ◌∙◌, ap, subst}
use Rattle.plain_files.specs.NamedFiles.{open_file}
use Rattle.plain_files.specs.OpenFiles.{OpenFile}
use Rattle.plain_model.specs.declared.call.TheConstants.{NOT_OPEN}
use Rattle.plain_model.specs.declared.call.End.TheVariants.{Refused}
use Rattle.plain_model.specs.Calls.{ends, given}
use Rattle.plain_model.specs.MapCalls.{is_read}
use Rattle.plain_model.specs.ByteCalls.{ByteTurn, bin, jfn_number, jfn_open, next_byte, next_character}
use Rattle.file_bytes.specs.Asking.{asked_on}
use Rattle.file_bytes.specs.Planning.{IsPlan}
use Rattle.file_bytes.proofs.Plans.{ends_at_once}
use Rattle.file_bytes.proofs.Tests.{at_file, at_input, at_output}
use Rattle.byte_io.proofs.reading.bin.Goals as goal

pub returns-then-number-eq-TERMINAL_INPUT-clause-told : goal.returns-then-number-eq-TERMINAL_INPUT-clause-told
returns-then-number-eq-TERMINAL_INPUT-clause-told g c d f =
    let tables = c.args.tables.now in
    let p = g.P.Pages.means.plain c.args.pages.now d in
    let a = asked_on c.args.who c.args.regs.now tables c.args.input.now.input p in
    ends_at_once tables c.args.who.tty p (bin a) c.next_character.result (c.next_character.ensures.fits tables)
    (ap ends (c.next_character.ensures.end tables a.pages)
    ∙ at_input (jfn_number a) (ends (next_character a 2 a.input)) (ends (Refused NOT_OPEN)) (given (jfn_open is_read a) (next_byte a)) (sym c.jfn_number-number.ensures.number ∙ c.if-number-eq-TERMINAL_INPUT.true))

pub returns-then-number-eq-TERMINAL_INPUT-clause-fits : goal.returns-then-number-eq-TERMINAL_INPUT-clause-fits
returns-then-number-eq-TERMINAL_INPUT-clause-fits g c = c.next_character.ensures.fits c.args.tables.now

pub returns-then-number-eq-TERMINAL_OUTPUT-clause-told : goal.returns-then-number-eq-TERMINAL_OUTPUT-clause-told
returns-then-number-eq-TERMINAL_OUTPUT-clause-told g c d f =
    let tables = c.args.tables.now in
    let p = g.P.Pages.means.plain c.args.pages.now d in
    let a = asked_on c.args.who c.args.regs.now tables c.args.input.now.input p in
    ends_at_once tables c.args.who.tty p (bin a) (Refused NOT_OPEN) tt
    (at_output (jfn_number a) (ends (next_character a 2 a.input)) (ends (Refused NOT_OPEN)) (given (jfn_open is_read a) (next_byte a)) (sym c.jfn_number-number.ensures.number ∙ c.if-number-eq-TERMINAL_OUTPUT.true))

pub returns-in-Ok-clause-told : goal.returns-in-Ok-clause-told
returns-in-Ok-clause-told g c d f =
    let tables = c.args.tables.now in
    let p = g.P.Pages.means.plain c.args.pages.now d in
    let scene = g.P.Pages.means.scene c.args.pages.now in
    let a = asked_on c.args.who c.args.regs.now tables c.args.input.now.input p in
    let j = open_file tables.dir c.in-Ok.jfn in
    let is : next_byte a j ≡ bin a =
    ap (λ (r : Result OpenFile ℕ). given r (next_byte a)) (c.in-Ok.ensures.held a.input a.pages)
    ∙ at_file (jfn_number a) (ends (next_character a 2 a.input)) (ends (Refused NOT_OPEN)) (given (jfn_open is_read a) (next_byte a))
    (λ e. c.if-number-eq-TERMINAL_INPUT.false (c.jfn_number-number.ensures.number ∙ e)) (λ e. c.if-number-eq-TERMINAL_OUTPUT.false (c.jfn_number-number.ensures.number ∙ e)) in
    subst (λ (t : ByteTurn). IsPlan tables scene c.args.who.tty p t c.next_byte.result) is (c.next_byte.ensures.told a.input d f)

pub returns-in-Err-clause-told : goal.returns-in-Err-clause-told
returns-in-Err-clause-told g c d f =
    let tables = c.args.tables.now in
    let p = g.P.Pages.means.plain c.args.pages.now d in
    let a = asked_on c.args.who c.args.regs.now tables c.args.input.now.input p in
    ends_at_once tables c.args.who.tty p (bin a) (Refused c.in-Err.code) tt
    (ap (λ (r : Result OpenFile ℕ). given r (next_byte a)) (c.in-Err.ensures.held a.input a.pages)
    ∙ at_file (jfn_number a) (ends (next_character a 2 a.input)) (ends (Refused NOT_OPEN)) (given (jfn_open is_read a) (next_byte a))
    (λ e. c.if-number-eq-TERMINAL_INPUT.false (c.jfn_number-number.ensures.number ∙ e)) (λ e. c.if-number-eq-TERMINAL_OUTPUT.false (c.jfn_number-number.ensures.number ∙ e)))
