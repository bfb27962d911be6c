use Rattle.std.proofs.Common.{◌≡◌, ℕ, true, false, nat_lt, sym, ◌∙◌, ap, subst}
use Rattle.std.specs.Prelude.{Err}
use Rattle.plain_files.specs.Bytes.{most_bytes}
use Rattle.plain_files.specs.NamedFiles.{open_file}
use Rattle.plain_units.specs.Deeds.{in_ac}
use Rattle.plain_model.specs.Calls.{ends}
use Rattle.plain_model.specs.StringCalls.{next_pointer, puts_byte, with_next}
use Rattle.call_turns.specs.Turns.{FitsEnd}
use Rattle.ka10_unit.specs.Gathers.{framed}
use Rattle.ka10_unit.proofs.Adding.{sound_as}
use Rattle.text_pointers.specs.Reading.{ReadsByte}
use Rattle.file_bytes.specs.Asking.{asked_on}
use Rattle.file_bytes.specs.Planning.{CanTurn}
use Rattle.file_bytes.proofs.Tests.{is_below, not_below}
use Rattle.string_io.specs.Writing.{writes_to}
use Rattle.string_io.proofs.Planned.{byte_stops, once_plans, plans_by}
use Rattle.string_io.proofs.Written.{has_place, no_place}
use Rattle.string_io.proofs.writing.writes.Goals as goal

pub returns-then-jfn-most_bytes-clause-told : goal.returns-then-jfn-most_bytes-clause-told
returns-then-jfn-most_bytes-clause-told g c input =
    let means = g.P.Pages.means in
    let who = c.args.who in
    let regs = c.args.regs.now in
    let tables = c.args.tables.now in
    let j = open_file tables.dir c.args.jfn in
    let none : nat_lt j.at (most_bytes j.size) ≡ false = ap (nat_lt j.at) (sym c.most_bytes.ensures) ∙ not_below j.at c.most_bytes.result c.if-jfn-most_bytes.true in
    once_plans means c.args.pages.now tables who (λ d fits. sound_as means c.args.pages.now _ (g.met.P.Pages.whole c.args.pages.now d fits) (g.met.P.Pages.agrees c.args.pages.now d fits)) c.at_once.result c.at_once.ensures.fork c.at_once.ensures.put c.at_once.ensures.none c.at_once.ensures.told
    (λ p. writes_to (asked_on who regs tables input p) j) (subst (FitsEnd (CanTurn tables who.tty)) (sym c.at_once.ensures.ending) tt)
    (λ p. ap ends c.at_once.ensures.ending ∙ no_place (asked_on who regs tables input p) j none)

pub returns-in-Err-clause-told : goal.returns-in-Err-clause-told
returns-in-Err-clause-told g c input =
    let means = g.P.Pages.means in
    let who = c.args.who in
    let regs = c.args.regs.now in
    let tables = c.args.tables.now in
    let j = open_file tables.dir c.args.jfn in
    let pointer : ℕ = next_pointer (in_ac regs 2) in
    let some : nat_lt j.at (most_bytes j.size) ≡ true = ap (nat_lt j.at) (sym c.most_bytes.ensures) ∙ is_below j.at c.most_bytes.result c.if-jfn-most_bytes.false in
    plans_by means c.args.pages.now tables who (λ p. let a = asked_on who regs tables input p in with_next a (puts_byte a j)) (λ p. writes_to (asked_on who regs tables input p) j) (Err c.in-Err.stop) (λ p. has_place (asked_on who regs tables input p) j some)
    (byte_stops means c.args.pages.now tables who regs pointer (λ q. puts_byte (asked_on who regs tables input q) j pointer) c.in-Err.stop
    (λ d fits. subst (λ (n : ℕ). ReadsByte who (framed means c.args.pages.now d) regs n (Err c.in-Err.stop)) c.pointer_in-pointer.ensures (c.in-Err.ensures.told d fits)))

pub returns-in-Ok-clause-told : goal.returns-in-Ok-clause-told
returns-in-Ok-clause-told g c input =
    let means = g.P.Pages.means in
    let who = c.args.who in
    let regs = c.args.regs.now in
    let tables = c.args.tables.now in
    let j = open_file tables.dir c.args.jfn in
    let some : nat_lt j.at (most_bytes j.size) ≡ true = ap (nat_lt j.at) (sym c.most_bytes.ensures) ∙ is_below j.at c.most_bytes.result c.if-jfn-most_bytes.false in
    plans_by means c.args.pages.now tables who (λ p. let a = asked_on who regs tables input p in with_next a (puts_byte a j)) (λ p. writes_to (asked_on who regs tables input p) j) c.write_byte.result (λ p. has_place (asked_on who regs tables input p) j some)
    (c.write_byte.ensures.told input)
