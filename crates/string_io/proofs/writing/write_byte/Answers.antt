use Rattle.std.proofs.Common.{◌≡◌, ℕ, true, false, ◌&&◌, ◌==◌, inl, refl, sym, ◌∙◌, ap, subst}
use Rattle.std.specs.Prelude.{Ok, None}
use Rattle.plain_files.specs.NamedFiles.{open_file}
use Rattle.plain_units.specs.Deeds.{in_ac}
use Rattle.plain_units.specs.declared.registers.Regs.{Regs}
use Rattle.plain_model.specs.declared.call.ByteChange.TheVariants.{Nothing, Put}
use Rattle.plain_model.specs.declared.call.End.TheVariants.{Done}
use Rattle.plain_model.specs.Calls.{ends, returning}
use Rattle.plain_model.specs.StringCalls.{behind_byte, next_pointer, puts_byte}
use Rattle.call_turns.specs.Turns.{FitsEnd}
use Rattle.ka10_unit.specs.Gathers.{framed}
use Rattle.page_contracts.specs.DrumWords.{DrumWords}
use Rattle.text_pointers.specs.Reading.{ReadsByte}
use Rattle.file_bytes.specs.Asking.{IsOpenAs, asked_on}
use Rattle.file_bytes.specs.Planning.{CanTurn}
use Rattle.string_io.proofs.Planned.{byte_plans}
use Rattle.string_io.proofs.Written.{ends_so, write_plans, write_stops}
use Rattle.string_io.proofs.writing.write_byte.Goals as goal

pub returns-then-ends_before-clause-told : goal.returns-then-ends_before-clause-told
returns-then-ends_before-clause-told g c input =
    let means = g.P.Pages.means in
    let who = c.args.who in
    let regs = c.args.regs.now in
    let tables = c.args.tables.now in
    let read = c.args.read in
    let j = open_file tables.dir c.args.jfn in
    let pointer : ℕ = next_pointer (in_ac regs 2) in
    let over : ((in_ac regs 3 == 0) && (read.byte == 0)) ≡ true = sym c.ends_before.ensures ∙ c.if-ends_before.true in
    let its : c.reading_plan.result.ending ≡ returning Nothing regs = c.reading_plan.ensures.ending ∙ c.returning.ensures.end in
    byte_plans means c.args.pages.now tables who regs pointer (λ q. puts_byte (asked_on who regs tables input q) j pointer) read c.reading_plan.result c.reading_plan.ensures.fork c.reading_plan.ensures.gather c.reading_plan.ensures.put
    (λ d fits. subst (λ (n : ℕ). ReadsByte who (framed means c.args.pages.now d) regs n (Ok read)) c.requires.pointer (c.requires.reads d fits))
    (subst (FitsEnd (CanTurn tables who.tty)) (sym its) (tt, c.returning.ensures.fits c.requires.regs, tt, tt))
    (λ q. ap ends its ∙ ends_so (asked_on who regs tables input q) j pointer read.byte over)

pub returns-in-Err-clause-told : goal.returns-in-Err-clause-told
returns-in-Err-clause-told g c input =
    let means = g.P.Pages.means in
    let who = c.args.who in
    let regs = c.args.regs.now in
    let tables = c.args.tables.now in
    let read = c.args.read in
    let jfn = c.args.jfn in
    let more : ((in_ac regs 3 == 0) && (read.byte == 0)) ≡ false = sym c.ends_before.ensures ∙ c.if-ends_before.false in
    let reads : (d : DrumWords) → means.fits c.args.pages.now d → ReadsByte who (framed means c.args.pages.now d) regs (next_pointer (in_ac regs 2)) (Ok read) =
    λ d fits. subst (λ (n : ℕ). ReadsByte who (framed means c.args.pages.now d) regs n (Ok read)) c.requires.pointer (c.requires.reads d fits) in
    write_stops means c.args.pages.now tables who regs input jfn c.requires.open.0.0.0.number read reads more c.place-page.result.0 c.place-page.ensures.page c.in-Err.stop
    (λ d fits. c.in-Err.ensures.told d who.tty fits (inl c.requires.serves.terminal) ((reads d fits).stands read refl).gathers)

pub returns-in-Ok-clause-told : goal.returns-in-Ok-clause-told
returns-in-Ok-clause-told g c input =
    let means = g.P.Pages.means in
    let who = c.args.who in
    let regs = c.args.regs.now in
    let tables = c.args.tables.now in
    let read = c.args.read in
    let jfn = c.args.jfn in
    let plan = c.reading_plan-in-Ok.result in
    let n = c.jfn_number.result in
    let pointer : ℕ = next_pointer (in_ac regs 2) in
    let more : ((in_ac regs 3 == 0) && (read.byte == 0)) ≡ false = sym c.ends_before.ensures ∙ c.if-ends_before.false in
    let reads : (d : DrumWords) → means.fits c.args.pages.now d → ReadsByte who (framed means c.args.pages.now d) regs pointer (Ok read) =
    λ d fits. subst (λ (k : ℕ). ReadsByte who (framed means c.args.pages.now d) regs k (Ok read)) c.requires.pointer (c.requires.reads d fits) in
    let ending : plan.ending ≡ Done (Put who.tty n read.byte) (behind_byte regs pointer read.byte) None None =
    c.reading_plan-in-Ok.ensures.ending ∙ ap (λ (r : Regs). Done (Put who.tty n read.byte) r None None) (c.behind_byte.ensures.is ∙ ap (λ (k : ℕ). behind_byte regs k read.byte) c.requires.pointer) in
    let held : IsOpenAs tables who.tty n jfn = subst (λ (k : ℕ). IsOpenAs tables who.tty k jfn) (sym c.jfn_number.ensures.number) c.requires.open in
    write_plans means c.args.pages.now tables who regs input jfn c.requires.open.0.0.0.number read reads more c.place-page.result.0 c.place-page.ensures.page plan c.reading_plan-in-Ok.ensures.fork c.reading_plan-in-Ok.ensures.gather c.reading_plan-in-Ok.ensures.put n ending
    (λ p. c.jfn_number.ensures.number) held.0.1 _
    (λ d fits. c.in-Ok.ensures.told d who.tty fits (inl c.requires.serves.terminal) ((reads d fits).stands read refl).gathers)
