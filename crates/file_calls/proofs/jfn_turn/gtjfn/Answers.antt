use Rattle.std.proofs.Common.{ℕ, refl, sym, subst, arith}
use Rattle.std.specs.Prelude.{Ok, Err}
use Rattle.machine_names.specs.declared.names.ForkName.{ForkName}
use Rattle.plain_model.specs.FileCalls.{gtjfn}
use Rattle.call_turns.specs.declared.answer.Answer.{Answer}
use Rattle.ka10_unit.proofs.Carried.{grows_more, grows_none, grows_within}
use Rattle.ka10_unit.specs.Carrying.{Grows}
use Rattle.ka10_unit.specs.Gathers.{framed}
use Rattle.text_pointers.specs.Reading.{ReadsText, Stands}
use Rattle.file_calls.specs.Asking.{asked_of}
use Rattle.file_calls.specs.Turning.{Stays, Turned}
use Rattle.file_calls.proofs.Turns.{stays_over, text_over, text_stops}
use Rattle.file_calls.proofs.jfn_turn.gtjfn.Goals as goal

pub returns-in-Err-clause-told : goal.returns-in-Err-clause-told
returns-in-Err-clause-told g c =
    let means = g.P.Pages.means in
    let tables = c.args.tables.now in
    let a = asked_of c.args.who c.args.regs.now c.args.user.now tables in
    subst (λ (r : Answer). Turned means c.args.pages.now c.args.pages.now tables tables a r (gtjfn a)) (sym c.stopped.ensures.answer)
    (text_stops means c.args.pages.now tables a c.text_at.new.scratch.reader c.in-Err.stop
    (λ d fits. subst (λ (n : ℕ). ReadsText c.args.who (framed means c.args.pages.now d) c.args.regs.now n c.text_at.new.scratch.reader (Err c.in-Err.stop)) c.pointer.ensures (c.in-Err.ensures.told d fits)))

pub returns-in-Err-clause-grows : goal.returns-in-Err-clause-grows
returns-in-Err-clause-grows g c = let p = c.args.pages.now in grows_within g.P.Pages.means c.args.who.tty 0 128 p p (omega arith) (grows_none g.P.Pages.means c.args.who.tty p)

pub returns-in-Ok-clause-told : goal.returns-in-Ok-clause-told
returns-in-Ok-clause-told g c =
    let means = g.P.Pages.means in
    let tables = c.args.tables.now in
    let old = c.args.pages.now in
    let text = c.in-Ok.text in
    let reader = c.text_at.new.scratch.reader in
    text_over means old c.make_text.new.pages c.end.new.pages tables c.end.new.tables (asked_of c.args.who c.args.regs.now c.args.user.now tables) c.end.result c.named-ending.result c.end.ensures.answer reader text
    (λ d fits.
    let stands = (c.in-Ok.ensures.told d fits).stands text refl in
    let told = c.make_text.ensures.told d fits in
    (told.0, told.1 (subst (λ (f : ForkName). Stands f (framed means old d) reader) (sym stands.fork) stands)))
    (λ d fits. subst (λ (n : ℕ). ReadsText c.args.who (framed means old d) c.args.regs.now n reader (Ok text)) c.pointer.ensures (c.in-Ok.ensures.told d fits)) c.named-ending.ensures.turn c.end.ensures.told

pub returns-in-Ok-clause-grows : goal.returns-in-Ok-clause-grows
returns-in-Ok-clause-grows g c =
    let means = g.P.Pages.means in
    let old = c.args.pages.now in
    let mid = c.make_text.new.pages in
    grows_more means c.args.who.tty 128 0 old mid c.end.new.pages (subst (λ (f : ForkName). Grows means f.tty 128 old mid) c.in-Ok.ensures.fork c.make_text.ensures.grows) c.end.ensures.grows

pub returns-in-Ok-clause-stays : goal.returns-in-Ok-clause-stays
returns-in-Ok-clause-stays g c =
    let means = g.P.Pages.means in
    let tables = c.args.tables.now in
    let e = c.named-ending.result in
    subst (Stays c.args.pages.now c.end.new.pages tables c.end.new.tables) (sym c.end.ensures.answer)
    (stays_over means c.make_text.new.pages c.end.new.pages tables c.end.new.tables c.args.pages.now e c.make_text.ensures.stays c.end.ensures.told.stays)
