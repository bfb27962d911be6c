use Rattle.std.proofs.Common.{◌≡◌, ℕ, ◌+◌, ◌≤◌, true, false, nat_le, refl, sym, ◌∙◌, ap, subst, arith}
use Rattle.machine_names.specs.Orders.{file_page}
use Rattle.plain_files.specs.Bytes.{most_bytes}
use Rattle.plain_files.specs.NamedFiles.{open_file}
use Rattle.plain_pages.specs.References.{in_file, word_at}
use Rattle.plain_model.specs.declared.call.ByteChange.TheVariants.{Move}
use Rattle.plain_model.specs.declared.call.End.{End}
use Rattle.plain_model.specs.declared.call.ByteChange.{ByteChange}
use Rattle.plain_model.specs.Calls.{ends, returning, with_ac}
use Rattle.plain_model.specs.ByteCalls.{byte_offset, byte_page, end_for, jfn_number, next_byte, takes_byte}
use Rattle.word36.specs.Bytes.{loaded}
use Rattle.call_turns.specs.Telling.{page_need}
use Rattle.call_turns.specs.Turns.{FitsEnd}
use Rattle.call_turns.proofs.Looks.{needed_is, told_is}
use Rattle.file_bytes.specs.Asking.{IsOpenAs, asked_on}
use Rattle.file_bytes.specs.Planning.{CanTurn}
use Rattle.file_bytes.proofs.Ending.{can_move}
use Rattle.file_bytes.proofs.NextByte.{ended, read_is, read_needs}
use Rattle.file_bytes.proofs.Plans.{comes_so, ends_at_once}
use Rattle.file_bytes.proofs.Tests.{is_beyond, is_within}
use Rattle.byte_io.proofs.reading.next_byte.Goals as goal

pub returns-then-end_of-jfn-clause-told : goal.returns-then-end_of-jfn-clause-told
returns-then-end_of-jfn-clause-told g c input d f =
    let tables = c.args.tables.now in
    let p = g.P.Pages.means.plain c.args.pages.now d in
    let a = asked_on c.args.who c.args.regs.now tables input p in
    let j = open_file tables.dir c.args.jfn in
    let over : nat_le (end_for a j) j.at ≡ true = ap (λ n. nat_le n j.at) (sym c.end_of.ensures.end) ∙ is_within c.end_of.result j.at c.if-end_of-jfn.true in
    ends_at_once tables c.args.who.tty p (next_byte a j) c.at_end.result (c.at_end.ensures.fits c.args.who tables)
    (ap ends (c.at_end.ensures.end c.args.who tables input a.pages) ∙ ended tables (g.P.Pages.means.scene c.args.pages.now) p a j over)

pub returns-then-end_of-jfn-clause-fits : goal.returns-then-end_of-jfn-clause-fits
returns-then-end_of-jfn-clause-fits g c = c.at_end.ensures.fits c.args.who c.args.tables.now

pub returns-in-Ok-clause-fits : goal.returns-in-Ok-clause-fits
returns-in-Ok-clause-fits g c =
    let tables = c.args.tables.now in
    let t = c.args.who.tty in
    let jfn = c.args.jfn in
    let n = c.jfn_number.result in
    let held : IsOpenAs tables t n jfn = subst (λ (k : ℕ). IsOpenAs tables t k jfn) (sym c.jfn_number.ensures.number) c.requires.open in
    let few : jfn.at + 1 ≤ most_bytes jfn.size = omega (arith, c.if-end_of-jfn.false, c.end_of.ensures.room) in
    subst (FitsEnd (CanTurn tables t)) (sym c.returning.ensures.end) ((refl, can_move tables t n jfn (jfn.at + 1) held few), c.returning.ensures.fits (c.with_ac.ensures.fits c.requires.regs), tt, tt)

pub returns-in-Ok-clause-told : goal.returns-in-Ok-clause-told
returns-in-Ok-clause-told g c input d f =
    let tables = c.args.tables.now in
    let p = g.P.Pages.means.plain c.args.pages.now d in
    let scene = g.P.Pages.means.scene c.args.pages.now in
    let a = asked_on c.args.who c.args.regs.now tables input p in
    let jfn = c.args.jfn in
    let j = open_file tables.dir jfn in
    let more : nat_le (end_for a j) j.at ≡ false = ap (λ n. nat_le n j.at) (sym c.end_of.ensures.end) ∙ is_beyond c.end_of.result j.at c.if-end_of-jfn.false in
    let spot = in_file (file_page jfn.file.0 c.place-page.result.0) in
    let word : c.in-Ok.word ≡ word_at p spot c.place-page.result.1 = (told_is (page_need scene p spot) (word_at p spot c.place-page.result.1) c.in-Ok.word (c.in-Ok.ensures.told d f)).1 in
    let there : c.in-Ok.word ≡ word_at p (in_file (file_page jfn.file.0 (byte_page j))) (byte_offset j) =
    word ∙ ap (λ (page : ℕ). word_at p (in_file (file_page jfn.file.0 page)) c.place-page.result.1) c.place-page.ensures.page ∙ ap (word_at p (in_file (file_page jfn.file.0 (byte_page j)))) c.place-page.ensures.offset in
    let is : c.returning.result ≡ takes_byte a j c.in-Ok.word =
    c.returning.ensures.end ∙ ap (λ (n : ℕ). returning (Move c.args.who.tty n (jfn.at + 1)) c.with_ac.result) c.jfn_number.ensures.number
    ∙ ap (returning (Move c.args.who.tty (jfn_number a) (jfn.at + 1))) (c.with_ac.ensures.with ∙ ap (with_ac c.args.regs.now 2) (c.load.ensures ∙ ap (λ (q : ℕ). loaded q c.in-Ok.word) c.place-page.ensures.pointer)) in
    comes_so tables c.args.who.tty p (next_byte a j) c.returning.result (returns-in-Ok-clause-fits g c)
    (read_is tables scene p a j more jfn.file.0 c.requires.open.0.0.0.number c.in-Ok.word there ∙ ap (λ (e : End ByteChange). record { end = e; pages = p }) (sym is))

pub returns-in-Err-clause-told : goal.returns-in-Err-clause-told
returns-in-Err-clause-told g c input d f =
    let tables = c.args.tables.now in
    let p = g.P.Pages.means.plain c.args.pages.now d in
    let scene = g.P.Pages.means.scene c.args.pages.now in
    let a = asked_on c.args.who c.args.regs.now tables input p in
    let jfn = c.args.jfn in
    let j = open_file tables.dir jfn in
    let more : nat_le (end_for a j) j.at ≡ false = ap (λ n. nat_le n j.at) (sym c.end_of.ensures.end) ∙ is_beyond c.end_of.result j.at c.if-end_of-jfn.false in
    let spot = in_file (file_page jfn.file.0 c.place-page.result.0) in
    read_needs tables scene p a j more jfn.file.0 c.requires.open.0.0.0.number c.in-Err.need
    (ap (λ (page : ℕ). page_need scene p (in_file (file_page jfn.file.0 page))) (sym c.place-page.ensures.page) ∙ needed_is (page_need scene p spot) (word_at p spot c.place-page.result.1) c.in-Err.need (c.in-Err.ensures.told d f))
