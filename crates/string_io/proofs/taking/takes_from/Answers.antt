use Rattle.std.proofs.Common.{◌≡◌, ℕ, ◌+◌, ◌≤◌, true, false, nat_le, refl, sym, ◌∙◌, ap, subst, arith}
use Rattle.std.specs.Prelude.{Err}
use Rattle.word36.specs.Bytes.{loaded}
use Rattle.machine_names.specs.Orders.{file_page}
use Rattle.plain_files.specs.Bytes.{most_bytes}
use Rattle.plain_files.specs.NamedFiles.{open_file}
use Rattle.plain_pages.specs.PlainPages.{NumberedPages}
use Rattle.plain_pages.specs.References.{in_file, word_at}
use Rattle.plain_model.specs.declared.call.ByteChange.TheVariants.{Move}
use Rattle.plain_model.specs.Calls.{ends}
use Rattle.plain_model.specs.ByteCalls.{ByteTurn, byte_offset, byte_page, byte_pointer, end_for, jfn_number, page_in}
use Rattle.plain_model.specs.StringCalls.{takes_from, takes_next}
use Rattle.call_turns.specs.Telling.{page_need}
use Rattle.call_turns.specs.Turns.{FitsEnd}
use Rattle.call_turns.proofs.Looks.{needed_is, told_is}
use Rattle.ka10_unit.specs.Gathers.{framed}
use Rattle.ka10_unit.proofs.Adding.{sound_as}
use Rattle.ka10_unit.specs.declared.taken.Stop.TheVariants.{Need}
use Rattle.file_tables.specs.Keys.{key_of}
use Rattle.file_bytes.specs.Asking.{IsOpenAs, asked_on}
use Rattle.file_bytes.specs.Planning.{CanTurn}
use Rattle.file_bytes.proofs.Ending.{can_move}
use Rattle.file_bytes.proofs.Tests.{is_beyond, is_within}
use Rattle.string_io.specs.Planning.{IsPlan}
use Rattle.string_io.proofs.Planned.{fits_end, once_plans, read_needs, read_planned}
use Rattle.string_io.proofs.Taken.{at_its_end, before_end}
use Rattle.string_io.proofs.taking.takes_from.Goals as goal

pub returns-then-end_of-jfn-clause-told : goal.returns-then-end_of-jfn-clause-told
returns-then-end_of-jfn-clause-told g c input =
    let means = g.P.Pages.means in
    let who = c.args.who in
    let regs = c.args.regs.now in
    let tables = c.args.tables.now in
    let j = open_file tables.dir c.args.jfn in
    let over : (p : NumberedPages) → nat_le (end_for (asked_on who regs tables input p) j) j.at ≡ true = λ p. ap (λ n. nat_le n j.at) (sym c.end_of.ensures.end) ∙ is_within c.end_of.result j.at c.if-end_of-jfn.true in
    once_plans means c.args.pages.now tables who (λ d fits. sound_as means c.args.pages.now _ (g.met.P.Pages.whole c.args.pages.now d fits) (g.met.P.Pages.agrees c.args.pages.now d fits)) c.at_once.result c.at_once.ensures.fork c.at_once.ensures.put c.at_once.ensures.none c.at_once.ensures.told
    (λ p. takes_from (asked_on who regs tables input p) j) (subst (FitsEnd (CanTurn tables who.tty)) (sym c.at_once.ensures.ending) (c.at_end.ensures.fits who tables))
    (λ p. ap ends (c.at_once.ensures.ending ∙ c.at_end.ensures.end who tables input (asked_on who regs tables input p).pages) ∙ at_its_end (asked_on who regs tables input p) j (over p))

pub returns-then-end_of-jfn-clause-fits : goal.returns-then-end_of-jfn-clause-fits
returns-then-end_of-jfn-clause-fits g c = (c.at_once.ensures.fork, fits_end c.args.tables.now c.args.who.tty c.at_once.result.ending (subst (FitsEnd (CanTurn c.args.tables.now c.args.who.tty)) (sym c.at_once.ensures.ending) (c.at_end.ensures.fits c.args.who c.args.tables.now)))

pub returns-in-Ok-clause-fits : goal.returns-in-Ok-clause-fits
returns-in-Ok-clause-fits g c =
    let tables = c.args.tables.now in
    let t = c.args.who.tty in
    let jfn = c.args.jfn in
    let held : IsOpenAs tables t c.jfn_number.result jfn = subst (λ (k : ℕ). IsOpenAs tables t k jfn) (sym c.jfn_number.ensures.number) c.requires.open in
    let few : jfn.at + 1 ≤ most_bytes jfn.size = omega (arith, c.if-end_of-jfn.false, c.end_of.ensures.room) in
    c.takes_next.ensures.fits tables (refl, can_move tables t c.jfn_number.result jfn (jfn.at + 1) held few)

pub returns-in-Ok-clause-told : goal.returns-in-Ok-clause-told
returns-in-Ok-clause-told g c input =
    let means = g.P.Pages.means in
    let who = c.args.who in
    let regs = c.args.regs.now in
    let tables = c.args.tables.now in
    let t = who.tty in
    let jfn = c.args.jfn in
    let n = c.jfn_number.result in
    let j = open_file tables.dir jfn in
    let held : IsOpenAs tables t n jfn = subst (λ (k : ℕ). IsOpenAs tables t k jfn) (sym c.jfn_number.ensures.number) c.requires.open in
    let few : jfn.at + 1 ≤ most_bytes jfn.size = omega (arith, c.if-end_of-jfn.false, c.end_of.ensures.room) in
    let plans = c.takes_next.ensures.told tables input (refl, can_move tables t n jfn (jfn.at + 1) held few) in
    record {
      stands = plans.stands;
      opens = plans.opens;
      is = λ d fits.
          let p = framed means c.args.pages.now d in
          let a = asked_on who regs tables input p.pages in
          let more : nat_le (end_for a j) j.at ≡ false = ap (λ m. nat_le m j.at) (sym c.end_of.ensures.end) ∙ is_beyond c.end_of.result j.at c.if-end_of-jfn.false in
          let spot = in_file (file_page jfn.file.0 c.place-page.result.0) in
          let found = told_is (page_need p.scene p.pages spot) (word_at p.pages spot c.place-page.result.1) c.in-Ok.word (c.in-Ok.ensures.told d fits) in
          let key : key_of tables j.file ≡ jfn.file.0 = c.requires.open.0.0.0.number in
          let its : file_page jfn.file.0 c.place-page.result.0 ≡ file_page (key_of tables j.file) (byte_page j) = λ i. file_page (sym key i) (c.place-page.ensures.page i) in
          let here = ap (λ f. page_need p.scene p.pages (in_file f)) (sym its) ∙ found.0 in
          let word : c.in-Ok.word ≡ word_at p.pages (in_file (file_page (key_of tables j.file) (byte_page j))) (byte_offset j) = found.1 ∙ (λ i. word_at p.pages (in_file (its i)) (c.place-page.ensures.offset i)) in
          let next : ℕ → ByteTurn = λ w. takes_next a (Move a.who.tty (jfn_number a) (j.at + 1)) (loaded (byte_pointer j) w) in
          let same : takes_next a (Move t n (jfn.at + 1)) c.load.result ≡ next c.in-Ok.word = λ i. takes_next a (Move t (c.jfn_number.ensures.number i) (jfn.at + 1)) ((c.load.ensures ∙ ap (λ (q : ℕ). loaded q c.in-Ok.word) c.place-page.ensures.pointer) i) in
          subst (λ (u : ByteTurn). IsPlan tables p t u c.takes_next.result) (before_end a j more)
          (read_planned tables p t (page_in j (byte_page j)) (byte_offset j) next c.in-Ok.word c.takes_next.result here word (subst (λ (u : ByteTurn). IsPlan tables p t u c.takes_next.result) same (plans.is d fits)));
    }

pub returns-in-Err-clause-told : goal.returns-in-Err-clause-told
returns-in-Err-clause-told g c input =
    let means = g.P.Pages.means in
    let who = c.args.who in
    let regs = c.args.regs.now in
    let tables = c.args.tables.now in
    let t = who.tty in
    let jfn = c.args.jfn in
    let j = open_file tables.dir jfn in
    record {
      stands = λ plan d no fits. absurd (cc no);
      opens = λ plan d no fits. absurd (cc no);
      is = λ d fits.
          let p = framed means c.args.pages.now d in
          let a = asked_on who regs tables input p.pages in
          let more : nat_le (end_for a j) j.at ≡ false = ap (λ m. nat_le m j.at) (sym c.end_of.ensures.end) ∙ is_beyond c.end_of.result j.at c.if-end_of-jfn.false in
          let spot = in_file (file_page jfn.file.0 c.place-page.result.0) in
          let key : key_of tables j.file ≡ jfn.file.0 = c.requires.open.0.0.0.number in
          let its : file_page jfn.file.0 c.place-page.result.0 ≡ file_page (key_of tables j.file) (byte_page j) = λ i. file_page (sym key i) (c.place-page.ensures.page i) in
          let away = ap (λ f. page_need p.scene p.pages (in_file f)) (sym its) ∙ needed_is (page_need p.scene p.pages spot) (word_at p.pages spot c.place-page.result.1) c.in-Err.need (c.in-Err.ensures.told d fits) in
          let next : ℕ → ByteTurn = λ w. takes_next a (Move a.who.tty (jfn_number a) (j.at + 1)) (loaded (byte_pointer j) w) in
          subst (λ (u : ByteTurn). IsPlan tables p t u (Err (Need c.in-Err.need))) (before_end a j more) (read_needs tables p t (page_in j (byte_page j)) (byte_offset j) next c.in-Err.need away);
    }
