use Rattle.std.proofs.Common.{◌≡◌, ℕ, true, false, nat_lt, inl, Ok, Err, sym, ◌∙◌, ap, subst}
use Rattle.machine_names.specs.Orders.{file_page}
use Rattle.plain_files.specs.Bytes.{most_bytes}
use Rattle.plain_files.specs.NamedFiles.{open_file}
use Rattle.plain_pages.specs.PlainPages.{NumberedPages}
use Rattle.plain_model.specs.declared.call.ByteChange.{ByteChange}
use Rattle.plain_model.specs.declared.call.ByteChange.TheVariants.{Put}
use Rattle.plain_model.specs.declared.call.End.{End}
use Rattle.plain_model.specs.declared.call.End.TheVariants.{Refused}
use Rattle.plain_model.specs.declared.call.TheConstants.{BAD_POSITION}
use Rattle.plain_model.specs.Calls.{returning}
use Rattle.plain_model.specs.ByteCalls.{byte_page, jfn_number, put_byte}
use Rattle.plain_units.specs.Deeds.{in_ac}
use Rattle.call_turns.specs.declared.turn.Grant.TheVariants.{Fill}
use Rattle.call_turns.specs.declared.turn.WhenFull.TheVariants.{Traps}
use Rattle.call_turns.specs.Granting.{GrantsOr}
use Rattle.call_turns.specs.Needing.{DrivenTo}
use Rattle.call_turns.specs.Numbers.{by_number}
use Rattle.call_turns.specs.Turns.{filling}
use Rattle.file_tables.specs.Keys.{seen_in}
use Rattle.file_bytes.specs.Asking.{asked_on}
use Rattle.file_bytes.proofs.Plans.{ends_at_once}
use Rattle.byte_io.proofs.PutByte.{fill_needs, fills_so, made_is, no_place}
use Rattle.file_bytes.proofs.Tests.{is_below, not_below}
use Rattle.byte_io.proofs.writing.put_byte.Goals as goal

pub returns-then-jfn-most_bytes-clause-told : goal.returns-then-jfn-most_bytes-clause-told
returns-then-jfn-most_bytes-clause-told g c input d f =
    let tables = c.args.tables.now in
    let p = g.P.Pages.means.plain c.args.pages.now d in
    let a = asked_on c.args.who c.args.regs.now tables input p in
    let j = open_file tables.dir c.args.jfn in
    let full : nat_lt j.at (most_bytes j.size) ≡ false = ap (nat_lt j.at) (sym c.most_bytes.ensures) ∙ not_below j.at c.most_bytes.result c.if-jfn-most_bytes.true in
    ends_at_once tables c.args.who.tty p (put_byte a j) (Refused BAD_POSITION) tt (no_place tables (g.P.Pages.means.scene c.args.pages.now) p a j full)

pub returns-in-Ok-clause-told : goal.returns-in-Ok-clause-told
returns-in-Ok-clause-told g c input d f =
    let tables = c.args.tables.now in
    let p = g.P.Pages.means.plain c.args.pages.now d in
    let scene = g.P.Pages.means.scene c.args.pages.now in
    let a = asked_on c.args.who c.args.regs.now tables input p in
    let t = c.args.who.tty in
    let jfn = c.args.jfn in
    let j = open_file tables.dir jfn in
    let o = c.in-Ok.outcome in
    let e = returning (Put t (jfn_number a) (in_ac a.regs 2)) a.regs in
    let room : nat_lt j.at (most_bytes j.size) ≡ true = ap (nat_lt j.at) (sym c.most_bytes.ensures) ∙ is_below j.at c.most_bytes.result c.if-jfn-most_bytes.false in
    let is : c.returning.result ≡ e =
    c.returning.ensures.end ∙ ap (λ (n : ℕ). returning (Put t n c.accumulator.result) a.regs) c.jfn_number.ensures.number ∙ ap (λ (w : ℕ). returning (Put t (jfn_number a) w) a.regs) c.accumulator.ensures in
    let driven : DrivenTo (by_number (seen_in tables)) scene p t (filling t (file_page jfn.file.0 (byte_page j)) e Traps) (Ok o) =
    subst (λ (page : ℕ). DrivenTo (by_number (seen_in tables)) scene p t (filling t (file_page jfn.file.0 page) e Traps) (Ok o)) c.place-page.ensures.page
    (subst (λ (x : End ByteChange). DrivenTo (by_number (seen_in tables)) scene p t (filling t (file_page jfn.file.0 c.place-page.result.0) x Traps) (Ok o)) is (c.in-Ok.ensures.told d t (seen_in tables) f (inl c.requires.terminal))) in
    let grants : GrantsOr (Fill jfn.file c.place-page.result.0) e Traps o = subst (λ (x : End ByteChange). GrantsOr (Fill jfn.file c.place-page.result.0) x Traps o) is c.in-Ok.ensures.grants in
    fills_so tables scene p a j room jfn.file.0 c.requires.open.0.0.0.number ∙ driven.1
    ∙ ap (λ (q : NumberedPages). record { end = o.end; pages = q }) (made_is tables scene p a j jfn c.requires.open.0.1 c.place-page.result.0 c.place-page.ensures.page o grants)

pub returns-in-Err-clause-told : goal.returns-in-Err-clause-told
returns-in-Err-clause-told g c input d f =
    let tables = c.args.tables.now in
    let p = g.P.Pages.means.plain c.args.pages.now d in
    let scene = g.P.Pages.means.scene c.args.pages.now in
    let a = asked_on c.args.who c.args.regs.now tables input p in
    let t = c.args.who.tty in
    let jfn = c.args.jfn in
    let j = open_file tables.dir jfn in
    let n = c.in-Err.need in
    let e = returning (Put t (jfn_number a) (in_ac a.regs 2)) a.regs in
    let room : nat_lt j.at (most_bytes j.size) ≡ true = ap (nat_lt j.at) (sym c.most_bytes.ensures) ∙ is_below j.at c.most_bytes.result c.if-jfn-most_bytes.false in
    let is : c.returning.result ≡ e =
    c.returning.ensures.end ∙ ap (λ (k : ℕ). returning (Put t k c.accumulator.result) a.regs) c.jfn_number.ensures.number ∙ ap (λ (w : ℕ). returning (Put t (jfn_number a) w) a.regs) c.accumulator.ensures in
    let driven : DrivenTo (by_number (seen_in tables)) scene p t (filling t (file_page jfn.file.0 (byte_page j)) e Traps) (Err n) =
    subst (λ (page : ℕ). DrivenTo (by_number (seen_in tables)) scene p t (filling t (file_page jfn.file.0 page) e Traps) (Err n)) c.place-page.ensures.page
    (subst (λ (x : End ByteChange). DrivenTo (by_number (seen_in tables)) scene p t (filling t (file_page jfn.file.0 c.place-page.result.0) x Traps) (Err n)) is (c.in-Err.ensures.told d t (seen_in tables) f (inl c.requires.terminal))) in
    fill_needs tables scene p a j room jfn.file.0 c.requires.open.0.0.0.number n driven
