use Rattle.std.proofs.Common.{◌≡◌, sym, ◌∙◌, ap, subst}
use Rattle.machine_names.specs.declared.names.Slot.{Slot}
use Rattle.page_contracts.specs.declared.answers.Peeked.TheVariants.{Absent}
use Rattle.plain_pages.specs.References.{in_map, slot_at}
use Rattle.console_access.specs.Needing.{IsOnWay}
use Rattle.console_access.proofs.Away.{peek_away}
use Rattle.console_access.proofs.Looks.{looks, word_found, none_found}
use Rattle.console_access.proofs.looking.seen_word.Goals as goal

pub returns-in-Is-clause-told : goal.returns-in-Is-clause-told
returns-in-Is-clause-told g c d f =
    word_found _ c.in-Is.word (looks (g.P.Pages.means.plain c.args.pages.now d) (g.P.Pages.means.scene c.args.pages.now) c.args.fork.now c.args.address c.if-address-lt-ACCUMULATORS.false
    c.slot_at.result c.offset_in_page.result _ c.slot_at.ensures.slot c.offset_in_page.ensures.offset (λ home e. cc e) (c.in-Is.ensures.told d f))

pub returns-in-NoPage-clause-told : goal.returns-in-NoPage-clause-told
returns-in-NoPage-clause-told g c d f =
    none_found _ (looks (g.P.Pages.means.plain c.args.pages.now d) (g.P.Pages.means.scene c.args.pages.now) c.args.fork.now c.args.address c.if-address-lt-ACCUMULATORS.false
    c.slot_at.result c.offset_in_page.result _ c.slot_at.ensures.slot c.offset_in_page.ensures.offset (λ home e. cc e) (c.in-NoPage.ensures.told d f))

pub returns-in-Absent-clause-reason : goal.returns-in-Absent-clause-reason
returns-in-Absent-clause-reason g c =
    let means = g.P.Pages.means in
    let at : c.slot_at.result ≡ slot_at c.args.fork.now.name c.args.address = c.slot_at.ensures.slot in record {
      high = c.if-address-lt-ACCUMULATORS.false;
      away = record {
        on_way = λ d home f same.
            let is : c.in-Absent.home ≡ home = cc same in
            subst (λ (s : Slot). IsOnWay (means.plain c.args.pages.now d) (means.scene c.args.pages.now) (in_map s) home.0) at
            (peek_away (means.plain c.args.pages.now d) (means.scene c.args.pages.now) (in_map c.slot_at.result) c.offset_in_page.result home (ap Absent (sym is) ∙ c.in-Absent.ensures.told d f));
        own = λ home same. tt;
      };
    }
