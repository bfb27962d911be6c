use Rattle.std.proofs.Common.{◌≡◌, ◌∷◌, [], None, Some, inl, inr, sym, ◌∙◌, ap, subst}
use Rattle.std.proofs.lemmas.Bool.{ne_eqb}
use Rattle.page_contracts.specs.Pages.{spot_of}
use Rattle.plain_model.specs.FileEvents.{words_shown}
use Rattle.event_items.specs.Giving.{Takes}
use Rattle.monitor_core.specs.Needing.{IsInFrames}
use Rattle.event_items.proofs.Given.{took_nothing}
use Rattle.console_access.proofs.Away.{peek_away}
use Rattle.console_access.proofs.ShownWords.{no_word, shown_word, shown_zero, word_found}
use Rattle.event_items.proofs.giving.page.give_word.Goals as goal

pub returns-then-value-eq0 : goal.returns-then-value-eq0
returns-then-value-eq0 g c =
    let means = g.P.Pages.means in
    let pages = c.args.pages.now in
    took_nothing (λ d. means.fits pages d × IsInFrames means pages d c.args.at) g.T.Taker.fault_count g.T.Taker.onward g.T.Taker.stands g.T.Taker.cut c.args.out.now tt _
    (λ d f. shown_zero c.args.offset _ (sym (word_found (means.plain pages d) (means.scene pages) (spot_of c.args.at) c.args.offset c.in-Is.word (c.in-Is.ensures.told d f.0)) ∙ sym c.value.ensures.value ∙ c.if-value-eq0.true))

pub returns-else-value-eq0 : goal.returns-else-value-eq0
returns-else-value-eq0 g c =
    let means = g.P.Pages.means in
    let pages = c.args.pages.now in
    let offset = c.args.offset in
    let word = c.in-Is.word in record {
      taker = record { later = c.item.ensures.later; cause = c.item.ensures.cause; goes_on = c.item.ensures.onward };
      given = λ d f.
          let found = word_found (means.plain pages d) (means.scene pages) (spot_of c.args.at) offset word (c.in-Is.ensures.told d f.0) in
          let shown = ap (λ w. words_shown offset (w ∷ [])) (sym found) ∙ shown_word offset word (ne_eqb word 0 (λ is. c.if-value-eq0.false (c.value.ensures.value ∙ is))) in
          subst (λ is. Takes g.T.Taker.stands g.T.Taker.cut c.args.out.now c.item.new.self c.item.result is []) (sym shown) (record { ok = c.item.ensures.ok; err = c.item.ensures.err });
    }

pub returns-in-NoPage : goal.returns-in-NoPage
returns-in-NoPage g c =
    let means = g.P.Pages.means in
    let pages = c.args.pages.now in
    took_nothing (λ d. means.fits pages d × IsInFrames means pages d c.args.at) g.T.Taker.fault_count g.T.Taker.onward g.T.Taker.stands g.T.Taker.cut c.args.out.now tt _
    (λ d f. shown_zero c.args.offset _ (no_word (means.plain pages d) (means.scene pages) (spot_of c.args.at) c.args.offset c.requires.offset (c.in-NoPage.ensures.told d f.0)))

pub returns-in-Absent : goal.returns-in-Absent
returns-in-Absent g c =
    let means = g.P.Pages.means in
    let pages = c.args.pages.now in
    took_nothing (λ d. means.fits pages d × IsInFrames means pages d c.args.at) g.T.Taker.fault_count g.T.Taker.onward g.T.Taker.stands g.T.Taker.cut c.args.out.now tt _
    (λ d f.
    let there = f.1 in
    elim (peek_away (means.plain pages d) (means.scene pages) (spot_of c.args.at) c.args.offset c.in-Absent.field-0 (c.in-Absent.ensures.told d f.0)) [
      | inl maps ↦ absurd (let no : None ≡ Some c.in-Absent.field-0.0 = sym there.0 ∙ maps in cc no)
      | inr page ↦ absurd (let no : None ≡ Some c.in-Absent.field-0.0 = sym there.1 ∙ page in cc no)
    ])
