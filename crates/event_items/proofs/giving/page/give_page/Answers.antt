use Rattle.std.proofs.Common.{◌≡◌, [], ◌∷◌, ◌∙◌, None, ap, sym, subst}
use Rattle.std.specs.FinMap as map
use Rattle.file_tables.specs.declared.tables.FileTables.{FileTables}
use Rattle.file_tables.specs.Tables.{IsThere, files_of}
use Rattle.plain_files.specs.NamedFiles.{name_of}
use Rattle.machine_names.specs.Orders.{file_page}
use Rattle.plain_pages.specs.References.{in_file, words_at}
use Rattle.plain_model.specs.FileEvents.{words_shown}
use Rattle.script_texts.specs.declared.event.Item.TheVariants.{PageLine}
use Rattle.event_items.specs.Giving.{Takes, TookOver}
use Rattle.machine_names.specs.declared.names.Place.TheVariants.{File}
use Rattle.monitor_core.specs.Needing.{IsInFrames, ShownAt}
use Rattle.step_shown.specs.declared.reply.Reply.TheVariants.{Page}
use Rattle.monitor_core.specs.Systems.{FitsPages}
use Rattle.monitor_core.proofs.FileDid.{is_missing, no_file_items, no_page_items, none_there, page_at_file, some_items, some_there}
use Rattle.event_items.proofs.Given.{on_err, taker_then, takes_part, takes_then, took_nothing}
use Rattle.event_items.proofs.giving.page.give_page.Goals as goal

pub returns-in_default : goal.returns-in_default
returns-in_default g c =
    let m = c.args.system.now in
    took_nothing (λ d. FitsPages m d × ShownAt m d (Page c.args.name.now c.args.page)) g.T.Taker.fault_count g.T.Taker.onward g.T.Taker.stands g.T.Taker.cut c.args.out.now tt _
    (λ d f. no_file_items m c.args.name.now c.args.page d f.0 (subst (λ (x : FileTables). map.get (files_of x) c.args.name.now ≡ None) c.files.ensures (is_missing c.files.result.now c.args.name.now c.find.result c.find.ensures.found c.in_default.not-Some)))

pub returns-then-is_none : goal.returns-then-is_none
returns-then-is_none g c =
    let m = c.args.system.now in
    let f = c.in-Some.file.0 in
    let found = subst (λ (x : FileTables). IsThere x f × (name_of x.dir f ≡ c.args.name.now)) c.files.ensures c.in-Some.ensures.found in
    took_nothing (λ d. FitsPages m d × ShownAt m d (Page c.args.name.now c.args.page)) g.T.Taker.fault_count g.T.Taker.onward g.T.Taker.stands g.T.Taker.cut c.args.out.now tt _
    (λ d fits. no_page_items m c.args.name.now c.args.page d fits.0 f found.0 found.1
    (page_at_file g.P.Pages.means m.pages (g.P.Pages.means.plain m.pages d) f c.args.page (g.met.P.Pages.agrees m.pages d fits.0.pages) ∙ ap (λ p. g.P.Pages.means.filed p (file_page f c.args.page)) (sym c.pages-pages.ensures) ∙ sym c.page_of.ensures ∙ none_there c.page_of.result c.is_none.result c.is_none.ensures c.if-is_none.true))

pub returns-in_err-item : goal.returns-in_err-item
returns-in_err-item g c =
    let m = c.args.system.now in
    let f = c.in-Some.file.0 in
    let found = subst (λ (x : FileTables). IsThere x f × (name_of x.dir f ≡ c.args.name.now)) c.files.ensures c.in-Some.ensures.found in
    let failed = c.in_err-item.ensures in
    let r = c.from_residual.result in
    let there = some_there c.page_of.result c.is_none.result c.is_none.ensures c.if-is_none.false in
    record {
      taker = record { later = failed.later; cause = on_err r failed.cause; goes_on = failed.onward };
      given = λ d fits.
          let p = g.P.Pages.means.plain m.pages d in
          let page = page_at_file g.P.Pages.means m.pages p f c.args.page (g.met.P.Pages.agrees m.pages d fits.0.pages) ∙ ap (λ p. g.P.Pages.means.filed p (file_page f c.args.page)) (sym c.pages-pages.ensures) ∙ sym c.page_of.ensures ∙ there.1 in
          subst (λ is. Takes g.T.Taker.stands g.T.Taker.cut c.args.out.now c.item.new.self r is []) (sym (some_items m c.args.name.now c.args.page d fits.0 f found.0 found.1 there.0 page))
          (takes_part g.T.Taker.stands g.T.Taker.cut _ _ r (PageLine c.args.name.now c.args.page ∷ []) (words_shown 0 (words_at p (in_file (file_page f c.args.page)))) [] [] c.from_residual.ensures.0 failed.err);
    }

pub returns : goal.returns
returns g c =
    let m = c.args.system.now in
    let f = c.in-Some.file.0 in
    let found = subst (λ (x : FileTables). IsThere x f × (name_of x.dir f ≡ c.args.name.now)) c.files.ensures c.in-Some.ensures.found in
    let r = c.give_words.result in
    let words = subst (λ q. TookOver (λ d. g.P.Pages.means.fits q d × IsInFrames g.P.Pages.means q d (File c.in-Some.file c.args.page)) g.T.Taker.fault_count g.T.Taker.onward g.T.Taker.stands g.T.Taker.cut c.item.new.self c.give_words.new.out r (λ d. words_shown 0 (words_at (g.P.Pages.means.plain q d) (in_file (file_page f c.args.page)))) []) c.pages-pages.ensures c.give_words.ensures in
    let there = some_there c.page_of.result c.is_none.result c.is_none.ensures c.if-is_none.false in
    record {
      taker = taker_then g.T.Taker.fault_count g.T.Taker.onward c.args.out.now c.item.new.self c.give_words.new.out c.item.result r (record { later = c.item.ensures.later; cause = c.item.ensures.cause; goes_on = c.item.ensures.onward }) words.taker;
      given = λ d fits.
          let p = g.P.Pages.means.plain m.pages d in
          let page = page_at_file g.P.Pages.means m.pages p f c.args.page (g.met.P.Pages.agrees m.pages d fits.0.pages) ∙ ap (λ p. g.P.Pages.means.filed p (file_page f c.args.page)) (sym c.pages-pages.ensures) ∙ sym c.page_of.ensures ∙ there.1 in
          subst (λ is. Takes g.T.Taker.stands g.T.Taker.cut c.args.out.now c.give_words.new.out r is []) (sym (some_items m c.args.name.now c.args.page d fits.0 f found.0 found.1 there.0 page))
          (takes_then g.T.Taker.stands g.T.Taker.cut _ _ _ r (PageLine c.args.name.now c.args.page ∷ []) (words_shown 0 (words_at p (in_file (file_page f c.args.page)))) [] [] c.in_ok-item.ensures.ok (words.given d (fits.0.pages, fits.1 f found.0 found.1)));
    }
