use Rattle.std.proofs.Common.{◌∙◌, ap, not}
use Rattle.machine_names.specs.Orders.{file_page}
use Rattle.file_image.proofs.Growing.{grows_same, map_err, map_ok, partly_same}
use Rattle.file_image.proofs.Pages.{page_written}
use Rattle.file_image.proofs.page.write_page.Goals as goal

pub returns-clause-ok : goal.returns-clause-ok
returns-clause-ok g c d fits =
    let p = g.P.Pages.means.plain c.args.pages.now d in
    let filed = (g.met.P.Pages.agrees c.args.pages.now d fits).filed in
    map_ok c.put.result (grows_same _ _ _ _ (page_written p c.args.file.0 c.args.page c.page_of.result c.page_words.result c.page_bytes.result (c.is_none.ensures ∙ ap not c.if-is_none.false)
    (c.page_of.ensures ∙ ap (λ h. h (file_page c.args.file.0 c.args.page)) filed) (c.page_words.ensures d fits) c.page_bytes.ensures)) c.put.ensures.ok

pub returns-clause-err : goal.returns-clause-err
returns-clause-err g c d fits =
    let p = g.P.Pages.means.plain c.args.pages.now d in
    let filed = (g.met.P.Pages.agrees c.args.pages.now d fits).filed in
    map_err c.put.result (partly_same _ _ _ _ (page_written p c.args.file.0 c.args.page c.page_of.result c.page_words.result c.page_bytes.result (c.is_none.ensures ∙ ap not c.if-is_none.false)
    (c.page_of.ensures ∙ ap (λ h. h (file_page c.args.file.0 c.args.page)) filed) (c.page_words.ensures d fits) c.page_bytes.ensures)) c.put.ensures.err
