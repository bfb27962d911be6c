use Rattle.std.proofs.Common.{[], sym, ◌∙◌, refl}
use Rattle.machine_names.specs.declared.names.TheConstants.{FILE_PAGES}
use Rattle.file_image.specs.Reading.{pages_text}
use Rattle.file_image.proofs.Growing.{any_err, grows_none, grows_same, grows_then, partly_longer, partly_same, partly_then}
use Rattle.file_image.proofs.Pages.{text_at, text_next, text_none}
use Rattle.file_image.proofs.file.write_pages.Goals as goal

pub loop-page-init : goal.loop-page-init
loop-page-init g c = record {
  unfaulted = refl;
  grows = λ d fits. let taken = g.T.Sink.taken c.args.out.now in
      grows_same taken taken [] (pages_text (g.P.Pages.means.plain c.args.pages.now d) c.args.file.0 0) (sym (text_none (g.P.Pages.means.plain c.args.pages.now d) c.args.file.0)) (grows_none taken taken);
}

pub returns-in_err-write_page-clause-err : goal.returns-in_err-write_page-clause-err
returns-in_err-write_page-clause-err g c d fits =
    let p = g.P.Pages.means.plain c.args.pages.now d in
    let f = c.args.file.0 in
    let page = c.loop-page.page in
    let split = text_at p f page FILE_PAGES c.loop-page-test.true in
    any_err c.from_residual.result
    (partly_same _ _ _ _ (sym split.1) (partly_then _ _ _ (pages_text p f page) _ (c.loop-page.invariant.grows d fits) (partly_longer _ _ _ split.0 (c.in_err-write_page.ensures.err d fits))))

pub loop-page-preserved : goal.loop-page-preserved
loop-page-preserved g c = record {
  unfaulted = c.in_ok-write_page.ensures.unfaulted ∙ c.loop-page.invariant.unfaulted;
  grows = λ d fits. grows_same _ _ _ _ (text_next (g.P.Pages.means.plain c.args.pages.now d) c.args.file.0 c.loop-page.page)
      (grows_then _ _ _ _ _ (c.loop-page.invariant.grows d fits) (c.in_ok-write_page.ensures.ok d fits));
}
