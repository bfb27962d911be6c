use Rattle.std.proofs.Common.{◌≡◌}
use Rattle.outside.specs.Told.{Grows}
use Rattle.page_contracts.specs.DrumWords.{DrumWords}
use Rattle.file_image.specs.Reading.{pages_text}
use Rattle.file_image.proofs.file.write_pages.Given as goal

abbrev pub invariant-loop-page : goal.invariant-loop-page
invariant-loop-page g l = record {
  unfaulted : g.T.Sink.fault_count l.out ≡ g.T.Sink.fault_count l.fn.out;
  grows : (d : DrumWords) → g.P.Pages.means.fits l.pages d → Grows (g.T.Sink.taken l.fn.out) (g.T.Sink.taken l.out) (pages_text (g.P.Pages.means.plain l.pages d) l.file.0 l.page);
}
