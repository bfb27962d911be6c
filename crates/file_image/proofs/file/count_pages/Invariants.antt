use Rattle.std.proofs.Common.{◌≡◌, ◌≤◌, length}
use Rattle.page_contracts.specs.DrumWords.{DrumWords}
use Rattle.file_image.specs.Files.{pages_below}
use Rattle.file_image.proofs.file.count_pages.Given as goal

abbrev pub invariant-loop-number : goal.invariant-loop-number
invariant-loop-number g l = record {
  few : l.count ≤ l.number;
  number : (d : DrumWords) → g.P.Pages.means.fits l.pages d → l.count ≡ length (pages_below (g.P.Pages.means.plain l.pages d) l.file.0 l.number);
}
