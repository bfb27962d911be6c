use Rattle.std.proofs.Common.{◌*◌}
use Rattle.page_contracts.specs.DrumWords.{DrumWords}
use Rattle.page_gather.specs.Gathering.{AllWent, most_framed}
use Rattle.page_gather.specs.Making.{Grows}
use Rattle.page_gather.proofs.Settling.{LeftOver}
use Rattle.page_gather.proofs.making.make_all.Given as goal

abbrev pub invariant-loop-r : goal.invariant-loop-r
invariant-loop-r g l = record {
  grows : Grows g.P.Pages.means l.owner (2 * l.r-index) l.fn.pages l.pages;
  fits : (d : DrumWords) → g.P.Pages.means.fits l.fn.pages d → g.P.Pages.means.fits l.pages d;
  told : (d : DrumWords) → g.P.Pages.means.fits l.fn.pages d
      → AllWent (g.P.Pages.means.plain l.fn.pages d) (g.P.Pages.means.scene l.fn.pages) (most_framed (g.P.Pages.means.plain l.fn.pages d) (g.P.Pages.means.scene l.fn.pages)) l.owner l.references
      → LeftOver (g.P.Pages.means.plain l.fn.pages d) (g.P.Pages.means.plain l.pages d) (g.P.Pages.means.scene l.fn.pages) (most_framed (g.P.Pages.means.plain l.fn.pages d) (g.P.Pages.means.scene l.fn.pages)) l.owner l.references l.r-index;
}
