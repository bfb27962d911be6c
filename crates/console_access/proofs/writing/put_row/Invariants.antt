use Rattle.std.proofs.Common.{◌≡◌, ◌≤◌, take}
use Rattle.page_contracts.specs.DrumWords.{DrumWords}
use Rattle.page_contracts.specs.Pages.{MayLose, StaysPut, spot_of}
use Rattle.plain_model.specs.FileEvents.{stored_row}
use Rattle.console_access.proofs.writing.put_row.Given as goal

abbrev pub invariant-loop-i : goal.invariant-loop-i
invariant-loop-i g l = record {
  few : l.i ≤ l.row.count;
  stays : StaysPut g.P.Pages.means l.fn.pages l.pages;
  loses : MayLose g.P.Pages.means l.fn.pages l.pages;
  told : (d : DrumWords) → g.P.Pages.means.fits l.fn.pages d → g.P.Pages.means.fits l.pages d × (g.P.Pages.means.plain l.pages d ≡ stored_row (g.P.Pages.means.plain l.fn.pages d) (spot_of l.at) l.offset (take l.i l.row.words));
}
