use Rattle.std.proofs.Common.{◌≡◌, drop}
use Rattle.plain_units.specs.Blocks.{stored_from}
use Rattle.page_contracts.specs.DrumWords.{DrumWords}
use Rattle.page_contracts.specs.Pages.{MayLose, StaysPut}
use Rattle.ka10_unit.specs.Blocks.{AreOpenAt, address_behind}
use Rattle.ka10_unit.specs.Gathers.{framed}
use Rattle.ka10_unit.proofs.word_blocks.store_block.Given as goal

abbrev pub invariant-loop-i : goal.invariant-loop-i
invariant-loop-i g l = record {
  next : l.next ≡ address_behind l.at l.i;
  stays : StaysPut g.P.Pages.means l.fn.pages l.pages;
  loses : MayLose g.P.Pages.means l.fn.pages l.pages;
  fits : (d : DrumWords) → g.P.Pages.means.fits l.fn.pages d → g.P.Pages.means.fits l.pages d;
  open_at : (d : DrumWords) → g.P.Pages.means.fits l.fn.pages d → AreOpenAt l.fork (framed g.P.Pages.means l.fn.pages d) l.at 16 → AreOpenAt l.fork (framed g.P.Pages.means l.pages d) l.at 16;
  so_far : (d : DrumWords) → g.P.Pages.means.fits l.fn.pages d → AreOpenAt l.fork (framed g.P.Pages.means l.fn.pages d) l.at 16
      → stored_from (g.P.Pages.means.plain l.pages d) l.fork (address_behind l.at l.i) (drop l.i l.words) ≡ stored_from (g.P.Pages.means.plain l.fn.pages d) l.fork l.at l.words;
}
