use Rattle.std.proofs.Common.{[], ◌≤◌, take}
use Rattle.outside.specs.declared.TheConstants.{PAGE_WORDS}
use Rattle.page_contracts.specs.DrumWords.{DrumWords}
use Rattle.page_contracts.specs.Pages.{spot_of}
use Rattle.plain_pages.specs.References.{words_at}
use Rattle.plain_model.specs.FileEvents.{words_shown}
use Rattle.script_texts.specs.Taker.{GoesOn, StaysOnward}
use Rattle.monitor_core.specs.Needing.{IsInFrames}
use Rattle.event_items.proofs.giving.page.give_words.Given as goal

abbrev pub invariant-loop-offset : goal.invariant-loop-offset
invariant-loop-offset g l = record {
  last : l.offset ≤ PAGE_WORDS;
  later : g.T.Taker.fault_count l.fn.out ≤ g.T.Taker.fault_count l.out;
  onward : StaysOnward g.T.Taker.onward l.fn.out l.out;
  given : (d : DrumWords) → g.P.Pages.means.fits l.pages d × IsInFrames g.P.Pages.means l.pages d l.at → GoesOn g.T.Taker.stands l.fn.out l.out (words_shown 0 (take l.offset (words_at (g.P.Pages.means.plain l.pages d) (spot_of l.at)))) [];
}
