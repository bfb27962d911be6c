use Rattle.std.proofs.Common.{◌≡◌, ℕ, ◌<◌, length, get_or}
use Rattle.outside.specs.declared.TheConstants.{PAGE_WORDS}
use Rattle.machine_names.specs.Orders.{file_page}
use Rattle.plain_pages.specs.References.{in_file, word_at}
use Rattle.page_contracts.specs.DrumWords.{DrumWords}
use Rattle.file_image.proofs.page.page_words.Given as goal

abbrev pub invariant-loop-offset : goal.invariant-loop-offset
invariant-loop-offset g l = record {
  size : length l.words ≡ PAGE_WORDS;
  each : (d : DrumWords) → g.P.Pages.means.fits l.pages d → (k : ℕ) → k < l.offset → get_or l.words k 0 ≡ word_at (g.P.Pages.means.plain l.pages d) (in_file (file_page l.file.0 l.page)) k;
}
