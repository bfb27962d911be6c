use Rattle.std.proofs.Common.{◌≡◌, ◌≤◌, length, take, None}
use Rattle.page_contracts.specs.DrumWords.{DrumWords}
use Rattle.ka10_unit.specs.Blocks.{TakenSoFar, address_behind}
use Rattle.ka10_unit.specs.Gathers.{framed}
use Rattle.ka10_unit.specs.Taking.{frames_for, most_pages}
use Rattle.ka10_unit.proofs.word_blocks.refer_block.Given as goal

abbrev pub invariant-loop-i : goal.invariant-loop-i
invariant-loop-i g l = record {
  fork : l.taken.fork ≡ l.fn.fork;
  kept : l.taken.kept ≡ None;
  count : length l.taken.refs.items ≤ l.i;
  left : most_pages l.kind l.taken ≤ frames_for l.kind;
  long : length l.words ≡ 16;
  next : l.next ≡ address_behind l.at l.i;
  so_far : (d : DrumWords) → g.P.Pages.means.fits l.pages d → TakenSoFar l.fn.fork (framed g.P.Pages.means l.pages d) l.regs l.at l.kind l.taken l.i (take l.i l.words);
}
