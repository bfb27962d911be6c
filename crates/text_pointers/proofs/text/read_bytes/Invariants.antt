use Rattle.std.proofs.Common.{◌≡◌, length}
use Rattle.word36.specs.Words.{right}
use Rattle.page_contracts.specs.DrumWords.{DrumWords}
use Rattle.ka10_unit.specs.Gathers.{framed}
use Rattle.ka10_unit.specs.Taking.{read_frames}
use Rattle.text_pointers.specs.Reading.{Stands}
use Rattle.text_pointers.proofs.Bytes.{ReadsSoFar}
use Rattle.text_pointers.proofs.Crossing.{IsBehind}
use Rattle.text_pointers.proofs.text.read_bytes.Given as goal

abbrev pub invariant-loop-count : goal.invariant-loop-count
invariant-loop-count g l = record {
  fork : l.reader.fork ≡ l.fn.reader.fork;
  behind : IsBehind read_frames (right l.fn.first) l.count (right l.pointer) l.reader;
  long : length l.text.items ≡ l.count;
  told : (d : DrumWords) → g.P.Pages.means.fits l.pages d → Stands l.fn.reader.fork (framed g.P.Pages.means l.pages d) l.fn.reader
      → ReadsSoFar l.fn.reader.fork (framed g.P.Pages.means l.pages d) l.regs l.fn.reader l.fn.first l.reader l.count l.pointer l.text.items;
}
