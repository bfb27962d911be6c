use Rattle.std.proofs.Common.{◌≡◌}
use Rattle.word36.specs.Words.{right}
use Rattle.page_contracts.specs.DrumWords.{DrumWords}
use Rattle.plain_model.specs.Inspections.{channel_at}
use Rattle.ka10_unit.specs.Gathers.{framed}
use Rattle.text_pointers.specs.Reading.{Stands}
use Rattle.text_pointers.proofs.Crossing.{IsBehind}
use Rattle.psi_system.specs.Judgements.{FitsBest}
use Rattle.psi_system.proofs.Looking.{LooksSoFar}
use Rattle.psi_system.proofs.inspecting.look.Given as goal

abbrev pub invariant-loop-channel : goal.invariant-loop-channel
invariant-loop-channel g l = record {
  fork : l.reader.fork ≡ l.fn.reader.fork;
  behind : IsBehind 0 (right l.table) l.channel (channel_at l.table l.channel) l.reader;
  best : FitsBest l.best;
  told : (d : DrumWords) → g.P.Pages.means.fits l.pages d → Stands l.fn.reader.fork (framed g.P.Pages.means l.pages d) l.fn.reader
      → LooksSoFar l.fn.reader.fork (framed g.P.Pages.means l.pages d) l.body l.table l.fn.reader l.reader l.channel l.best;
}
