use Rattle.std.proofs.Common.{◌≡◌, None}
use Rattle.page_contracts.specs.DrumWords.{DrumWords}
use Rattle.plain_model.specs.Commands.{with_program}
use Rattle.ka10_unit.specs.Carrying.{Grows}
use Rattle.job_commands.proofs.program.map_program.Given as goal

abbrev pub invariant-loop-page : goal.invariant-loop-page
invariant-loop-page g l = record {
  told : (d : DrumWords) → g.P.Pages.means.fits l.fn.pages d
      → g.P.Pages.means.fits l.pages d × (g.P.Pages.means.plain l.pages d ≡ with_program l.page (g.P.Pages.means.plain l.fn.pages d) l.top l.file.0);
  grows : Grows g.P.Pages.means l.top.tty 0 l.fn.pages l.pages;
  here : (g.P.Pages.means.scene l.pages).map_away l.top ≡ None;
}
