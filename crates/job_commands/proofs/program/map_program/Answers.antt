use Rattle.std.proofs.Common.{◌∙◌, arith}
use Rattle.plain_model.specs.Commands.{with_program_page}
use Rattle.ka10_unit.proofs.Carried.{grows_more, grows_none}
use Rattle.job_commands.proofs.Programs.{none_mapped, one_more_mapped, all_mapped}
use Rattle.job_commands.proofs.program.map_program.Goals as goal

pub loop-page-init : goal.loop-page-init
loop-page-init g c = record {
  told = λ d fits. (fits, none_mapped (g.P.Pages.means.plain c.args.pages.now d) c.args.top c.args.file.0);
  grows = grows_none g.P.Pages.means c.args.top.tty c.args.pages.now;
  here = c.requires.here;
}

pub loop-page-preserved : goal.loop-page-preserved
loop-page-preserved g c =
    let means = g.P.Pages.means in
    record {
      told = λ d fits.
          let before = c.loop-page.invariant.told d fits in
          let now = c.map_page.ensures.told d before.0 in
          let one = with_program_page (means.plain c.loop-page.pages d) c.args.top c.args.file.0 c.loop-page.page in
          (now.0, ◌∙◌ {b = one} now.1 (one_more_mapped (means.plain c.args.pages.now d) (means.plain c.loop-page.pages d) c.args.top c.args.file.0 c.loop-page.page before.1));
      grows = grows_more means c.args.top.tty 0 0 c.args.pages.now c.loop-page.pages c.map_page.new.pages c.loop-page.invariant.grows c.map_page.ensures.grows;
      here = c.map_page.ensures.here;
    }

pub returns-clause-told : goal.returns-clause-told
returns-clause-told g c d fits =
    let t = c.loop-page.invariant.told d fits in
    (t.0, t.1 ∙ all_mapped (g.P.Pages.means.plain c.args.pages.now d) c.args.top c.args.file.0 c.loop-page.page (omega arith))
