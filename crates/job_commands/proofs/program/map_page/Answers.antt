use Rattle.std.proofs.Common.{◌∙◌}
use Rattle.ka10_unit.proofs.Carried.{grows_none}
use Rattle.job_commands.proofs.Programs.{entry_set, entry_missing}
use Rattle.job_commands.proofs.program.map_page.Goals as goal

pub returns-in-Is-clause-told : goal.returns-in-Is-clause-told
returns-in-Is-clause-told g c d fits =
    let p = g.P.Pages.means.plain c.args.pages.now d in
    let set = c.set_entry.ensures.told d fits in
    (set.0, set.1 ∙ entry_set p c.args.top c.args.file.0 c.args.page c.program_entry-new.result (λ e. c.program_entry-new.ensures.told p e (g.met.P.Pages.agrees c.args.pages.now d fits).filed))

pub returns-in-Missing-clause-told : goal.returns-in-Missing-clause-told
returns-in-Missing-clause-told g c d fits =
    let p = g.P.Pages.means.plain c.args.pages.now d in
    (fits, entry_missing p c.args.top c.args.file.0 c.args.page (g.P.Pages.means.scene c.args.pages.now) (c.in-Missing.ensures.told d fits))

pub returns-in-Missing-clause-grows : goal.returns-in-Missing-clause-grows
returns-in-Missing-clause-grows g c = grows_none g.P.Pages.means c.args.top.tty c.args.pages.now
