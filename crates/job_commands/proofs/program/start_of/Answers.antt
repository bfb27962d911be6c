use Rattle.job_commands.proofs.Programs.{no_first_page, starts_there}
use Rattle.job_commands.proofs.program.start_of.Goals as goal

pub returns-in-Is-clause-told : goal.returns-in-Is-clause-told
returns-in-Is-clause-told g c d fits = starts_there (g.P.Pages.means.plain c.args.pages.now d) (g.P.Pages.means.scene c.args.pages.now) c.args.file.0 c.in-Is.word (c.in-Is.ensures.told d fits)

pub returns-in-NoPage-clause-told : goal.returns-in-NoPage-clause-told
returns-in-NoPage-clause-told g c d fits = no_first_page (g.P.Pages.means.plain c.args.pages.now d) (g.P.Pages.means.scene c.args.pages.now) c.args.file.0 (c.in-NoPage.ensures.told d fits)
