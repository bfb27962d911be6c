use Rattle.std.proofs.Common.{sym, ◌∙◌}
use Rattle.machine_names.specs.Orders.{file_page}
use Rattle.call_turns.proofs.Peeks.{none_told, page_told, word_told}
use Rattle.call_turns.proofs.asking.word_of.Goals as goal

pub returns-in-Is-clause-told : goal.returns-in-Is-clause-told
returns-in-Is-clause-told g c d f =
    word_told (g.P.Pages.means.plain c.args.pages.now d) (g.P.Pages.means.scene c.args.pages.now) (file_page c.args.file.0 c.args.page) c.args.offset c.in-Is.word (sym c.in-Is.is ∙ c.peek.ensures.told d f)

pub returns-in-NoPage-clause-told : goal.returns-in-NoPage-clause-told
returns-in-NoPage-clause-told g c d f =
    none_told (g.P.Pages.means.plain c.args.pages.now d) (g.P.Pages.means.scene c.args.pages.now) (file_page c.args.file.0 c.args.page) c.args.offset c.requires.offset (sym c.in-NoPage.is ∙ c.peek.ensures.told d f)

pub returns-in-Absent-clause-told : goal.returns-in-Absent-clause-told
returns-in-Absent-clause-told g c d f =
    page_told (g.P.Pages.means.plain c.args.pages.now d) (g.P.Pages.means.scene c.args.pages.now) (file_page c.args.file.0 c.args.page) c.args.offset c.in-Absent.home (sym c.in-Absent.is ∙ c.peek.ensures.told d f)
