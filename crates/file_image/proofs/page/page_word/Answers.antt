use Rattle.std.proofs.Common.{sym, ◌∙◌}
use Rattle.machine_names.specs.Orders.{file_page}
use Rattle.file_image.proofs.Peeking.{none_told, word_told}
use Rattle.file_image.proofs.page.page_word.Goals as goal

pub returns-in-Is : goal.returns-in-Is
returns-in-Is g c d fits =
    c.value.ensures.value ∙ word_told (g.P.Pages.means.plain c.args.pages.now d) (g.P.Pages.means.scene c.args.pages.now) (file_page c.args.file.0 c.args.page) c.args.offset c.in-Is.word (sym c.in-Is.is ∙ c.peek.ensures.told d fits)

pub returns-in_default : goal.returns-in_default
returns-in_default g c d fits =
    none_told (g.P.Pages.means.plain c.args.pages.now d) (g.P.Pages.means.scene c.args.pages.now) (file_page c.args.file.0 c.args.page) c.args.offset c.requires.offset c.peek.result (c.peek.ensures.core c.requires.flat)
    c.in_default.not-Is (c.peek.ensures.told d fits)
