use Rattle.std.proofs.Common.{◌∙◌, ap}
use Rattle.std.specs.FinMap as map
use Rattle.machine_names.specs.Orders.{file_page}
use Rattle.page_files.specs.Pages.{by_file}
use Rattle.page_files.proofs.Numbering.{got, gone_by_file}
use Rattle.page_files.proofs.files.Files.drop_page.Goals as goal

pub returns-clause-gone : goal.returns-clause-gone
returns-clause-gone g c =
    ap by_file c.remove.ensures.gone ∙ gone_by_file c.self.inside.pages c.number.result c.args.f.0 c.number.ensures.1 c.args.page c.number.ensures.2
    ∙ ap (λ m. map.remove m (file_page c.args.f.0 c.args.page)) c.self.view_is

pub returns-clause-dropped : goal.returns-clause-dropped
returns-clause-dropped g c =
    c.remove.ensures.taken ∙ got c.self.inside.pages c.number.result c.args.f.0 c.number.ensures.1 c.args.page c.number.ensures.2
    ∙ ap (λ m. map.get m (file_page c.args.f.0 c.args.page)) c.self.view_is
