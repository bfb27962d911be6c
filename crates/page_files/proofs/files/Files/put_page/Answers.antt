use Rattle.std.proofs.Common.{◌∙◌, ap}
use Rattle.std.specs.FinMap as map
use Rattle.machine_names.specs.Orders.{file_page}
use Rattle.page_files.specs.Pages.{by_file}
use Rattle.page_files.proofs.Numbering.{got, put_by_file}
use Rattle.page_files.proofs.files.Files.put_page.Goals as goal

pub returns-clause-put : goal.returns-clause-put
returns-clause-put g c =
    ap by_file c.insert.ensures.put ∙ put_by_file c.self.inside.pages c.number.result c.args.f.0 c.number.ensures.1 c.args.page c.number.ensures.2 c.args.k
    ∙ ap (λ m. map.insert m (file_page c.args.f.0 c.args.page) c.args.k) c.self.view_is

pub returns-clause-replaced : goal.returns-clause-replaced
returns-clause-replaced g c =
    c.insert.ensures.replaced ∙ got c.self.inside.pages c.number.result c.args.f.0 c.number.ensures.1 c.args.page c.number.ensures.2
    ∙ ap (λ m. map.get m (file_page c.args.f.0 c.args.page)) c.self.view_is
