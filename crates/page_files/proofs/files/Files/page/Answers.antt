use Rattle.std.proofs.Common.{◌∙◌, ap}
use Rattle.std.specs.FinMap as map
use Rattle.machine_names.specs.Orders.{file_page}
use Rattle.page_files.proofs.Numbering.{got}
use Rattle.page_files.proofs.files.Files.page.Goals as goal

pub returns : goal.returns
returns g c =
    c.get.ensures.found ∙ got c.self.inside.pages c.number.result c.args.f.0 c.number.ensures.1 c.args.page c.number.ensures.2
    ∙ ap (λ m. map.get m (file_page c.args.f.0 c.args.page)) c.self.view_is
