use Rattle.std.proofs.Common.{◌∙◌, ap}
use Rattle.page_files.specs.Pages.{by_file}
use Rattle.page_files.proofs.Numbering.{by_file_none}
use Rattle.page_files.proofs.files.Files.boot.Goals as goal

pub returns : goal.returns
returns g c = ap by_file c.in_ok-boot.ensures ∙ by_file_none
