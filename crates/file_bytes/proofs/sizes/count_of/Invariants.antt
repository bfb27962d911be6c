use Rattle.std.proofs.Common.{◌≡◌}
use Rattle.std.specs.Prelude.{is_some}
use Rattle.machine_names.specs.Orders.{file_page}
use Rattle.file_bytes.proofs.Counts.{counts}
use Rattle.file_bytes.proofs.sizes.count_of.Given as goal

abbrev pub invariant-loop-page : goal.invariant-loop-page
invariant-loop-page g l = l.count ≡ counts (λ page. is_some (g.P.Pages.means.filed l.pages (file_page l.file.0 page))) l.page
