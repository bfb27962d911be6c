use Rattle.plain_refusals.proofs.OnePage.{one_page_a_unit}
use Rattle.plain_refusals.proofs.laws.units_of_pmap_go_over_one_page.Goals as goal

pub returns : goal.returns
returns c = λ s f. one_page_a_unit s f
