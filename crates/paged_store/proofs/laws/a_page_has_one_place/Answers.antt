use Rattle.paged_store.proofs.Lasting.{one_place}
use Rattle.paged_store.proofs.laws.a_page_has_one_place.Goals as goal

pub returns : goal.returns
returns c = one_place
