use Rattle.std.proofs.Common.{List, ap}
use Rattle.std.specs.Prelude.{nat_eq}
use Rattle.std.specs.Set.{unique_keys}
use Rattle.step_wants.specs.Names.{Housed, homes_for}
use Rattle.step_wants.proofs.FewDeeds.{deed_told}
use Rattle.step_wants.proofs.laws.the_tables_tell.Goals as goal

pub returns : goal.returns
returns c key_of v d map_home page_home is = ap (λ (names : List Housed). unique_keys nat_eq (homes_for map_home page_home names)) (deed_told key_of v d is)
