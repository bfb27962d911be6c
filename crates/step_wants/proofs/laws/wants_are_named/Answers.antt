use Rattle.step_wants.specs.Names.{homes_for}
use Rattle.step_wants.specs.Wants.{names_of}
use Rattle.step_wants.proofs.Once.{has_once}
use Rattle.step_wants.proofs.laws.wants_are_named.Goals as goal

pub returns : goal.returns
returns c key_of v x map_home page_home home = has_once home (homes_for map_home page_home (names_of key_of v x))
