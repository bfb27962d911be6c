use Rattle.step_wants.proofs.Away.{map_named, page_is_named}
use Rattle.step_wants.proofs.laws.what_is_away_is_named.Goals as goal

pub returns-clause-map : goal.returns-clause-map
returns-clause-map c p at scene map_home page_home home told is = map_named map_home page_home p at scene home told is

pub returns-clause-page : goal.returns-clause-page
returns-clause-page c p at scene map_home page_home home told is = page_is_named map_home page_home p at scene home told is
