use Rattle.step_wants.proofs.DeedsNamed.{deed_named}
use Rattle.step_wants.proofs.laws.what_deeds_need_is_named.Goals as goal

pub returns : goal.returns
returns c key_of scene v d map_home page_home home homed is = deed_named map_home page_home key_of scene v home homed d is
