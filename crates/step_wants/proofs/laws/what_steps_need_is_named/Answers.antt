use Rattle.step_wants.proofs.Stepping.{steps_named}
use Rattle.step_wants.proofs.laws.what_steps_need_is_named.Goals as goal

pub returns : goal.returns
returns c f p steps t map_home page_home home homed is = steps_named map_home page_home f p home homed steps t is
