use Rattle.step_wants.proofs.Families.{forks_named}
use Rattle.step_wants.proofs.laws.what_fork_turns_need_is_named.Goals as goal

pub returns : goal.returns
returns c p forks t map_home page_home home homed alive is = forks_named map_home page_home home forks p t homed alive is
