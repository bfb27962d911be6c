use Rattle.plain_alone.proofs.Isolated.{all_see_their_own}
use Rattle.plain_alone.proofs.laws.terminals_see_their_own_work_alone.Goals as goal

pub returns : goal.returns
returns c = all_see_their_own
