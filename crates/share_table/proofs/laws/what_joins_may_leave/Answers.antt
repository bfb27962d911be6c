use Rattle.share_table.proofs.Slabs.{joined_and_left}
use Rattle.share_table.proofs.laws.what_joins_may_leave.Goals as goal

pub returns : goal.returns
returns c = joined_and_left
