use Rattle.std.proofs.Common.{None}
use Rattle.frame_table.proofs.YoungFrames.{frame_used, others_keep, page_comes}
use Rattle.frame_table.proofs.laws.uses_renew_ages.Goals as goal

pub returns-clause-used : goal.returns-clause-used
returns-clause-used c = frame_used

pub returns-clause-comes : goal.returns-clause-comes
returns-clause-comes c = page_comes

pub returns-clause-goes : goal.returns-clause-goes
returns-clause-goes c = λ q f. others_keep q f q.uses None
