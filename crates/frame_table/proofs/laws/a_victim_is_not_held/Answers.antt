use Rattle.frame_table.proofs.YoungFrames.{victim_let_go, victim_taken}
use Rattle.frame_table.proofs.laws.a_victim_is_not_held.Goals as goal

pub returns-clause-taken : goal.returns-clause-taken
returns-clause-taken c = victim_taken

pub returns-clause-let_go : goal.returns-clause-let_go
returns-clause-let_go c = victim_let_go
