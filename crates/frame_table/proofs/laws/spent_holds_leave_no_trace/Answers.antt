use Rattle.frame_table.proofs.HeldFrames.{hold_spent, pin_taken_away}
use Rattle.frame_table.proofs.laws.spent_holds_leave_no_trace.Goals as goal

pub returns-clause-holds : goal.returns-clause-holds
returns-clause-holds c = hold_spent

pub returns-clause-pins : goal.returns-clause-pins
returns-clause-pins c = pin_taken_away
