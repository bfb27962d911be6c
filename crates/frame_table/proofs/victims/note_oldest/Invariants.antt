use Rattle.frame_table.specs.Reached.{AreReached}
use Rattle.frame_table.proofs.victims.note_oldest.Given as goal

abbrev pub invariant-loop-noted : goal.invariant-loop-noted
invariant-loop-noted l = AreReached l.reached l.seats
