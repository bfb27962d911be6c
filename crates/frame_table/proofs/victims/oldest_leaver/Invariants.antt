use Rattle.frame_table.specs.Victims.{IsOldestBelow}
use Rattle.frame_table.proofs.victims.oldest_leaver.Given as goal

abbrev pub invariant-loop-f : goal.invariant-loop-f
invariant-loop-f l = IsOldestBelow l.seats l.f l.oldest
