use Rattle.std.specs.FinMap as map
use Rattle.tty_lines.proofs.Assigned.{AreBelow}
use Rattle.tty_lines.proofs.line.unassign_all.Given as goal

abbrev pub invariant-loop-code : goal.invariant-loop-code
invariant-loop-code l = AreBelow map.empty l.initial.codes l.codes l.code
