use Rattle.std.proofs.Common.{◌-◌}
use Rattle.script_texts.specs.Script.{most_bytes}
use Rattle.script_lang.specs.Lines.{Skips, given}
use Rattle.script_lang.proofs.lines.Lines.needs_read.Given as goal

abbrev pub invariant-loop-count : goal.invariant-loop-count
invariant-loop-count l = Skips l.fn.self l.self

abbrev pub decreases-loop-count : goal.decreases-loop-count
decreases-loop-count l = most_bytes - given l.self
