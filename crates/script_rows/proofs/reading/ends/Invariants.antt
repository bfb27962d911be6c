use Rattle.std.proofs.Common.{◌≤◌}
use Rattle.script_lang.specs.Lines.{IsOpen}
use Rattle.script_rows.proofs.reading.ends.Given as goal

abbrev pub invariant-loop-line : goal.invariant-loop-line
invariant-loop-line g l = record { open' : IsOpen l.lines; few : l.events ≤ l._line }
