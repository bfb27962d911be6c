use Rattle.script_lang.specs.Lines.{IsOpen}
use Rattle.script_rows.proofs.reading.reads_where_needed.Given as goal

abbrev pub invariant-loop-line : goal.invariant-loop-line
invariant-loop-line l = IsOpen l.lines
