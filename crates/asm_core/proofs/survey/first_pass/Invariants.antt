use Rattle.std.proofs.Common.{◌≡◌, ◌≤◌, ◌+◌, List, length}
use Rattle.asm_core.specs.declared.line.Line.{Line}
use Rattle.asm_core.specs.Cutting.{pieces, remainder}
use Rattle.asm_core.specs.Passes.{Surveyed}
use Rattle.asm_core.specs.Places.{lines_of, read_behind}
use Rattle.asm_core.proofs.survey.first_pass.Given as goal

abbrev pub invariant-loop-line : goal.invariant-loop-line
invariant-loop-line l = record {
  before : List Line;
  stands : Surveyed l.survey before;
  few : l.survey.lines + length l.left ≤ length l.text;
  same : read_behind before (pieces 10 l.left) (remainder 10 l.left) ≡ lines_of l.text;
}

abbrev pub decreases-loop-line : goal.decreases-loop-line
decreases-loop-line l = length l.left
