use Rattle.std.proofs.Common.{◌≡◌, ◌≤◌, ◌^◌, List, [], None, length}
use Rattle.asm_core.specs.declared.line.Line.{Line}
use Rattle.asm_core.specs.Cutting.{pieces, remainder}
use Rattle.asm_core.specs.Passes.{kept}
use Rattle.asm_core.specs.Places.{assembled_by, first_undefined, lines_of, location, read_behind, uses}
use Rattle.asm_core.proofs.program.second_pass.Given as goal

abbrev pub invariant-loop-text : goal.invariant-loop-text
invariant-loop-text l = record {
  before : List Line;
  read : read_behind before (pieces 10 l.left) (remainder 10 l.left) ≡ lines_of l.fn.text;
  location : l.location ≡ location before;
  within : l.location ≤ 2 ^ 18;
  words : l.program.items ≡ assembled_by (kept l.symbols) [] before;
  defined : first_undefined (kept l.symbols) (uses before) ≡ None;
}

abbrev pub decreases-loop-text : goal.decreases-loop-text
decreases-loop-text l = length l.left
