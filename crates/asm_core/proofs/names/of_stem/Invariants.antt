use Rattle.std.proofs.Common.{◌≡◌, ◌≤◌, ◌+◌, ◌*◌, length}
use Rattle.asm_core.specs.Cutting.{pieces}
use Rattle.asm_core.specs.Names.{meaning, of_stem}
use Rattle.asm_core.proofs.names.of_stem.Given as goal

abbrev pub invariant-loop-name : goal.invariant-loop-name
invariant-loop-name l = record {
  small : l.op + 16 * length l.left ≤ 8192 + 16 * 256;
  same : meaning (of_stem l.step l.stem l.op (pieces 32 l.left)) l.word ≡ meaning (of_stem l.step l.stem l.first (pieces 32 l.endings)) l.word;
}

abbrev pub decreases-loop-name : goal.decreases-loop-name
decreases-loop-name l = length l.left
