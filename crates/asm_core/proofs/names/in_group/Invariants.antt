use Rattle.std.proofs.Common.{◌≡◌, ◌≤◌, ◌+◌, ◌*◌, length}
use Rattle.asm_core.specs.Cutting.{pieces}
use Rattle.asm_core.specs.Names.{meaning, of_stems}
use Rattle.asm_core.proofs.names.in_group.Given as goal

abbrev pub invariant-loop-stem : goal.invariant-loop-stem
invariant-loop-stem l = record {
  small : l.op + 16 * length l.left ≤ 512 + 16 * 256;
  same : meaning (of_stems l.ending_step (pieces 32 l.endings) l.stem_step l.op (pieces 32 l.left)) l.word ≡ meaning (of_stems l.ending_step (pieces 32 l.endings) l.stem_step l.first (pieces 32 l.stems)) l.word;
}

abbrev pub decreases-loop-stem : goal.decreases-loop-stem
decreases-loop-stem l = length l.left
