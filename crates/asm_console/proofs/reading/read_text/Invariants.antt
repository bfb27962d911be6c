use Rattle.std.proofs.Common.{◌≡◌, length, ◌-◌, ◌≤◌}
use Rattle.outside.specs.Told.{Loses}
use Rattle.asm_console.proofs.reading.read_text.Given as goal

abbrev pub invariant-loop-count : goal.invariant-loop-count
invariant-loop-count g l = record {
  within : length l.text.items ≤ 1048576;
  room : length l.piece ≡ 4096;
  unfaulted : g.S.Source.fault_count l.source ≡ g.S.Source.fault_count l.fn.source;
  loses : Loses (g.S.Source.left l.fn.source) (g.S.Source.left l.source) l.text.items;
}

abbrev pub decreases-loop-count : goal.decreases-loop-count
decreases-loop-count g l = 1048577 - length l.text.items
