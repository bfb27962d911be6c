use Rattle.std.proofs.Common.{◌≡◌, All, take}
use Rattle.outside.specs.Told.{Grows}
use Rattle.script_texts.specs.Limits.{FitsEvent}
use Rattle.asm_console.specs.Lines.{events_of, lines_text}
use Rattle.asm_console.proofs.lines.write_lines.Given as goal

abbrev pub invariant-loop-placed : goal.invariant-loop-placed
invariant-loop-placed g l = record {
  unfaulted : g.T.Sink.fault_count l.out ≡ g.T.Sink.fault_count l.fn.out;
  fits : All FitsEvent (events_of l.t (take l.placed-index l.program));
  grows : Grows (g.T.Sink.taken l.fn.out) (g.T.Sink.taken l.out) (lines_text l.t (take l.placed-index l.program));
}
