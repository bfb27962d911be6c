use Rattle.std.proofs.Common.{◌≡◌, ◌≤◌, ◌-◌, []}
use Rattle.script_texts.specs.Script.{most_bytes}
use Rattle.line_buffer.specs.Feeds.{Reads}
use Rattle.script_lang.specs.Lines.{GivesFront, IsUndecided, given, pending, turns_given}
use Rattle.script_lang.proofs.lines.Lines.advance.Given as goal

abbrev pub invariant-loop-event : goal.invariant-loop-event
invariant-loop-event g l = record {
  later : g.S.Source.fault_count l.fn.s ≤ g.S.Source.fault_count l.s;
  unfaulted : g.S.Source.fault_count l.s ≡ g.S.Source.fault_count l.fn.s;
  stage : l.self.stage ≡ l.fn.self.stage;
  reads : Reads g.S.Source.left (IsUndecided (given l.fn.self)) (pending l.fn.self) l.fn.s l.s (GivesFront l.fn.self l.self []);
  further : given l.fn.self ≤ given l.self;
  same : turns_given l.self ≡ turns_given l.fn.self;
}

abbrev pub decreases-loop-event : goal.decreases-loop-event
decreases-loop-event g l = most_bytes - given l.self
