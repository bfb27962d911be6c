use Rattle.std.proofs.Common.{[], take, ◌≤◌}
use Rattle.script_texts.specs.Taker.{GoesOn, StaysOnward}
use Rattle.plain_model.specs.Unit.{printed}
use Rattle.event_items.proofs.giving.text.give_text.Given as goal

abbrev pub invariant-loop-code : goal.invariant-loop-code
invariant-loop-code g l = record {
  later : g.T.Taker.fault_count l.fn.out ≤ g.T.Taker.fault_count l.out;
  onward : StaysOnward g.T.Taker.onward l.fn.out l.out;
  given : GoesOn g.T.Taker.stands l.fn.out l.out (printed l.t (take l.code-index l.text)) [];
}
