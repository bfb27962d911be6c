use Rattle.std.proofs.Common.{◌≡◌, ◌≤◌, [], take}
use Rattle.page_contracts.specs.DrumWords.{DrumWords}
use Rattle.plain_model.specs.TypeEvents.{typed_all}
use Rattle.script_texts.specs.Taker.{GoesOn, StaysOnward}
use Rattle.monitor_core.specs.Systems.{FitsPages, state_of}
use Rattle.record_player.proofs.stage.Stage.type_text.Given as goal

abbrev pub invariant-loop-code : goal.invariant-loop-code
invariant-loop-code g l = record {
  later : g.T.Taker.fault_count l.fn.out ≤ g.T.Taker.fault_count l.out;
  onward : StaysOnward g.T.Taker.onward l.fn.out l.out;
  left : (d : DrumWords) → FitsPages l.fn.self.system d → FitsPages l.self.system d × (state_of l.self.system d ≡ (typed_all (state_of l.fn.self.system d) l.t (take l.code-index l.text)).state);
  given : (d : DrumWords) → FitsPages l.fn.self.system d → GoesOn g.T.Taker.stands l.fn.out l.out (typed_all (state_of l.fn.self.system d) l.t (take l.code-index l.text)).items [];
  count : l.self.done ≡ l.fn.self.done;
}
