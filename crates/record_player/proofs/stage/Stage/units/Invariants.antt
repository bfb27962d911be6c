use Rattle.std.proofs.Common.{◌≤◌, ◌-◌, replicate}
use Rattle.script_texts.specs.Taker.{StaysOnward}
use Rattle.script_texts.specs.declared.event.Step.TheVariants.{Unit as AUnit}
use Rattle.record_player.specs.Stages.{Gives}
use Rattle.record_player.proofs.stage.Stage.units.Given as goal

abbrev pub invariant-loop-left : goal.invariant-loop-left
invariant-loop-left g l = record {
  few : l.left ≤ l.count;
  later : g.T.Taker.fault_count l.fn.out ≤ g.T.Taker.fault_count l.out;
  onward : StaysOnward g.T.Taker.onward l.fn.out l.out;
  gives : Gives g.T.Taker.stands l.fn.self l.self l.fn.out l.out (replicate (l.count - l.left) (AUnit l.fork));
}

abbrev pub decreases-loop-left : goal.decreases-loop-left
decreases-loop-left g l = l.left
