use Rattle.std.proofs.Common.{[], ◌≤◌, ◌-◌, ◌+◌}
use Rattle.machine_names.specs.declared.names.TheConstants.{MOST_FORKS}
use Rattle.script_texts.specs.Taker.{GoesOn, StaysOnward}
use Rattle.event_items.proofs.ForksShown.{lines}
use Rattle.event_items.proofs.giving.forks.give_forks.Given as goal

abbrev pub invariant-loop-slot : goal.invariant-loop-slot
invariant-loop-slot g l = record {
  first : 1 ≤ l.slot;
  last : l.slot ≤ MOST_FORKS + 1;
  later : g.T.Taker.fault_count l.fn.out ≤ g.T.Taker.fault_count l.out;
  onward : StaysOnward g.T.Taker.onward l.fn.out l.out;
  given : GoesOn g.T.Taker.stands l.fn.out l.out (lines l.tree.forks l.t (l.slot - 1)) [];
}
