use Rattle.std.proofs.Common.{◌≡◌, ◌<◌, ◌^◌, drop}
use Rattle.plain_model.specs.ForkCalls.{stored_low}
use Rattle.fork_calls.proofs.storing.stored_low.Given as goal

abbrev pub invariant-loop-i : goal.invariant-loop-i
invariant-loop-i l = record {
  low : l.next < 2 ^ 18;
  so_far : stored_low l.ac l.next (drop l.i l.words) ≡ stored_low l.fn.ac l.at l.words;
}
