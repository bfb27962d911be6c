use Rattle.std.specs.Prelude.{◌≡◌, ◌<◌}
use Rattle.plain_typing.specs.Lines.{AreAssigned}
use Rattle.plain_model.specs.InterruptCalls.{living_codes}
use Rattle.tty_lines.proofs.Assigned.{AreBelow}
use Rattle.psi_calls.proofs.codes.forget_lost.Given as goal

abbrev pub invariant-loop-code : goal.invariant-loop-code
invariant-loop-code l = record {
  input : l.line.input ≡ l.initial.line.input;
  below : AreBelow (living_codes l.tree.forks l.initial.line.codes) l.initial.line.codes l.line.codes l.code;
  assigned : 0 < l.code → AreAssigned l.initial.line.codes;
}
