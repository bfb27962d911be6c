use Rattle.std.proofs.Common.{◌≡◌, replicate}
use Rattle.monitor_calls.specs.Typings.{new_typing}
use Rattle.monitor_calls.proofs.typing.empty_typings.Given as goal

abbrev pub invariant-loop-terminal : goal.invariant-loop-terminal
invariant-loop-terminal l = l.typed.items ≡ replicate l._terminal new_typing
