use Rattle.std.proofs.Common.{◌≡◌, ◌∙◌, replicate, ap, arith}
use Rattle.machine_names.specs.declared.names.TheConstants.{TERMINALS}
use Rattle.monitor_calls.specs.Typings.{new_typing, nothing_typed}
use Rattle.monitor_calls.proofs.typing.empty_typings.Goals as goal

pub returns : goal.returns
unfolding nothing_typed
returns c =
    let all : c.loop-terminal._terminal ≡ TERMINALS = omega arith in
    c.loop-terminal.invariant ∙ ap (λ n. replicate n new_typing) all
