use Rattle.std.proofs.Common.{arith}
use Rattle.script_lang.proofs.Characters.{escape_digits}
use Rattle.script_lang.proofs.typed.escaped.Goals as goal

pub returns-in_err-c : goal.returns-in_err-c
returns-in_err-c c = rw c.from_residual.ensures (λ d rest e. c.in_err-c.ensures (escape_digits c.args.text.now c.split_at.result.0.now d rest c.split_at.ensures.front e).0)

pub returns-then-c-gt-LAST_CHARACTER : goal.returns-then-c-gt-LAST_CHARACTER
returns-then-c-gt-LAST_CHARACTER c d rest e =
    let octal = escape_digits c.args.text.now c.split_at.result.0.now d rest c.split_at.ensures.front e in
    omega (arith, octal.1, c.in_ok-c.ensures.1, e.small, c.if-c-gt-LAST_CHARACTER.true)
