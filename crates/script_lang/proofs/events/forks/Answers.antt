use Rattle.script_lang.proofs.Readings.{forks_parts}
use Rattle.script_lang.proofs.events.forks.Goals as goal

pub returns-in_err-tty : goal.returns-in_err-tty
returns-in_err-tty c = rw c.from_residual.ensures (λ e h. let p = forks_parts c.args.rest.now e h in c.in_err-tty.ensures p.t p.tty)
