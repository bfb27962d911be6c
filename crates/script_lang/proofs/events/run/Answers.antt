use Rattle.script_lang.proofs.Readings.{run_parts}
use Rattle.script_lang.proofs.events.run.Goals as goal

pub returns-in_err-n : goal.returns-in_err-n
returns-in_err-n c = rw c.from_residual.ensures (λ e h. let p = run_parts c.args.rest.now e h in c.in_err-n.ensures p.count.n p.count.decimal)
