use Rattle.script_lang.proofs.Readings.{evict_parts}
use Rattle.script_lang.proofs.events.evict.Goals as goal

pub returns-in_err-read_decimal : goal.returns-in_err-read_decimal
returns-in_err-read_decimal c = rw c.from_residual.ensures (λ e h. let p = evict_parts c.args.rest.now e h in c.in_err-read_decimal.ensures p.n p.decimal)
