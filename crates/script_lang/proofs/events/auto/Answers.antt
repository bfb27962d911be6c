use Rattle.std.proofs.Common.{◌++◌, ap, codes}
use Rattle.script_lang.proofs.Readings.{auto_parts}
use Rattle.script_lang.proofs.events.auto.Goals as goal

pub returns-in_err-switch : goal.returns-in_err-switch
returns-in_err-switch c = rw c.from_residual.ensures (λ e h. let p = auto_parts c.args.rest.now e h in c.in_err-switch.ensures p.on p.text)

pub returns : goal.returns
returns c = ap (λ l. codes "AUTO " ++ l) c.in_ok-switch.ensures
