use Rattle.script_texts.specs.Script.{IsTty}
use Rattle.script_lang.proofs.Fronts.{cut_not, tty_field, uncut}
use Rattle.script_lang.proofs.fields.tty_field.Goals as goal

pub returns-in_err-front : goal.returns-in_err-front
returns-in_err-front c = rw c.from_residual.ensures (uncut IsTty c.args.text.now c.in_err-front.ensures)

pub returns-in_err-tty : goal.returns-in_err-tty
returns-in_err-tty c = rw c.from_residual-in_err-tty.ensures (cut_not tty_field c.args.text.now c.in_ok-front.front.now c.in_ok-front.rest.now c.in_ok-front.ensures c.in_err-tty.ensures)
