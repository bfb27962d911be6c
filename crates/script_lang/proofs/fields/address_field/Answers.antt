use Rattle.script_texts.specs.Script.{IsOctal}
use Rattle.script_lang.proofs.Fronts.{cut_not, octal_field, uncut}
use Rattle.script_lang.proofs.fields.address_field.Goals as goal

pub returns-in_err-front : goal.returns-in_err-front
returns-in_err-front c = rw c.from_residual.ensures (uncut (IsOctal 6) c.args.text.now c.in_err-front.ensures)

pub returns-in_err-address : goal.returns-in_err-address
returns-in_err-address c = rw c.from_residual-in_err-address.ensures (cut_not (octal_field 6) c.args.text.now c.in_ok-front.front.now c.in_ok-front.rest.now c.in_ok-front.ensures c.in_err-address.ensures)
