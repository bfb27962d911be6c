use Rattle.script_texts.specs.Script.{IsDecimal}
use Rattle.script_lang.proofs.Fronts.{cut_not, decimal_field, uncut}
use Rattle.script_lang.proofs.fields.serial_field.Goals as goal

pub returns-in_err-front : goal.returns-in_err-front
returns-in_err-front c = rw c.from_residual.ensures (uncut (IsDecimal 6) c.args.text.now c.in_err-front.ensures)

pub returns-in_err-read_decimal : goal.returns-in_err-read_decimal
returns-in_err-read_decimal c = rw c.from_residual-in_err-read_decimal.ensures (cut_not (decimal_field 6) c.args.text.now c.in_ok-front.front.now c.in_ok-front.rest.now c.in_ok-front.ensures c.in_err-read_decimal.ensures)
