use Rattle.script_texts.specs.Script.{IsDecimal, IsOctal}
use Rattle.script_lang.specs.Fields.{Begins}
use Rattle.script_lang.proofs.Fronts.{decimal_field, moved, tty_field}
use Rattle.script_lang.proofs.Readings.{examine_parts, examine_spells}
use Rattle.script_lang.proofs.events.examine.Goals as goal

pub returns-in_err-tty : goal.returns-in_err-tty
returns-in_err-tty c = rw c.from_residual.ensures (λ e h. let p = examine_parts c.args.rest.now e h in c.in_err-tty.ensures p.t p.x p.tty)

pub returns-in_err-serial : goal.returns-in_err-serial
returns-in_err-serial c = rw c.from_residual-in_err-serial.ensures (λ e h.
    let p = examine_parts c.args.rest.now e h in
    c.in_err-serial.ensures p.serial p.y
    (moved tty_field c.args.rest.now c.in_ok-tty.tty p.t c.in_ok-tty.rest.now p.x c.in_ok-tty.ensures p.tty (λ x. Begins (IsDecimal 6) x p.serial p.y) p.fork))

pub returns-in_err-address : goal.returns-in_err-address
returns-in_err-address c = rw c.from_residual-in_err-address.ensures (λ e h.
    let p = examine_parts c.args.rest.now e h in
    let fork = moved tty_field c.args.rest.now c.in_ok-tty.tty p.t c.in_ok-tty.rest.now p.x c.in_ok-tty.ensures p.tty (λ x. Begins (IsDecimal 6) x p.serial p.y) p.fork in
    c.in_err-address.ensures p.address
    (moved (decimal_field 6) c.in_ok-tty.rest.now c.in_ok-serial.serial p.serial c.in_ok-serial.field.now p.y c.in_ok-serial.ensures fork (λ y. IsOctal 6 y p.address) p.place))

pub returns : goal.returns
returns c = examine_spells c.args.rest.now c.in_ok-tty.tty c.in_ok-tty.rest.now c.in_ok-serial.serial c.in_ok-serial.field.now c.in_ok-address.field-0 c.in_ok-tty.ensures c.in_ok-serial.ensures c.in_ok-address.ensures
