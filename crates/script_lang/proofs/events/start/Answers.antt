use Rattle.script_texts.specs.Script.{IsOctal}
use Rattle.script_lang.proofs.Fronts.{moved, tty_field}
use Rattle.script_lang.proofs.Readings.{start_parts, start_spells}
use Rattle.script_lang.proofs.events.start.Goals as goal

pub returns-in_err-tty : goal.returns-in_err-tty
returns-in_err-tty c = rw c.from_residual.ensures (λ e h. let p = start_parts c.args.rest.now e h in c.in_err-tty.ensures p.t p.x p.tty)

pub returns-in_err-address : goal.returns-in_err-address
returns-in_err-address c = rw c.from_residual-in_err-address.ensures (λ e h.
    let p = start_parts c.args.rest.now e h in
    c.in_err-address.ensures p.address
    (moved tty_field c.args.rest.now c.in_ok-tty.tty p.t c.in_ok-tty.field.now p.x c.in_ok-tty.ensures p.tty (λ x. IsOctal 6 x p.address) p.place))

pub returns : goal.returns
returns c = start_spells c.args.rest.now c.in_ok-tty.tty c.in_ok-tty.field.now c.in_ok-address.field-0 c.in_ok-tty.ensures c.in_ok-address.ensures
