use Rattle.script_texts.specs.Script.{IsOctal}
use Rattle.script_lang.specs.Fields.{Begins}
use Rattle.script_lang.proofs.Fronts.{moved, octal_field, tty_field}
use Rattle.script_lang.proofs.Readings.{poke_parts, poke_spells}
use Rattle.script_lang.proofs.events.poke.Goals as goal

pub returns-in_err-tty : goal.returns-in_err-tty
returns-in_err-tty c = rw c.from_residual.ensures (λ e h. let p = poke_parts c.args.rest.now e h in c.in_err-tty.ensures p.t p.x p.tty)

pub returns-in_err-address : goal.returns-in_err-address
returns-in_err-address c = rw c.from_residual-in_err-address.ensures (λ e h.
    let p = poke_parts c.args.rest.now e h in
    c.in_err-address.ensures p.address p.y
    (moved tty_field c.args.rest.now c.in_ok-tty.tty p.t c.in_ok-tty.rest.now p.x c.in_ok-tty.ensures p.tty (λ x. Begins (IsOctal 6) x p.address p.y) p.place))

pub returns-in_err-word : goal.returns-in_err-word
returns-in_err-word c = rw c.from_residual-in_err-word.ensures (λ e h.
    let p = poke_parts c.args.rest.now e h in
    let place = moved tty_field c.args.rest.now c.in_ok-tty.tty p.t c.in_ok-tty.rest.now p.x c.in_ok-tty.ensures p.tty (λ x. Begins (IsOctal 6) x p.address p.y) p.place in
    c.in_err-word.ensures p.word
    (moved (octal_field 6) c.in_ok-tty.rest.now c.in_ok-address.address p.address c.in_ok-address.field.now p.y c.in_ok-address.ensures place (λ y. IsOctal 12 y p.word) p.value))

pub returns : goal.returns
returns c = poke_spells c.args.rest.now c.in_ok-tty.tty c.in_ok-tty.rest.now c.in_ok-address.address c.in_ok-address.field.now c.in_ok-word.field-0 c.in_ok-tty.ensures c.in_ok-address.ensures c.in_ok-word.ensures
