use Rattle.machine_names.specs.Bounds.{IsDirName}
use Rattle.script_lang.proofs.Fronts.{moved, tty_field}
use Rattle.script_lang.proofs.Readings.{login_parts, login_spells}
use Rattle.script_lang.proofs.events.login.Goals as goal

pub returns-in_err-tty : goal.returns-in_err-tty
returns-in_err-tty c = rw c.from_residual.ensures (λ e h. let p = login_parts c.args.rest.now e h in c.in_err-tty.ensures p.t p.user p.tty)

pub returns-in_err-dir_name : goal.returns-in_err-dir_name
returns-in_err-dir_name c = rw c.from_residual-in_err-dir_name.ensures (λ e h.
    let p = login_parts c.args.rest.now e h in
    c.in_err-dir_name.ensures (moved tty_field c.args.rest.now c.in_ok-tty.tty p.t c.in_ok-tty.user.now p.user c.in_ok-tty.ensures p.tty IsDirName p.name))

pub returns : goal.returns
returns c = login_spells c.args.rest.now c.in_ok-tty.tty c.in_ok-tty.user.now c.in_ok-dir_name.field-0 c.in_ok-tty.ensures c.in_ok-dir_name.ensures
