use Rattle.script_lang.proofs.Readings.{file_parts, file_spells}
use Rattle.script_lang.proofs.events.file.Goals as goal

pub returns-in_err-file_name : goal.returns-in_err-file_name
returns-in_err-file_name c = rw c.from_residual.ensures (λ e h. c.in_err-file_name.ensures (file_parts c.args.rest.now e h).name)

pub returns : goal.returns
returns c = file_spells c.args.rest.now c.in_ok-file_name.field-0 c.in_ok-file_name.ensures
