use Rattle.asm_console.proofs.Writes.{any_err, any_ok, grows_stays, partly_whole}
use Rattle.asm_console.proofs.call.write_program.Goals as goal

pub returns-in_err-write_lines-clause-err : goal.returns-in_err-write_lines-clause-err
returns-in_err-write_lines-clause-err g c = any_err c.from_residual.result c.in_err-write_lines.ensures.err

pub returns-clause-ok : goal.returns-clause-ok
returns-clause-ok g c = any_ok c.flush.result (grows_stays _ _ _ _ c.in_ok-write_lines.ensures.ok c.flush.ensures.stays)

pub returns-clause-err : goal.returns-clause-err
returns-clause-err g c = any_err c.flush.result (partly_whole _ _ _ (grows_stays _ _ _ _ c.in_ok-write_lines.ensures.ok c.flush.ensures.stays))
