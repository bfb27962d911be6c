use Rattle.asm_console.proofs.Writes.{any_err, grows_stays, partly_whole}
use Rattle.asm_console.proofs.call.write_stopped.Goals as goal

pub returns-clause-err : goal.returns-clause-err
returns-clause-err g c = any_err c.flush.result (partly_whole _ _ _ (grows_stays _ _ _ _ c.in_ok-write_why.ensures.ok c.flush.ensures.stays))
