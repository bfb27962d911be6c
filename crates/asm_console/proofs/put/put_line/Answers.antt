use Rattle.std.proofs.Common.{[], ◌∷◌}
use Rattle.asm_console.proofs.Writes.{any_err, grows_then, map_err, map_ok, partly_longer, partly_then}
use Rattle.asm_console.proofs.put.put_line.Goals as goal

pub returns-in_err-put-clause-err : goal.returns-in_err-put-clause-err
returns-in_err-put-clause-err g c = any_err c.from_residual.result (partly_longer _ _ c.args.text.now (10 ∷ []) c.in_err-put.ensures.err)

pub returns-clause-ok : goal.returns-clause-ok
returns-clause-ok g c = map_ok c.put-2.result (grows_then _ _ _ c.args.text.now (10 ∷ []) c.in_ok-put.ensures.ok) c.put-2.ensures.ok

pub returns-clause-err : goal.returns-clause-err
returns-clause-err g c = map_err c.put-2.result (partly_then _ _ _ c.args.text.now (10 ∷ []) c.in_ok-put.ensures.ok) c.put-2.ensures.err
