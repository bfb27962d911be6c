use Rattle.std.proofs.Common.{[], ◌∷◌, append_assoc, sym}
use Rattle.script_texts.specs.Texts.{ended}
use Rattle.asm_console.proofs.Writes.{any_err, grows_same, grows_then, map_err, map_ok, partly_longer, partly_same, partly_then}
use Rattle.asm_console.proofs.closing.put_both.Goals as goal

pub returns-in_err-put-clause-err : goal.returns-in_err-put-clause-err
returns-in_err-put-clause-err g c =
    let front = c.args.front.now in
    let rest = c.args.rest.now in
    any_err c.from_residual.result (partly_same _ _ _ _ (sym (append_assoc front rest (10 ∷ []))) (partly_longer _ _ front (ended rest) c.in_err-put.ensures.err))

pub returns-clause-ok : goal.returns-clause-ok
returns-clause-ok g c =
    let front = c.args.front.now in
    let rest = c.args.rest.now in
    map_ok c.put_line.result (λ h. grows_same _ _ _ _ (sym (append_assoc front rest (10 ∷ []))) (grows_then _ _ _ front (ended rest) c.in_ok-put.ensures.ok h)) c.put_line.ensures.ok

pub returns-clause-err : goal.returns-clause-err
returns-clause-err g c =
    let front = c.args.front.now in
    let rest = c.args.rest.now in
    map_err c.put_line.result (λ h. partly_same _ _ _ _ (sym (append_assoc front rest (10 ∷ []))) (partly_then _ _ _ front (ended rest) c.in_ok-put.ensures.ok h)) c.put_line.ensures.err
