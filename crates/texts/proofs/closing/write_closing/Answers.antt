use Rattle.texts.proofs.Answered.{any_err, any_ok, same_grows, same_partly}
use Rattle.texts.proofs.Writes.{fronted, grows_stays, whole_partly}
use Rattle.texts.proofs.closing.write_closing.Goals as goal

pub returns-in_err-put-clause-err : goal.returns-in_err-put-clause-err
returns-in_err-put-clause-err g c = any_err c.from_residual.result (fronted _ _ _ (same_partly _ _ _ _ c.end_line-line.ensures c.in_err-put.ensures.err))

pub returns-clause-ok : goal.returns-clause-ok
returns-clause-ok g c = any_ok c.flush.result (grows_stays _ _ _ _ (same_grows _ _ _ _ c.end_line-line.ensures c.in_ok-put.ensures.ok) c.flush.ensures.stays)

pub returns-clause-err : goal.returns-clause-err
returns-clause-err g c =
    any_err c.flush.result (whole_partly _ _ _ (grows_stays _ _ _ _ (same_grows _ _ _ _ c.end_line-line.ensures c.in_ok-put.ensures.ok) c.flush.ensures.stays))
