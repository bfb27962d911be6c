use Rattle.std.proofs.Common.{refl}
use Rattle.texts.proofs.Answered.{went, failed, any_ok, any_err, same_grows, same_partly}
use Rattle.texts.proofs.Writes.{grows_stays}
use Rattle.texts.proofs.Standing.{finishes, finished_cut, record_fails, transcript_fails}
use Rattle.texts.proofs.writer.Writer.finish.Goals as goal

pub returns-in_err-counted-clause-err : goal.returns-in_err-counted-clause-err
returns-in_err-counted-clause-err g c =
    any_err c.from_residual.result
    (transcript_fails _ _ _ _ c.args.last (same_partly _ _ _ _ c.end_line-out_end.ensures (failed _ c.counted.ensures.answer c.in_err-counted.was c.put.ensures.err)) refl)

pub returns-in_err-counted-2-clause-err : goal.returns-in_err-counted-2-clause-err
returns-in_err-counted-2-clause-err g c =
    any_err c.from_residual-in_err-counted-2.result
    (record_fails _ _ _ _ c.args.last (same_grows _ _ _ _ c.end_line-out_end.ensures (went _ c.counted.ensures.answer c.in_ok-counted.was c.put.ensures.ok))
    (same_partly _ _ _ _ c.record_end-rec_end.ensures (failed _ c.counted-2.ensures.answer c.in_err-counted-2.was c.put-2.ensures.err)))

pub returns-clause-ok : goal.returns-clause-ok
returns-clause-ok g c =
    any_ok c.flush_both.result
    (finishes _ _ _ _ c.args.last
    (grows_stays _ _ _ _ (same_grows _ _ _ _ c.end_line-out_end.ensures (went _ c.counted.ensures.answer c.in_ok-counted.was c.put.ensures.ok)) c.flush_both.ensures.keeps.out)
    (grows_stays _ _ _ _ (same_grows _ _ _ _ c.record_end-rec_end.ensures (went _ c.counted-2.ensures.answer c.in_ok-counted-2.was c.put-2.ensures.ok)) c.flush_both.ensures.keeps.rec))

pub returns-clause-err : goal.returns-clause-err
returns-clause-err g c =
    any_err c.flush_both.result
    (finished_cut _ _ _ _ c.args.last
    (finishes _ _ _ _ c.args.last
    (grows_stays _ _ _ _ (same_grows _ _ _ _ c.end_line-out_end.ensures (went _ c.counted.ensures.answer c.in_ok-counted.was c.put.ensures.ok)) c.flush_both.ensures.keeps.out)
    (grows_stays _ _ _ _ (same_grows _ _ _ _ c.record_end-rec_end.ensures (went _ c.counted-2.ensures.answer c.in_ok-counted-2.was c.put-2.ensures.ok)) c.flush_both.ensures.keeps.rec)))
