use Rattle.texts.proofs.Answered.{any_err}
use Rattle.texts.proofs.Standing.{kept_cut}
use Rattle.texts.proofs.writer.WriterTaker.flush.Goals as goal

pub returns-clause-err : goal.returns-clause-err
returns-clause-err g c = any_err c.flush_both.result (kept_cut _ _ _ _ c.flush_both.ensures.keeps)
