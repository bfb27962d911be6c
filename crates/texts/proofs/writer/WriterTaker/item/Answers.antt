use Rattle.std.proofs.Common.{refl}
use Rattle.texts.proofs.Answered.{went, failed, any_err}
use Rattle.texts.proofs.Standing.{item_goes_on, item_cut}
use Rattle.texts.proofs.writer.WriterTaker.item.Goals as goal

pub returns-clause-ok : goal.returns-clause-ok
returns-clause-ok g c =
    item_goes_on _ _ _ _ c.args.i (went _ c.counted.ensures.answer c.in_ok-counted.was c.put_item.ensures.ok) c.open_line-self.ensures refl refl c.count_item.ensures

pub returns-in_err-counted-clause-err : goal.returns-in_err-counted-clause-err
returns-in_err-counted-clause-err g c =
    any_err c.from_residual.result
    (item_cut _ _ _ _ c.args.i (failed _ c.counted.ensures.answer c.in_err-counted.was c.put_item.ensures.err) refl)
