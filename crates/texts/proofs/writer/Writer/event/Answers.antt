use Rattle.std.proofs.Common.{refl, arith}
use Rattle.script_texts.specs.declared.event.Step.TheVariants.{Outer}
use Rattle.texts.proofs.Answered.{went, failed, any_err, same_grows, same_partly}
use Rattle.texts.proofs.Standing.{step_goes_on, step_cut}
use Rattle.texts.proofs.writer.Writer.event.Goals as goal

pub returns-clause-ok : goal.returns-clause-ok
returns-clause-ok g c =
    step_goes_on _ _ _ _ (Outer c.args.e) (same_grows _ _ _ _ c.entry_line-line.ensures (went _ c.counted.ensures.answer c.in_ok-counted.was c.put.ensures.ok)) (λ small. refl) (omega arith) refl refl (c.count_event.ensures c.args.e)

pub returns-in_err-counted-clause-err : goal.returns-in_err-counted-clause-err
returns-in_err-counted-clause-err g c =
    any_err c.from_residual.result
    (step_cut _ _ _ _ (Outer c.args.e) (same_partly _ _ _ _ c.entry_line-line.ensures (failed _ c.counted.ensures.answer c.in_err-counted.was c.put.ensures.err)) refl)
