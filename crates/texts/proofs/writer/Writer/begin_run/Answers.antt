use Rattle.std.proofs.Common.{◌∙◌, refl, sym, arith, ap, Some}
use Rattle.texts.specs.Turns.{step_of}
use Rattle.texts.proofs.Answered.{went, failed, any_err, same_grows, same_partly}
use Rattle.texts.proofs.Standing.{turns_given, turns_cut, turn_counted}
use Rattle.texts.proofs.writer.Writer.begin_run.Goals as goal

pub returns-clause-ok : goal.returns-clause-ok
returns-clause-ok g c =
    turns_given _ _ _ _ (step_of c.args.turn) c.args.n 1 c.requires.some (turn_counted c.args.turn)
    (same_grows _ _ _ _ (c.run_line-line.ensures.bytes ∙ sym c.requires.text) (went _ c.counted.ensures.answer c.in_ok-counted.was c.put.ensures.ok)) c.requires.run
    (λ small. ap (λ k. Some (step_of c.args.turn, k)) (omega (arith, c.requires.some))) (omega (arith, c.requires.some)) refl refl c.count_turns.ensures

pub returns-in_err-counted-clause-err : goal.returns-in_err-counted-clause-err
returns-in_err-counted-clause-err g c =
    any_err c.from_residual.result
    (turns_cut _ _ _ _ (step_of c.args.turn) c.args.n c.requires.some
    (same_partly _ _ _ _ (c.run_line-line.ensures.bytes ∙ sym c.requires.text) (failed _ c.counted.ensures.answer c.in_err-counted.was c.put.ensures.err)) refl)
