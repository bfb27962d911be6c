use Rattle.std.proofs.Common.{ℕ, Result, sym, ◌∙◌, ap, subst}
use Rattle.plain_model.specs.declared.fork.Fork.{Fork}
use Rattle.plain_pages.specs.PlainPages.{NumberedPages}
use Rattle.plain_model.specs.Calls.{Turn, ends, given, no_files, returning, turn_on, with_ac}
use Rattle.plain_units.specs.declared.registers.Regs.{Regs}
use Rattle.call_turns.specs.declared.answer.Answer.{Answer}
use Rattle.call_turns.specs.Answers.{FitsAnswer, IsDone, answer_of}
use Rattle.file_calls.proofs.errors.geter.Goals as goal

-- the turn about the fork that is named, or that says why none is; and what it answers
abbrev asked_error : Regs → Result Fork ℕ → Turn ⊥ (Unit {0})
asked_error regs named = given named (λ f. ends (returning tt (with_ac regs 2 f.body.error)))

abbrev answered : Regs → NumberedPages → Result Fork ℕ → Answer
answered regs p named = answer_of (turn_on no_files p (asked_error regs named)).end

pub returns-in-Ok : goal.returns-in-Ok
unfolding turn_on
returns-in-Ok c =
    let is = c.answer_of.ensures ∙ ap answer_of c.returning.ensures.end in
    record {
      told = λ p. is ∙ ap (λ w. answer_of (returning {C = Unit {0}} tt w)) c.with_error.ensures.with ∙ ap (answered c.args.regs.now p) c.in-Ok.ensures.named;
      done = subst IsDone (sym is) tt;
      fits = subst FitsAnswer (sym is) (c.returning.ensures.fits c.with_error.ensures.fits, tt, tt);
    }

pub returns-in-Err : goal.returns-in-Err
unfolding turn_on
returns-in-Err c = record { told = λ p. ap (answered c.args.regs.now p) c.in-Err.ensures.named; done = tt; fits = tt }
