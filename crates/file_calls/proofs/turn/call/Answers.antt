use Rattle.std.proofs.Common.{cond, refl, sym, subst, arith}
use Rattle.std.proofs.lemmas.Bool.{ne_eqb}
use Rattle.plain_model.specs.declared.call.TheConstants.{GETER}
use Rattle.plain_model.specs.declared.call.End.TheVariants.{Trap}
use Rattle.plain_units.specs.declared.channel.TheConstants.{ILLEGAL_INSTRUCTION}
use Rattle.plain_model.specs.Calls.{ends, turn_on}
use Rattle.plain_model.specs.FileCalls.{file_call, geter}
use Rattle.call_turns.specs.declared.answer.Answer.TheVariants as answer
use Rattle.job_forks.specs.Asking.{asked}
use Rattle.file_calls.specs.Answering.{Answers}
use Rattle.file_calls.proofs.turn.call.Goals as goal

pub returns-then-number-eq-GETER : goal.returns-then-number-eq-GETER
returns-then-number-eq-GETER c = subst (λ n. Answers (file_call n (asked c.args.who c.args.regs.now c.args.tree.now)) c.geter.result) (sym c.if-number-eq-GETER.true) c.geter.ensures

pub returns : goal.returns
unfolding turn_on
returns c =
    subst (λ b. Answers (cond b (geter (asked c.args.who c.args.regs.now c.args.tree.now)) (ends (Trap ILLEGAL_INSTRUCTION))) (answer.Trap ILLEGAL_INSTRUCTION))
    (sym (ne_eqb GETER c.args.number (λ same. c.if-number-eq-GETER.false (sym same))))
    (record { told = λ p. refl; done = tt; fits = omega arith })
