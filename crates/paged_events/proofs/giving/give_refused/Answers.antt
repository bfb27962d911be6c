use Rattle.std.proofs.Common.{[], ◌∷◌}
use Rattle.std.proofs.lemmas.Result.{on_err_weaker, on_ok_weaker}
use Rattle.script_texts.specs.declared.event.Item.TheVariants.{Refusal}
use Rattle.script_texts.proofs.Takers.{cut_behind, cut_longer, goes_on_append}
use Rattle.paged_events.proofs.GivenRows.{no_ok, on_err}
use Rattle.paged_events.proofs.giving.give_refused.Goals as goal

pub returns-in_err-item-clause-ok : goal.returns-in_err-item-clause-ok
returns-in_err-item-clause-ok g c = no_ok _ c.from_residual.result c.from_residual.ensures.0

pub returns-in_err-item-clause-err : goal.returns-in_err-item-clause-err
returns-in_err-item-clause-err g c = on_err c.from_residual.result (cut_longer g.T.Taker.stands g.T.Taker.cut c.args.out.now c.item.new.self (Refusal c.args.cause ∷ []) [] [] (c.args.step.now ∷ []) c.in_err-item.ensures.err)

pub returns-clause-ok : goal.returns-clause-ok
returns-clause-ok g c = on_ok_weaker c.step.result (goes_on_append g.T.Taker.stands c.args.out.now c.item.new.self c.step.new.self (Refusal c.args.cause ∷ []) [] [] (c.args.step.now ∷ []) c.in_ok-item.ensures.ok) c.step.ensures.ok

pub returns-clause-err : goal.returns-clause-err
returns-clause-err g c = on_err_weaker c.step.result (cut_behind g.T.Taker.stands g.T.Taker.cut c.args.out.now c.item.new.self c.step.new.self (Refusal c.args.cause ∷ []) [] [] (c.args.step.now ∷ []) c.in_ok-item.ensures.ok) c.step.ensures.err
