use Rattle.std.proofs.lemmas.Result.{on_err_weaker, on_ok_weaker}
use Rattle.paged_events.proofs.GivenRows.{cut_in_items, cut_in_last, cut_in_steps, no_ok, on_err, row_ok}
use Rattle.paged_events.proofs.giving.give_row.Goals as goal

pub returns-in_err-give_steps-clause-ok : goal.returns-in_err-give_steps-clause-ok
returns-in_err-give_steps-clause-ok g c = no_ok _ c.from_residual.result c.from_residual.ensures.0

pub returns-in_err-give_steps-clause-err : goal.returns-in_err-give_steps-clause-err
returns-in_err-give_steps-clause-err g c =
    on_err c.from_residual.result (λ d f gives. cut_in_steps g.T.Taker.stands g.T.Taker.cut c.args.step.now c.args.count c.requires.some (g.S.System.means.items (g.S.System.means.plain c.args.waits.now.system d) c.args.what.now) c.args.out.now c.give_steps.new.out c.in_err-give_steps.ensures.err)

pub returns-in_err-give-clause-ok : goal.returns-in_err-give-clause-ok
returns-in_err-give-clause-ok g c = no_ok _ c.from_residual-in_err-give.result c.from_residual-in_err-give.ensures.0

pub returns-in_err-give-clause-err : goal.returns-in_err-give-clause-err
returns-in_err-give-clause-err g c =
    on_err c.from_residual-in_err-give.result (λ d f gives. cut_in_items g.T.Taker.stands g.T.Taker.cut c.args.step.now c.args.count c.requires.some (g.S.System.means.items (g.S.System.means.plain c.args.waits.now.system d) c.args.what.now) c.args.out.now c.give_steps.new.out c.give.new.out c.in_ok-give_steps.ensures.ok (c.in_err-give.ensures.err d f gives))

pub returns-clause-ok : goal.returns-clause-ok
returns-clause-ok g c =
    on_ok_weaker c.step.result (λ last d f gives. row_ok g.T.Taker.stands g.T.Taker.cut c.args.step.now c.args.count c.requires.some (g.S.System.means.items (g.S.System.means.plain c.args.waits.now.system d) c.args.what.now) c.args.out.now c.give_steps.new.out c.give.new.out c.step.new.self c.in_ok-give_steps.ensures.ok (c.in_ok-give.ensures.ok d f gives) last) c.step.ensures.ok

pub returns-clause-err : goal.returns-clause-err
returns-clause-err g c =
    on_err_weaker c.step.result (λ last d f gives. cut_in_last g.T.Taker.stands g.T.Taker.cut c.args.step.now c.args.count c.requires.some (g.S.System.means.items (g.S.System.means.plain c.args.waits.now.system d) c.args.what.now) c.args.out.now c.give_steps.new.out c.give.new.out c.step.new.self c.in_ok-give_steps.ensures.ok (c.in_ok-give.ensures.ok d f gives) last) c.step.ensures.err
