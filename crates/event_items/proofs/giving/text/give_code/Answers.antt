use Rattle.std.proofs.Common.{sym, subst}
use Rattle.plain_model.specs.Unit.{printed, shown_code}
use Rattle.event_items.specs.Giving.{TookItems}
use Rattle.event_items.proofs.giving.text.give_code.Goals as goal

pub returns-then-code-eq-LINE_END : goal.returns-then-code-eq-LINE_END
returns-then-code-eq-LINE_END g c =
    subst (λ n. TookItems g.T.Taker.fault_count g.T.Taker.onward g.T.Taker.stands g.T.Taker.cut c.args.out.now c.give_text.new.out c.give_text.result (λ d. printed c.args.t (shown_code n))) (sym c.if-code-eq-LINE_END.true) c.give_text.ensures
