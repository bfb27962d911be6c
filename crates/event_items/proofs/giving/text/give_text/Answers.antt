use Rattle.std.proofs.Common.{[], ◌∷◌, take, drop, get_or, ◌+◌, arith, sym, subst}
use Rattle.script_texts.specs.declared.event.Item.TheVariants.{Char}
use Rattle.plain_model.specs.Unit.{printed}
use Rattle.script_texts.proofs.Takers.{onward_then}
use Rattle.event_items.specs.Giving.{Takes}
use Rattle.event_items.proofs.Given.{on_err, takes_part, takes_then, printed_split}
use Rattle.event_items.proofs.giving.text.give_text.Goals as goal

pub returns-in_err-item : goal.returns-in_err-item
returns-in_err-item g c =
    let i = c.loop-code.invariant in
    let t = c.args.t in
    let text = c.args.text.now in
    let n = c.loop-code.code-index in
    let r = c.from_residual.result in
    record {
      taker = record {
        later = omega (arith, i.later, c.in_err-item.ensures.later);
        cause = on_err r (omega (arith, i.later, c.in_err-item.ensures.cause));
        goes_on = onward_then g.T.Taker.onward _ _ _ i.onward c.in_err-item.ensures.onward;
      };
      given = λ d.
          subst (λ is. Takes g.T.Taker.stands g.T.Taker.cut c.args.out.now c.item.new.self r is []) (sym (printed_split t text n c.loop-code-test.true))
          (takes_then g.T.Taker.stands g.T.Taker.cut c.args.out.now _ c.item.new.self r (printed t (take n text)) (Char t (get_or text n 0) ∷ printed t (drop (n + 1) text)) [] [] i.given
          (takes_part g.T.Taker.stands g.T.Taker.cut _ c.item.new.self r (Char t (get_or text n 0) ∷ []) (printed t (drop (n + 1) text)) [] [] c.from_residual.ensures.0 c.in_err-item.ensures.err));
    }
