use Rattle.std.proofs.Common.{[], ◌++◌, sym, subst}
use Rattle.plain_model.specs.Unit.{printed, shown_code, turn_printed}
use Rattle.event_items.specs.Giving.{Takes, TookItems}
use Rattle.step_shown.specs.Shown.{stop_items}
use Rattle.event_items.proofs.Given.{taker_failed, taker_then, takes_part, takes_then}
use Rattle.event_items.proofs.giving.unit.give_shown.Goals as goal

pub returns-in_err-give_code-in-Some : goal.returns-in_err-give_code-in-Some
returns-in_err-give_code-in-Some g c =
    let t = c.args.t in
    let stop = c.args.shown.stop in
    let r = c.from_residual.result in
    let failed = c.in_err-give_code-in-Some.ensures in
    record {
      taker = taker_failed g.T.Taker.fault_count g.T.Taker.onward c.args.out.now c.give_code.new.out _ r failed.taker;
      given = λ d.
          subst (λ o. Takes g.T.Taker.stands g.T.Taker.cut c.args.out.now c.give_code.new.out r (turn_printed t o ++ stop_items t stop) []) (sym c.in-Some.is)
          (takes_part g.T.Taker.stands g.T.Taker.cut _ _ r (printed t (shown_code c.in-Some.code)) (stop_items t stop) [] [] c.from_residual.ensures.0 (failed.given d).err);
    }

pub returns-in_ok-give_code-in-Some : goal.returns-in_ok-give_code-in-Some
returns-in_ok-give_code-in-Some g c =
    let t = c.args.t in
    let stop = c.args.shown.stop in
    let r = c.give_stop.result in
    record {
      taker = taker_then g.T.Taker.fault_count g.T.Taker.onward c.args.out.now c.give_code.new.out c.give_stop.new.out c.give_code.result r c.give_code.ensures.taker c.give_stop.ensures.taker;
      given = λ d.
          subst (λ o. Takes g.T.Taker.stands g.T.Taker.cut c.args.out.now c.give_stop.new.out r (turn_printed t o ++ stop_items t stop) []) (sym c.in-Some.is)
          (takes_then g.T.Taker.stands g.T.Taker.cut _ _ _ r (printed t (shown_code c.in-Some.code)) (stop_items t stop) [] [] (c.in_ok-give_code-in-Some.ensures.given d).ok (c.give_stop.ensures.given d));
    }

pub returns-in-None : goal.returns-in-None
returns-in-None g c =
    let t = c.args.t in
    subst (λ o. TookItems g.T.Taker.fault_count g.T.Taker.onward g.T.Taker.stands g.T.Taker.cut c.args.out.now c.give_stop-in-None.new.out c.give_stop-in-None.result (λ d. turn_printed t o ++ stop_items t c.args.shown.stop)) (sym c.in-None.is) c.give_stop-in-None.ensures
