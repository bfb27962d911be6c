use Rattle.std.proofs.Common.{◌++◌, ap, sym, ◌∙◌, append_assoc}
use Rattle.plain_model.specs.Unit.{printed}
use Rattle.step_shown.specs.Echoes.{complaint_text}
use Rattle.event_items.proofs.Given.{forced_end, printed_append}
use Rattle.event_items.proofs.GivenParts.{part_failed, part_then, took_same}
use Rattle.event_items.proofs.giving.echo.give_complaint.Goals as goal

pub returns-in_err-give_text : goal.returns-in_err-give_text
returns-in_err-give_text g c =
    let t = c.args.t in
    let text = c.text.result.now in
    took_same g.T.Taker.fault_count g.T.Taker.onward g.T.Taker.stands g.T.Taker.cut _ _ c.from_residual.result (λ d. printed t text ++ printed t forced_end) _
    (λ d. sym (printed_append t text forced_end) ∙ ap (λ x. printed t (x ++ forced_end)) c.text.ensures ∙ ap (printed t) (sym (append_assoc (complaint_text c.args.why) _ _)))
    (part_failed g.T.Taker.fault_count g.T.Taker.onward g.T.Taker.stands g.T.Taker.cut _ _ _ c.from_residual.result (λ d. printed t text) (λ d. printed t forced_end) c.from_residual.ensures.0 c.in_err-give_text.ensures)

pub returns : goal.returns
returns g c =
    let t = c.args.t in
    let text = c.text.result.now in
    took_same g.T.Taker.fault_count g.T.Taker.onward g.T.Taker.stands g.T.Taker.cut _ _ c.give_text-2.result (λ d. printed t text ++ printed t forced_end) _
    (λ d. sym (printed_append t text forced_end) ∙ ap (λ x. printed t (x ++ forced_end)) c.text.ensures ∙ ap (printed t) (sym (append_assoc (complaint_text c.args.why) _ _)))
    (part_then g.T.Taker.fault_count g.T.Taker.onward g.T.Taker.stands g.T.Taker.cut _ _ _ _ c.give_text-2.result (λ d. printed t text) (λ d. printed t forced_end) c.in_ok-give_text.ensures c.give_text-2.ensures)
