use Rattle.std.proofs.Common.{[], ◌∷◌, ◌++◌, All, ap, sym, ◌∙◌, subst, drop, length, ◌<◌}
use Rattle.machine_names.specs.declared.character.TheConstants.{CARRIAGE_RETURN, LINE_FEED}
use Rattle.plain_model.specs.Commands.{directory_prefix}
use Rattle.plain_model.specs.Unit.{printed}
use Rattle.event_items.proofs.Given.{printed_three}
use Rattle.event_items.proofs.GivenParts.{part_failed, part_then, took_same}
use Rattle.event_items.proofs.Listed.{part_low}
use Rattle.event_items.proofs.giving.listing.give_line.Goals as goal

pub give_text-requires-2-clause-codes : goal.give_text-requires-2-clause-codes
give_text-requires-2-clause-codes g c = subst (All (λ k. k < 128)) (sym c.file_part.ensures) (part_low c.args.name.now (length (directory_prefix c.args.user.now)) c.requires.name)

pub returns-in_err-give_text : goal.returns-in_err-give_text
returns-in_err-give_text g c =
    let t = c.args.t in
    let part = drop (length (directory_prefix c.args.user.now)) c.args.name.now in
    let end = CARRIAGE_RETURN ∷ LINE_FEED ∷ [] in
    took_same g.T.Taker.fault_count g.T.Taker.onward g.T.Taker.stands g.T.Taker.cut _ _ c.from_residual.result (λ d. printed t (32 ∷ []) ++ (printed t part ++ printed t end)) _ (λ d. sym (printed_three t (32 ∷ []) part end))
    (part_failed g.T.Taker.fault_count g.T.Taker.onward g.T.Taker.stands g.T.Taker.cut _ _ _ c.from_residual.result (λ d. printed t (32 ∷ [])) (λ d. printed t part ++ printed t end) c.from_residual.ensures.0 c.in_err-give_text.ensures)

pub returns-in_err-give_text-2 : goal.returns-in_err-give_text-2
returns-in_err-give_text-2 g c =
    let t = c.args.t in
    let r = c.from_residual-in_err-give_text-2.result in
    let part = drop (length (directory_prefix c.args.user.now)) c.args.name.now in
    let end = CARRIAGE_RETURN ∷ LINE_FEED ∷ [] in
    took_same g.T.Taker.fault_count g.T.Taker.onward g.T.Taker.stands g.T.Taker.cut _ _ r (λ d. printed t (32 ∷ []) ++ (printed t c.file_part.result.now ++ printed t end)) _
    (λ d. ap (λ x. printed t (32 ∷ []) ++ (printed t x ++ printed t end)) c.file_part.ensures ∙ sym (printed_three t (32 ∷ []) part end))
    (part_then g.T.Taker.fault_count g.T.Taker.onward g.T.Taker.stands g.T.Taker.cut _ _ _ _ r (λ d. printed t (32 ∷ [])) (λ d. printed t c.file_part.result.now ++ printed t end) c.in_ok-give_text.ensures
    (part_failed g.T.Taker.fault_count g.T.Taker.onward g.T.Taker.stands g.T.Taker.cut _ _ _ r (λ d. printed t c.file_part.result.now) (λ d. printed t end) c.from_residual-in_err-give_text-2.ensures.0 c.in_err-give_text-2.ensures))

pub returns : goal.returns
returns g c =
    let t = c.args.t in
    let r = c.give_text-3.result in
    let part = drop (length (directory_prefix c.args.user.now)) c.args.name.now in
    let end = CARRIAGE_RETURN ∷ LINE_FEED ∷ [] in
    took_same g.T.Taker.fault_count g.T.Taker.onward g.T.Taker.stands g.T.Taker.cut _ _ r (λ d. printed t (32 ∷ []) ++ (printed t c.file_part.result.now ++ printed t end)) _
    (λ d. ap (λ x. printed t (32 ∷ []) ++ (printed t x ++ printed t end)) c.file_part.ensures ∙ sym (printed_three t (32 ∷ []) part end))
    (part_then g.T.Taker.fault_count g.T.Taker.onward g.T.Taker.stands g.T.Taker.cut _ _ _ _ r (λ d. printed t (32 ∷ [])) (λ d. printed t c.file_part.result.now ++ printed t end) c.in_ok-give_text.ensures
    (part_then g.T.Taker.fault_count g.T.Taker.onward g.T.Taker.stands g.T.Taker.cut _ _ _ _ r (λ d. printed t c.file_part.result.now) (λ d. printed t end) c.in_ok-give_text-2.ensures c.give_text-3.ensures))
