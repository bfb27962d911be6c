use Rattle.std.proofs.Common.{◌≡◌, [], ◌++◌, sym, ◌∙◌, subst}
use Rattle.std.specs.Prelude.{decimal}
use Rattle.plain_model.specs.Unit.{printed}
use Rattle.script_texts.specs.Taker.{GoesOn, IsCut}
use Rattle.event_items.specs.Giving.{Takes}
use Rattle.event_items.proofs.Given.{forced_start, forced_end, printed_three, taker_failed, taker_then, takes_part, takes_then}
use Rattle.event_items.proofs.giving.unit.give_forced.Goals as goal

pub returns-in_err-give_text : goal.returns-in_err-give_text
returns-in_err-give_text g c =
    let t = c.args.t in
    let number = decimal c.args.channel in
    let r = c.from_residual.result in
    let failed = c.in_err-give_text.ensures in
    record {
      taker = taker_failed g.T.Taker.fault_count g.T.Taker.onward c.args.out.now c.give_text.new.out _ r failed.taker;
      given = λ d.
          subst (λ is. Takes g.T.Taker.stands g.T.Taker.cut c.args.out.now c.give_text.new.out r is []) (sym (printed_three t forced_start number forced_end))
          (takes_part g.T.Taker.stands g.T.Taker.cut _ _ r (printed t forced_start) (printed t number ++ printed t forced_end) [] [] c.from_residual.ensures.0 (failed.given d).err);
    }

pub returns-in_err-give_text-2 : goal.returns-in_err-give_text-2
returns-in_err-give_text-2 g c =
    let t = c.args.t in
    let number = decimal c.args.channel in
    let digits : c.as_bytes.result.now ≡ number = c.as_bytes.ensures.value ∙ c.format.ensures.text in
    let r = c.from_residual-in_err-give_text-2.result in
    let failed = c.in_err-give_text-2.ensures in
    record {
      taker = taker_then g.T.Taker.fault_count g.T.Taker.onward c.args.out.now c.give_text.new.out c.give_text-2.new.out c.give_text.result r c.give_text.ensures.taker (taker_failed g.T.Taker.fault_count g.T.Taker.onward c.give_text.new.out c.give_text-2.new.out _ r failed.taker);
      given = λ d.
          subst (λ is. Takes g.T.Taker.stands g.T.Taker.cut c.args.out.now c.give_text-2.new.out r is []) (sym (printed_three t forced_start number forced_end))
          (takes_then g.T.Taker.stands g.T.Taker.cut _ _ _ r (printed t forced_start) (printed t number ++ printed t forced_end) [] [] (c.in_ok-give_text.ensures.given d).ok
          (takes_part g.T.Taker.stands g.T.Taker.cut _ _ r (printed t number) (printed t forced_end) [] [] c.from_residual-in_err-give_text-2.ensures.0
          (subst (λ ds. IsCut g.T.Taker.stands g.T.Taker.cut c.give_text.new.out c.give_text-2.new.out (printed t ds) []) digits (failed.given d).err)));
    }

pub returns : goal.returns
returns g c =
    let t = c.args.t in
    let number = decimal c.args.channel in
    let digits : c.as_bytes.result.now ≡ number = c.as_bytes.ensures.value ∙ c.format.ensures.text in
    let r = c.give_text-3.result in
    record {
      taker = taker_then g.T.Taker.fault_count g.T.Taker.onward c.args.out.now c.give_text.new.out c.give_text-3.new.out c.give_text.result r c.give_text.ensures.taker
          (taker_then g.T.Taker.fault_count g.T.Taker.onward c.give_text.new.out c.give_text-2.new.out c.give_text-3.new.out c.give_text-2.result r c.give_text-2.ensures.taker c.give_text-3.ensures.taker);
      given = λ d.
          subst (λ is. Takes g.T.Taker.stands g.T.Taker.cut c.args.out.now c.give_text-3.new.out r is []) (sym (printed_three t forced_start number forced_end))
          (takes_then g.T.Taker.stands g.T.Taker.cut _ _ _ r (printed t forced_start) (printed t number ++ printed t forced_end) [] [] (c.in_ok-give_text.ensures.given d).ok
          (takes_then g.T.Taker.stands g.T.Taker.cut _ _ _ r (printed t number) (printed t forced_end) [] []
          (subst (λ ds. GoesOn g.T.Taker.stands c.give_text.new.out c.give_text-2.new.out (printed t ds) []) digits (c.in_ok-give_text-2.ensures.given d).ok) (c.give_text-3.ensures.given d)));
    }
