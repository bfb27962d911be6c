use Rattle.std.proofs.Common.{[], ◌∷◌, sym, subst}
use Rattle.script_texts.specs.declared.event.Item.TheVariants.{UnitLine}
use Rattle.event_items.specs.Giving.{Takes, TookItems}
use Rattle.step_shown.specs.Replies.{ran_items}
use Rattle.step_shown.specs.Shown.{shown_items}
use Rattle.event_items.proofs.Given.{on_err, taker_then, takes_part, takes_then}
use Rattle.event_items.proofs.giving.unit.give_ran.Goals as goal

pub give_shown-requires-clause-terminal : goal.give_shown-requires-clause-terminal
give_shown-requires-clause-terminal g c = c.requires.fork.0

pub give_shown-requires-in-None-clause-terminal : goal.give_shown-requires-in-None-clause-terminal
give_shown-requires-in-None-clause-terminal g c = c.requires.fork.0

pub returns-in_err-item-in-Some : goal.returns-in_err-item-in-Some
returns-in_err-item-in-Some g c =
    let r = c.from_residual.result in
    let failed = c.in_err-item-in-Some.ensures in
    let shown = shown_items c.args.fork.tty c.args.shown in
    record {
      taker = record { later = failed.later; cause = on_err r failed.cause; goes_on = failed.onward };
      given = λ d.
          subst (λ o. Takes g.T.Taker.stands g.T.Taker.cut c.args.out.now c.item.new.self r (ran_items c.args.fork o c.args.shown) []) (sym c.in-Some.is)
          (takes_part g.T.Taker.stands g.T.Taker.cut _ _ r (UnitLine c.args.fork c.in-Some.pc ∷ []) shown [] [] c.from_residual.ensures.0 failed.err);
    }

pub returns-in_ok-item-in-Some : goal.returns-in_ok-item-in-Some
returns-in_ok-item-in-Some g c =
    let r = c.give_shown.result in
    let shown = shown_items c.args.fork.tty c.args.shown in
    record {
      taker = taker_then g.T.Taker.fault_count g.T.Taker.onward c.args.out.now c.item.new.self c.give_shown.new.out c.item.result r (record { later = c.item.ensures.later; cause = c.item.ensures.cause; goes_on = c.item.ensures.onward }) c.give_shown.ensures.taker;
      given = λ d.
          subst (λ o. Takes g.T.Taker.stands g.T.Taker.cut c.args.out.now c.give_shown.new.out r (ran_items c.args.fork o c.args.shown) []) (sym c.in-Some.is)
          (takes_then g.T.Taker.stands g.T.Taker.cut _ _ _ r (UnitLine c.args.fork c.in-Some.pc ∷ []) shown [] [] c.in_ok-item-in-Some.ensures.ok (c.give_shown.ensures.given d));
    }

pub returns-in-None : goal.returns-in-None
returns-in-None g c =
    subst (λ o. TookItems g.T.Taker.fault_count g.T.Taker.onward g.T.Taker.stands g.T.Taker.cut c.args.out.now c.give_shown-in-None.new.out c.give_shown-in-None.result (λ d. ran_items c.args.fork o c.args.shown)) (sym c.in-None.is) c.give_shown-in-None.ensures
