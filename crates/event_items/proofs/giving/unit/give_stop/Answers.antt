use Rattle.std.proofs.Common.{sym, subst}
use Rattle.event_items.specs.Giving.{TookItems}
use Rattle.step_shown.specs.Shown.{stop_items}
use Rattle.event_items.proofs.giving.unit.give_stop.Goals as goal

pub returns-in-Halted : goal.returns-in-Halted
returns-in-Halted g c = subst (λ s. TookItems g.T.Taker.fault_count g.T.Taker.onward g.T.Taker.stands g.T.Taker.cut c.args.out.now c.give_text.new.out c.give_text.result (λ d. stop_items c.args.t s)) (sym c.in-Halted.is) c.give_text.ensures

pub returns-in-Forced : goal.returns-in-Forced
returns-in-Forced g c = subst (λ s. TookItems g.T.Taker.fault_count g.T.Taker.onward g.T.Taker.stands g.T.Taker.cut c.args.out.now c.give_forced.new.out c.give_forced.result (λ d. stop_items c.args.t s)) (sym c.in-Forced.is) c.give_forced.ensures
