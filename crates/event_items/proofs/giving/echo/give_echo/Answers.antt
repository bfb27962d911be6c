use Rattle.std.proofs.Common.{sym, subst}
use Rattle.machine_names.specs.declared.character.TheConstants.{LINE_END}
use Rattle.plain_model.specs.TypeEvents.{echo}
use Rattle.step_shown.specs.Echoes.{FitsEcho, echo_items, told_items}
use Rattle.event_items.specs.Giving.{TookItems}
use Rattle.monitor_core.specs.Systems.{state_of}
use Rattle.event_items.proofs.GivenParts.{part_failed, part_then}
use Rattle.event_items.proofs.giving.echo.give_echo.Goals as goal

pub returns-in-Shows : goal.returns-in-Shows
returns-in-Shows g c =
    subst (λ shown. TookItems g.T.Taker.fault_count g.T.Taker.onward g.T.Taker.stands g.T.Taker.cut c.args.out.now c.give_code.new.out c.give_code.result (λ d. echo_items c.args.t shown (state_of c.args.system.now d))) (sym c.in-Shows.is) c.give_code.ensures

pub returns-in-Wakes : goal.returns-in-Wakes
returns-in-Wakes g c =
    subst (λ shown. TookItems g.T.Taker.fault_count g.T.Taker.onward g.T.Taker.stands g.T.Taker.cut c.args.out.now c.give_code-in-Wakes.new.out c.give_code-in-Wakes.result (λ d. echo_items c.args.t shown (state_of c.args.system.now d))) (sym c.in-Wakes.is) c.give_code-in-Wakes.ensures

pub returns-in-Bell : goal.returns-in-Bell
returns-in-Bell g c =
    subst (λ shown. TookItems g.T.Taker.fault_count g.T.Taker.onward g.T.Taker.stands g.T.Taker.cut c.args.out.now c.give_text.new.out c.give_text.result (λ d. echo_items c.args.t shown (state_of c.args.system.now d))) (sym c.in-Bell.is) c.give_text.ensures

pub returns-in-Stops : goal.returns-in-Stops
returns-in-Stops g c =
    subst (λ shown. TookItems g.T.Taker.fault_count g.T.Taker.onward g.T.Taker.stands g.T.Taker.cut c.args.out.now c.give_text-in-Stops.new.out c.give_text-in-Stops.result (λ d. echo_items c.args.t shown (state_of c.args.system.now d))) (sym c.in-Stops.is) c.give_text-in-Stops.ensures

pub give_stop-requires : goal.give_stop-requires
give_stop-requires g c = let fits = subst FitsEcho c.in-Posts.is c.requires.fits in record { terminal = fits.0; fits = fits.1 }

pub returns-in-Posts : goal.returns-in-Posts
returns-in-Posts g c =
    subst (λ shown. TookItems g.T.Taker.fault_count g.T.Taker.onward g.T.Taker.stands g.T.Taker.cut c.args.out.now c.give_stop.new.out c.give_stop.result (λ d. echo_items c.args.t shown (state_of c.args.system.now d))) (sym c.in-Posts.is) c.give_stop.ensures

pub returns-in_err-give_code-in-Ends : goal.returns-in_err-give_code-in-Ends
returns-in_err-give_code-in-Ends g c =
    let t = c.args.t in
    let r = c.from_residual.result in
    subst (λ shown. TookItems g.T.Taker.fault_count g.T.Taker.onward g.T.Taker.stands g.T.Taker.cut c.args.out.now c.give_code-in-Ends.new.out r (λ d. echo_items t shown (state_of c.args.system.now d))) (sym c.in-Ends.is)
    (part_failed g.T.Taker.fault_count g.T.Taker.onward g.T.Taker.stands g.T.Taker.cut _ _ _ r (λ d. echo t LINE_END) (λ d. told_items t c.in-Ends.told (state_of c.args.system.now d)) c.from_residual.ensures.0 c.in_err-give_code-in-Ends.ensures)

pub returns-in_ok-give_code-in-Ends : goal.returns-in_ok-give_code-in-Ends
returns-in_ok-give_code-in-Ends g c =
    let t = c.args.t in
    let r = c.give_told.result in
    subst (λ shown. TookItems g.T.Taker.fault_count g.T.Taker.onward g.T.Taker.stands g.T.Taker.cut c.args.out.now c.give_told.new.out r (λ d. echo_items t shown (state_of c.args.system.now d))) (sym c.in-Ends.is)
    (part_then g.T.Taker.fault_count g.T.Taker.onward g.T.Taker.stands g.T.Taker.cut _ _ _ _ r (λ d. echo t LINE_END) (λ d. told_items t c.in-Ends.told (state_of c.args.system.now d)) c.in_ok-give_code-in-Ends.ensures c.give_told.ensures)
