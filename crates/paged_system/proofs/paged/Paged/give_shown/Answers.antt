use Rattle.std.proofs.Common.{[], sym, subst}
use Rattle.event_deeds.specs.Showings.{showing_items}
use Rattle.event_deeds.specs.declared.answer.Showing.{Showing}
use Rattle.event_deeds.specs.declared.answer.Showing.TheVariants.{Echo, Told}
use Rattle.event_items.specs.Giving.{TookOver}
use Rattle.event_items.proofs.Given.{over_drums}
use Rattle.monitor_core.specs.Systems.{FitsPages, state_of}
use Rattle.paged_system.specs.Paging.{gives_in}
use Rattle.paged_system.proofs.paged.Paged.give_shown.Goals as goal

pub returns-in-Echo : goal.returns-in-Echo
returns-in-Echo g c =
    let m = c.args.self.now.system in
    let took = g.T.Taker in
    subst (λ (w : Showing). TookOver (λ d. FitsPages m d × gives_in m d w) took.fault_count took.onward took.stands took.cut c.args.out.now c.give_echo.new.out c.give_echo.result (λ d. showing_items (state_of m d) w) [])
    (sym c.in-Echo.is) (over_drums (λ d. FitsPages m d × gives_in m d (Echo c.in-Echo.t c.in-Echo.shown)) took.fault_count took.onward took.stands took.cut c.give_echo.ensures)

pub returns-in-Told : goal.returns-in-Told
returns-in-Told g c =
    let m = c.args.self.now.system in
    let took = g.T.Taker in
    subst (λ (w : Showing). TookOver (λ d. FitsPages m d × gives_in m d w) took.fault_count took.onward took.stands took.cut c.args.out.now c.give_told.new.out c.give_told.result (λ d. showing_items (state_of m d) w) [])
    (sym c.in-Told.is) (over_drums (λ d. FitsPages m d × gives_in m d (Told c.in-Told.t c.in-Told.shown)) took.fault_count took.onward took.stands took.cut c.give_told.ensures)
