use Rattle.std.proofs.Common.{[]}
use Rattle.event_deeds.specs.Showings.{showing_items}
use Rattle.monitor_core.specs.Systems.{FitsPages, state_of}
use Rattle.paged_system.proofs.Given.{given_err, given_ok}
use Rattle.paged_system.specs.Paging.{gives_in}
use Rattle.paged_system.proofs.asked.PagedSystem.give.Goals as goal

pub returns-clause-ok : goal.returns-clause-ok
returns-clause-ok g c =
    let s = c.args.self.now in
    given_ok (FitsPages s.system) (λ d. gives_in s.system d c.args.what.now) g.T.Taker.fault_count g.T.Taker.onward g.T.Taker.stands g.T.Taker.cut c.args.out.now c.give_shown.new.out c.give_shown.result
    (λ d. showing_items (state_of s.system d) c.args.what.now) [] c.give_shown.ensures

pub returns-clause-err : goal.returns-clause-err
returns-clause-err g c =
    let s = c.args.self.now in
    given_err (FitsPages s.system) (λ d. gives_in s.system d c.args.what.now) g.T.Taker.fault_count g.T.Taker.onward g.T.Taker.stands g.T.Taker.cut c.args.out.now c.give_shown.new.out c.give_shown.result
    (λ d. showing_items (state_of s.system d) c.args.what.now) [] c.give_shown.ensures
