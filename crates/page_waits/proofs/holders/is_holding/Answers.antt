use Rattle.std.proofs.Common.{arith}
use Rattle.page_waits.specs.Waits.{the_lists}
use Rattle.page_waits.proofs.Holding.{unheld_seats}
use Rattle.page_waits.proofs.Lists.{member_below}
use Rattle.page_waits.proofs.holders.is_holding.Goals as goal

pub returns : goal.returns
returns g c none =
    unheld_seats (the_lists.set c.args.lists.now) (the_lists.member c.args.lists.now) (g.S.System.means.store.holds c.args.system.now) (member_below c.args.lists.now.sched c.sound.ensures) c.requires.owned
    (λ k low. c.loop-seat.invariant.none k (omega (arith, low, c.loop-seat-test.false, c.set-seat-end.ensures)))
