use Rattle.std.proofs.Common.{◌≤◌, length, arith}
use Rattle.page_contracts.specs.Stores.{most_held}
use Rattle.page_waits.proofs.waking.make_room.Goals as goal

pub returns-else-held-most_held-clause-room : goal.returns-else-held-most_held-clause-room
returns-else-held-most_held-clause-room g c =
    let most : length (g.S.System.means.store.holds c.args.system.now c.args.seat) ≤ most_held c.args.seat = (g.met.S.System.housed c.args.system.now).sound.few_held c.args.seat in
    omega (arith, most, c.held.ensures, c.most_held.ensures, c.if-held-most_held.false)
