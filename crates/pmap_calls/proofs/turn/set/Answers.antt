use Rattle.std.proofs.Common.{arith}
use Rattle.ka10_spots.proofs.Stored.{lost_none}
use Rattle.pmap_calls.proofs.turn.set.Goals as goal

pub returns-in-Err-clause-loses : goal.returns-in-Err-clause-loses
returns-in-Err-clause-loses g c = lost_none g.P.Pages.means c.args.pages.now

-- an entry makes no page
pub returns-in-Ok-clause-made : goal.returns-in-Ok-clause-made
returns-in-Ok-clause-made g c owner =
    let none = c.put_entry.ensures.made owner in
    record { lives = none.lives; forks = none.forks; most = none.most; serial = omega (arith, none.serial); serials = none.serials }
