use Rattle.ka10_spots.proofs.Stored.{lost_none}
use Rattle.pmap_calls.proofs.turn.make.Goals as goal

pub returns-in-Nothing-clause-loses : goal.returns-in-Nothing-clause-loses
returns-in-Nothing-clause-loses g c = lost_none g.P.Pages.means c.args.pages.now

pub returns-in-Read-clause-loses : goal.returns-in-Read-clause-loses
returns-in-Read-clause-loses g c = lost_none g.P.Pages.means c.args.pages.now
