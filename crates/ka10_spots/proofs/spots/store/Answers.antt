use Rattle.std.proofs.Common.{rules}
use Rattle.ka10_spots.proofs.Stored.{lost_none}
use Rattle.ka10_spots.proofs.spots.store.Goals as goal

pub returns-in-Some-Accumulator : goal.returns-in-Some-Accumulator
returns-in-Some-Accumulator g c = let lost = lost_none g.P.Pages.means c.args.pages.now in search (rules, lost)
