use Rattle.ka10_spots.proofs.Used.{uses_none}
use Rattle.ka10_spots.proofs.spots.use_spot.Goals as goal

pub returns-in-Accumulator-clause-only : goal.returns-in-Accumulator-clause-only
returns-in-Accumulator-clause-only g c = uses_none g.P.Pages.means c.args.pages.now
