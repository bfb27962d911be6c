use Rattle.ka10_spots.proofs.Stored.{lost_none}
use Rattle.ka10_unit.proofs.word_blocks.store_at.Goals as goal

pub returns-else-at-ge-ACCUMULATORS-clause-loses : goal.returns-else-at-ge-ACCUMULATORS-clause-loses
returns-else-at-ge-ACCUMULATORS-clause-loses g c = lost_none g.P.Pages.means c.args.pages.now
