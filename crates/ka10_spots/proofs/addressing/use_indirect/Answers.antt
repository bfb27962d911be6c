use Rattle.ka10_spots.proofs.Used.{space_stays, uses_none, uses_on}
use Rattle.ka10_spots.proofs.addressing.use_indirect.Goals as goal

pub loop-words-init : goal.loop-words-init
loop-words-init g c = uses_none g.P.Pages.means c.args.pages.now

pub spot_to-requires-clause-space : goal.spot_to-requires-clause-space
spot_to-requires-clause-space g c = space_stays g.P.Pages.means c.args.space c.args.pages.now c.loop-words.pages c.requires.space c.loop-words.invariant.put

pub load-word-requires-clause-space : goal.load-word-requires-clause-space
load-word-requires-clause-space g c = space_stays g.P.Pages.means c.args.space c.args.pages.now c.loop-words.pages c.requires.space c.loop-words.invariant.put

pub loop-words-preserved : goal.loop-words-preserved
loop-words-preserved g c = uses_on g.P.Pages.means c.args.pages.now c.loop-words.pages c.load-word.new.pages c.loop-words.invariant c.load-word.ensures.only
