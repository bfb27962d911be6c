use Rattle.script_lang.proofs.Moves.{evict_moves}
use Rattle.script_lang.proofs.big.evict.Goals as goal

pub returns : goal.returns
returns c = rw c.draw.ensures.last (evict_moves c.args.n c.args.draws.now.last c.draw.result c.requires c.draw.ensures.value c.draw.ensures.below)
