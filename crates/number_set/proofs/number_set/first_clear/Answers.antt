use Rattle.number_set.proofs.Gaps.{first_clear_is}
use Rattle.number_set.proofs.number_set.first_clear.Goals as goal

pub returns : goal.returns
returns c = rw c.trailing_ones.ensures (first_clear_is c.args.word c.args.from c.ranges.word.fits c.requires)
