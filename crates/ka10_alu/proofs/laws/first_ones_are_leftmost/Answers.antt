use Rattle.ka10_alu.proofs.Places.{leftmost}
use Rattle.ka10_alu.proofs.laws.first_ones_are_leftmost.Goals as goal

pub returns : goal.returns
returns c = leftmost
