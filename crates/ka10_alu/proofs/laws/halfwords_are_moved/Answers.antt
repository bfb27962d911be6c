use Rattle.ka10_alu.proofs.Halfwords.{halves_moved}
use Rattle.ka10_alu.proofs.laws.halfwords_are_moved.Goals as goal

pub returns : goal.returns
returns c = halves_moved
