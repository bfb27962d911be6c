use Rattle.ka10_alu.proofs.Places.{turned_by_width}
use Rattle.ka10_alu.proofs.laws.whole_turns_are_nothing.Goals as goal

pub returns : goal.returns
returns c = turned_by_width
