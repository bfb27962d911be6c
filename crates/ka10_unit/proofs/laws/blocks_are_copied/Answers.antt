use Rattle.ka10_unit.proofs.InARow.{block_copied}
use Rattle.ka10_unit.proofs.laws.blocks_are_copied.Goals as goal

pub returns : goal.returns
returns c n from to words low high apart = block_copied n from to words low high apart
