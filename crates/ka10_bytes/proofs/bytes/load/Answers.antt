use Rattle.word36.specs.Bytes.{loaded}
use Rattle.ka10_bytes.proofs.Placing.{taken}
use Rattle.ka10_bytes.proofs.bytes.load.Goals as goal

pub returns : goal.returns
unfolding loaded
returns c = rw (← c.value.ensures.value, ← c.position_of.ensures.value, ← c.size_of_byte.ensures.value) (taken _ _ _ c.ones_of.result _ c.value.ensures.below c.ones_of.ensures c.wrapped.ensures)
