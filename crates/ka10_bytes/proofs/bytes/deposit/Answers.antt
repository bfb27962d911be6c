use Rattle.word36.specs.Bytes.{deposited}
use Rattle.ka10_bytes.proofs.Placing.{put}
use Rattle.ka10_bytes.proofs.bytes.deposit.Goals as goal

pub returns : goal.returns
unfolding deposited
returns c =
    rw (← c.value.ensures.value, ← c.value-2.ensures.value, ← c.position_of-position.ensures.value, ← c.size_of_byte.ensures.value)
    (put c.position_of-position.result c.size_of_byte.result c.ones_of-ones.result c.value.result c.value-2.result _ c.ones_of-ones.ensures c.wrapped.ensures)
