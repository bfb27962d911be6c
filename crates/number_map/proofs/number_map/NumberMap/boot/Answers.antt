use Rattle.std.proofs.Common.{rules}
use Rattle.number_map.proofs.Kept.{kept_none}
use Rattle.number_map.proofs.Places.{held_none}
use Rattle.number_map.proofs.number_map.NumberMap.boot.Goals as goal

pub invariant_of-result : goal.invariant_of-result
invariant_of-result g c =
    rw (c.in_ok-vec.ensures.items_if_clones_equal (λ y h. search rules), c.in_ok-boot.ensures) (kept_none g.row.N)

pub returns : goal.returns
returns g c = rw (c.in_ok-vec.ensures.items_if_clones_equal (λ y h. search rules)) (held_none g.row.N)
