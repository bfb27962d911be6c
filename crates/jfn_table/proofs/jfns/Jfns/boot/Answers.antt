use Rattle.jfn_table.proofs.Changes.{no_jfns, no_counts}
use Rattle.jfn_table.proofs.jfns.Jfns.boot.Goals as goal

pub invariant_of-result : goal.invariant_of-result
invariant_of-result c =
    rw (c.in_ok-boot.ensures, c.in_ok-vec.ensures.items_if_clones_equal (λ y e. e)) (no_jfns, no_counts)
