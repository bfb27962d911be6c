use Rattle.file_dir.proofs.Places.{no_files, no_order}
use Rattle.file_dir.proofs.dir.Dir.boot.Goals as goal

pub invariant_of-result : goal.invariant_of-result
invariant_of-result c =
    rw c.in_ok-boot.ensures (no_files, no_order c.in_ok-with_capacity.field-0.items c.in_ok-with_capacity.ensures.items, c.in_ok-with_capacity.ensures.capacity)
