use Rattle.std.proofs.Common.{arith, rules}
use Rattle.frame_table.proofs.Kept.{kept_none}
use Rattle.frame_table.proofs.Reaching.{reached_none}
use Rattle.frame_table.proofs.frames.Frames.boot.Goals as goal

pub invariant_of-result : goal.invariant_of-result
invariant_of-result c =
    rw (c.in_ok-vec.ensures.items_if_clones_equal (λ y h. search rules), c.in_ok-zero_pages.ensures, c.in_ok-boot.ensures, c.in_ok-boot-2.ensures, c.in_ok-boot-3.ensures)
    (kept_none c.args.n (omega (arith, c.ranges.n.fits)), reached_none c.args.n)
