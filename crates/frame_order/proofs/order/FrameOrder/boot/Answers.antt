use Rattle.std.proofs.Common.{◌≡◌, ◌+◌, replicate, rules}
use Rattle.frame_order.proofs.Rings.{empty_ring}
use Rattle.frame_order.proofs.order.FrameOrder.boot.Goals as goal

pub invariant_of-result : goal.invariant_of-result
invariant_of-result c =
    let places = replicate (c.args.frames + 1) c.args.frames in
    let before : c.in_ok-vec.field-0.items ≡ places = search rules in
    let behind : c.in_ok-vec-2.field-0.items ≡ places = search rules in
    rw (before, behind) (empty_ring c.args.frames)
