-- A frame is put before the end, behind the one that was last.
use Rattle.std.proofs.Common.{◌+◌, arith}
use Rattle.frame_order.proofs.Rings.{frame_pushed, ring_fits}
use Rattle.frame_order.proofs.order.FrameOrder.push.Goals as goal

pub overflow_add-self : goal.overflow_add-self
overflow_add-self c =
    let now = frame_pushed c.self.inside.end c.self.inside.len c.args.frame c.index-last.result.now c.self.inside.before.items c.self.inside.behind.items _
    c.self.invariant c.self.view_is c.requires.below c.requires.absent c.index-last.ensures in
    omega (arith, ring_fits c.self.inside.end (c.self.inside.len + 1) _ _ now.ring, c.self.ranges)

pub invariant_of-self : goal.invariant_of-self
invariant_of-self c =
    (frame_pushed c.self.inside.end c.self.inside.len c.args.frame c.index-last.result.now c.self.inside.before.items c.self.inside.behind.items _
    c.self.invariant c.self.view_is c.requires.below c.requires.absent c.index-last.ensures).ring

pub returns : goal.returns
returns c =
    (frame_pushed c.self.inside.end c.self.inside.len c.args.frame c.index-last.result.now c.self.inside.before.items c.self.inside.behind.items _
    c.self.invariant c.self.view_is c.requires.below c.requires.absent c.index-last.ensures).view
