-- What stood around the frame is joined.
use Rattle.frame_order.proofs.Rings.{frame_taken}
use Rattle.frame_order.proofs.order.FrameOrder.remove.Goals as goal

pub invariant_of-self : goal.invariant_of-self
invariant_of-self c =
    (frame_taken c.self.inside.end c.self.inside.len c.args.frame c.index-last.result.now c.index-next.result.now c.self.inside.before.items c.self.inside.behind.items _
    c.self.invariant c.self.view_is c.requires c.index-last.ensures c.index-next.ensures).ring

pub returns : goal.returns
returns c =
    (frame_taken c.self.inside.end c.self.inside.len c.args.frame c.index-last.result.now c.index-next.result.now c.self.inside.before.items c.self.inside.behind.items _
    c.self.invariant c.self.view_is c.requires c.index-last.ensures c.index-next.ensures).view
