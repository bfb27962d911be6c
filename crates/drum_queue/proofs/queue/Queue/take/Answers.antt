use Rattle.std.proofs.Common.{arith}
use Rattle.drum_queue.proofs.Placed.{taken, stands_queued}
use Rattle.drum_queue.proofs.queue.Queue.take.Goals as goal

pub remove-requires : goal.remove-requires
remove-requires c = stands_queued c.self.inside.order c.self.inside.transfers.items c.args.frame c.args.self.now c.self.invariant c.self.view_is c.requires

pub index_mut-requires : goal.index_mut-requires
index_mut-requires c =
    let size = c.self.invariant.size in
    let below = c.self.invariant.order.below c.args.frame
    (stands_queued c.self.inside.order c.self.inside.transfers.items c.args.frame c.args.self.now c.self.invariant c.self.view_is c.requires) in
    omega arith

pub invariant_of-self : goal.invariant_of-self
invariant_of-self c =
    rw c.remove.ensures (taken c.self.inside.order c.self.inside.transfers.items c.args.frame c.args.self.now c.self.invariant c.self.view_is c.requires).placed

pub returns : goal.returns
returns c =
    rw c.remove.ensures (taken c.self.inside.order c.self.inside.transfers.items c.args.frame c.args.self.now c.self.invariant c.self.view_is c.requires).view
