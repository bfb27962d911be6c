use Rattle.std.proofs.Common.{ap, sym, ◌∙◌}
use Rattle.std.specs.Option.{is_some}
use Rattle.drum_queue.proofs.Placed.{pushed, stands_at}
use Rattle.drum_queue.proofs.queue.Queue.start.Goals as goal

pub push-requires-clause-absent : goal.push-requires-clause-absent
push-requires-clause-absent c =
    rw c.frame-frame.ensures (sym (stands_at c.self.inside.order c.self.inside.transfers.items c.args.self.now _ c.self.invariant c.self.view_is) ∙ ap is_some c.requires.idle)

pub invariant_of-self : goal.invariant_of-self
invariant_of-self c =
    rw c.push.ensures (pushed c.self.inside.order c.self.inside.transfers.items c.args.transfer c.frame-frame.result.0 c.args.self.now
    c.self.invariant c.self.view_is c.frame-frame.ensures c.requires.below c.requires.idle).placed

pub returns : goal.returns
returns c =
    rw c.push.ensures (pushed c.self.inside.order c.self.inside.transfers.items c.args.transfer c.frame-frame.result.0 c.args.self.now
    c.self.invariant c.self.view_is c.frame-frame.ensures c.requires.below c.requires.idle).view
