use Rattle.std.proofs.Common.{None, sym, ◌∙◌}
use Rattle.std.proofs.lemmas.List.{get_or_read}
use Rattle.drum_queue.proofs.Placed.{found_at, frame_below}
use Rattle.drum_queue.proofs.queue.Queue.transfer_of.Goals as goal

pub returns : goal.returns
returns c =
    let below = frame_below c.self.inside.order c.self.inside.transfers.items c.args.self.now c.args.f.0 c.self.invariant c.self.view_is c.requires in
    get_or_read c.self.inside.transfers.items c.args.f.0 c.index.result.now below c.index.ensures None
    ∙ sym (found_at c.self.inside.order c.self.inside.transfers.items c.args.self.now c.args.f.0 c.self.invariant c.self.view_is)
