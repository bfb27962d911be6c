use Rattle.drum_queue.proofs.Placed.{single_at}
use Rattle.drum_queue.proofs.queue.Queue.frames.Goals as goal

pub returns-clause-single : goal.returns-clause-single
returns-clause-single c = single_at c.self.inside.order c.self.inside.transfers.items c.args.self.now c.self.invariant c.self.view_is
