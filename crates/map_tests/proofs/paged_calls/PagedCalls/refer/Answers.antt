use Rattle.map_tests.proofs.Counting.{counted_made, counted_same}
use Rattle.map_tests.proofs.paged_calls.PagedCalls.refer.Goals as goal

pub invariant_of-self : goal.invariant_of-self
invariant_of-self g c = record { counted = counted_made c.settle.ensures.forks c.settle.ensures.serial c.args.self.now.counted }

pub invariant_of-self-in-Absent : goal.invariant_of-self-in-Absent
invariant_of-self-in-Absent g c = record { counted = counted_same c.fetch-awaited.ensures.mapped.forks c.fetch-awaited.ensures.mapped.serials c.args.self.now.counted }

pub invariant_of-self-in-NeedFrame : goal.invariant_of-self-in-NeedFrame
invariant_of-self-in-NeedFrame g c = record { counted = counted_same c.fetch-awaited-in-NeedFrame.ensures.mapped.forks c.fetch-awaited-in-NeedFrame.ensures.mapped.serials c.args.self.now.counted }
