use Rattle.outside.proofs.Fronts.{ends_only}
use Rattle.outside.proofs.memory_source.MemSourceSource.read.Goals as goal

pub returns-clause-end : goal.returns-clause-end
returns-clause-end c = ends_only c.args.self.now.unread _ _ c.requires c.fill.ensures.count
