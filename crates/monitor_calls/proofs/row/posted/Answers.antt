use Rattle.std.proofs.Common.{ap}
use Rattle.plain_model.specs.Forks.{counted}
use Rattle.monitor_calls.proofs.row.posted.Goals as goal

pub returns-clause-fork : goal.returns-clause-fork
returns-clause-fork c f = ap counted (c.post_channel-stop.ensures.fork f)
