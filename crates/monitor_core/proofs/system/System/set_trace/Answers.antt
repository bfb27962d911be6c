use Rattle.std.proofs.Common.{refl}
use Rattle.monitor_core.proofs.EventDid.{did_trace}
use Rattle.monitor_core.proofs.system.System.set_trace.Goals as goal

pub returns-clause-did : goal.returns-clause-did
returns-clause-did g c = did_trace c.args.self.now _ c.args.on refl refl refl refl refl refl
