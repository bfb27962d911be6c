use Rattle.file_tables.proofs.Known.{held_known}
use Rattle.pmap_calls.proofs.naming.held.Goals as goal

pub returns-clause-known : goal.returns-clause-known
returns-clause-known c = held_known c.args.tables.now c.args.n c.jfn.result c.jfn.ensures.sound
