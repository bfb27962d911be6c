use Rattle.std.proofs.Common.{◌<◌, ◌∙◌, arith, length, sym}
use Rattle.flat_tables.proofs.ForkMaps.{fork_within, index_fork}
use Rattle.flat_tables.proofs.kept_maps.KeptMaps.near_map.Goals as goal

pub overflow_cast-result : goal.overflow_cast-result
overflow_cast-result c =
    let maps = c.args.self.now.held.items in
    let below : c.in-Some.map < length maps = fork_within maps c.in-Some.map c.args.fork (index_fork maps c.args.fork c.in-Some.map (sym c.map_of.ensures ∙ c.in-Some.is)) in
    omega (arith, below, c.requires.held.count)
