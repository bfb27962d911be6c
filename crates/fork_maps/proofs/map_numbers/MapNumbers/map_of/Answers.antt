use Rattle.std.proofs.Common.{sym}
use Rattle.fork_maps.specs.ForkMaps.{fork_at}
use Rattle.fork_maps.proofs.ForkMaps.{index_is, index_none}
use Rattle.fork_maps.proofs.Listing.{none_numbered}
use Rattle.fork_maps.proofs.map_numbers.MapNumbers.map_of.Goals as goal

pub returns-then-is_map_of : goal.returns-then-is_map_of
returns-then-is_map_of g c =
    sym (index_is g.M.ForkMap.whose g.M.ForkMap.past g.met.M.ForkMap.nobody c.args.maps.now.items c.requires.own.once c.args.fork c.in-Some.number (c.is_map_of.ensures.yes c.if-is_map_of.true))

pub returns : goal.returns
returns g c =
    let maps = c.args.maps.now.items in
    sym (index_none g.M.ForkMap.whose g.M.ForkMap.past g.met.M.ForkMap.nobody maps c.args.fork
    (none_numbered (fork_at g.M.ForkMap.whose g.M.ForkMap.past maps) c.args.self.now.numbers.items c.requires.listed c.args.fork c.in-Some.number (sym c.in-Some.ensures) (c.is_map_of.ensures.no c.if-is_map_of.false)))
