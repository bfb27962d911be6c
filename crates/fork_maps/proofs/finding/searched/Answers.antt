use Rattle.std.proofs.Common.{sym, arith}
use Rattle.fork_maps.proofs.ForkMaps.{index_is, index_none}
use Rattle.fork_maps.proofs.finding.searched.Goals as goal

pub returns-then-is_map_of : goal.returns-then-is_map_of
returns-then-is_map_of g c =
    sym (index_is g.M.ForkMap.whose g.M.ForkMap.past g.met.M.ForkMap.nobody c.args.maps.now.items c.requires.own.once c.args.fork c.loop-number.number (c.is_map_of.ensures.yes c.if-is_map_of.true))

pub returns : goal.returns
returns g c =
    let own = c.requires.own in
    sym (index_none g.M.ForkMap.whose g.M.ForkMap.past g.met.M.ForkMap.nobody c.args.maps.now.items c.args.fork
    (λ k e. c.loop-number.invariant k (omega (arith, own.from k c.args.fork e, c.first_map-first.ensures)) (omega (arith, own.below k c.args.fork e, c.first_map-first.ensures, c.loop-number-test.false)) e))
