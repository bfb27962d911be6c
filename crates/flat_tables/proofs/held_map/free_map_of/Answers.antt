use Rattle.std.proofs.Common.{arith}
use Rattle.flat_tables.proofs.Making.{all_living}
use Rattle.flat_tables.proofs.held_map.free_map_of.Goals as goal

pub unreachable-requires : goal.unreachable-requires
unreachable-requires c = omega (arith, all_living c.args.maps.now.items c.requires.held c.args.tty c.requires.terminal (λ k from below e. c.loop-number.invariant k from (omega (arith, below, c.loop-number-test.false)) e), c.requires.few)
