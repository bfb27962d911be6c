use Rattle.number_map.proofs.Kept.{least_is}
use Rattle.number_map.proofs.number_map.NumberMap.first_free.Goals as goal

pub returns : goal.returns
returns g c =
    record { least = least_is c.self.inside.places.items c.self.inside.taken g.row.N c.args.from c.args.self.now c.least_absent.result c.self.invariant c.self.view_is c.least_absent.ensures }
