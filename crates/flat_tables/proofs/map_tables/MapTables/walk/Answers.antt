use Rattle.std.proofs.Common.{◌∙◌, ap, sym}
use Rattle.std.specs.Option.{option_and_then}
use Rattle.flat_tables.specs.Walks.{walk}
use Rattle.flat_tables.proofs.WalkSteps.{some_fork, walk_four}
use Rattle.flat_tables.proofs.ForkMaps.{index_fork}
use Rattle.flat_tables.proofs.map_tables.MapTables.walk.Goals as goal

pub walk_along-requires-clause-lives : goal.walk_along-requires-clause-lives
walk_along-requires-clause-lives c = some_fork _ c.args.slot.fork (index_fork c.args.self.now.maps.held.items c.args.slot.fork c.in-Some.map (sym c.in-Some.ensures))

pub returns : goal.returns
returns c =
    c.walk_along.ensures ∙ walk_four c.args.self.now.maps.held.items (record { map = c.in-Some.map; page = c.args.slot.page })
    ∙ ap (option_and_then (λ k. walk c.args.self.now.maps.held.items (record { map = k; page = c.args.slot.page }))) c.in-Some.ensures
