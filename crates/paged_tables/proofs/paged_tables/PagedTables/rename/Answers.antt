use Rattle.pager_walk.specs.PagedMaps.{tables_of, with_name}
use Rattle.paged_tables.specs.PagedTables.{beside_of}
use Rattle.paged_tables.proofs.paged_tables.PagedTables.rename.Goals as goal

pub returns : goal.returns
returns c =
    let e = c.take_name-name.ensures in
    λ i. record (beside_of (e.serials i)) { tables = with_name (tables_of (e.serials i).tables) c.args.home (e.name i) }
