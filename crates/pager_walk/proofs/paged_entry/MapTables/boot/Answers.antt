use Rattle.pager_walk.specs.PagedMaps.{tables_of}
use Rattle.pager_walk.proofs.Opened.{rooted_none, fits_none, maps_none}
use Rattle.pager_walk.proofs.paged_entry.MapTables.boot.Goals as goal

pub returns : goal.returns
returns c =
    let t = tables_of (record { maps = c.in_ok-maps.maps; names = c.in_ok-names.names; shares = c.in_ok-shares.shares }) in
    let m = c.in_ok-maps.ensures in
    record {
      rooted = rooted_none t m.none m.numbered c.args.homes c.in_ok-names.ensures;
      fits = fits_none t m.none;
      none = maps_none t m.none;
      maps = m.pages;
      names = c.in_ok-names.ensures;
      shares = c.in_ok-shares.ensures;
    }
