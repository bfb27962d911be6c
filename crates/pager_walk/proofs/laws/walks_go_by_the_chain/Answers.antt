use Rattle.plain_pages.specs.Maps.{entry_at, maps_on_way, chain}
use Rattle.pager_walk.specs.PagedMaps.{map_away, maps_over}
use Rattle.pager_walk.specs.Walks.{first_absent}
use Rattle.pager_walk.proofs.WalkLaws.{absent_told, permits_told}
use Rattle.pager_walk.proofs.laws.walks_go_by_the_chain.Goals as goal

pub returns : goal.returns
returns c = record {
  absent = λ t places d s w home told e. absent_told t.names (first_absent (map_away t places) (maps_on_way (entry_at (maps_over t places d)) s)) (chain (entry_at (maps_over t places d)) s) w home told e;
  permits = λ t places d s w kind told e. permits_told t.names (first_absent (map_away t places) (maps_on_way (entry_at (maps_over t places d)) s)) (chain (entry_at (maps_over t places d)) s) w kind told e;
}
