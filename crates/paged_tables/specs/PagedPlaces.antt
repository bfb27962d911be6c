-- Where the pages are of forks and files alone, without those of maps.
use Rattle.std.specs.Prelude.{List, [], ◌∷◌, slice_set}
use Rattle.std.specs.Option.{option_map_or}
use Rattle.page_contracts.specs.Stores.{HomePlace, free}
use Rattle.pager_walk.specs.declared.map_pages.MapPage.{MapPage}

-- the home of a map is as if it were free
abbrev pub without_map : MapPage → List HomePlace → List HomePlace
without_map m places = option_map_or (λ f. slice_set places m.home.0 free) m.fork places

-- and so is that of each map
unfoldable pub page_places : List MapPage → List HomePlace → List HomePlace
page_places [] places = places
page_places (m ∷ maps) places = without_map m (page_places maps places)
