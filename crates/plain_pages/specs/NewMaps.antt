-- The maps of new forks.
use Rattle.std.specs.Prelude.{map, replicate}
use Rattle.std.specs.List.{range_with_len}
use Rattle.std.specs.declared.cmp.Ordering.{Ordering}
use Rattle.std.specs.FinMap as map
use Rattle.machine_names.specs.declared.names.TheConstants.{SPACE_PAGES}
use Rattle.machine_names.specs.declared.names.ForkName.{ForkName}
use Rattle.plain_pages.specs.declared.map.MapEntry.TheVariants.{Empty, Follows}
use Rattle.plain_pages.specs.declared.map.NewMap.{NewMap}
use Rattle.plain_pages.specs.declared.map.NewMap.TheVariants.{Empty as EmptyMap, FollowAll}
use Rattle.plain_pages.specs.PlainPages.{PlainPages, Map}
use Rattle.plain_pages.specs.Maps.{full_access}

-- a map of which each entry is empty
unfoldable pub empty_map : Map
empty_map = replicate SPACE_PAGES Empty

-- a map of which each entry follows the same entry of a fork, with every right
unfoldable pub following_map : ForkName → Map
following_map f = map (λ page. Follows f.serial page full_access) (range_with_len 0 SPACE_PAGES)

-- the map of a new fork
abbrev pub new_map : NewMap → Map
new_map EmptyMap = empty_map
new_map (FollowAll f) = following_map f

-- the pages with the map of a new fork
abbrev pub with_map : {K : Type 0} {file_cmp : K → K → Ordering} → PlainPages file_cmp → ForkName → NewMap → PlainPages file_cmp
with_map p f entries = record p { maps = map.insert p.maps f (new_map entries) }
