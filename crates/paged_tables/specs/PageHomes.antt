-- The home of the page of a place.
use Rattle.std.specs.Prelude.{ℕ, List, Option, None, Some, slice_index}
use Rattle.std.specs.FinMap as fin
use Rattle.machine_names.specs.declared.names.PageName.{PageName}
use Rattle.machine_names.specs.declared.names.Place.{Place}
use Rattle.machine_names.specs.declared.names.Place.TheVariants.{Fork, File}
use Rattle.machine_names.specs.Orders.{file_page}
use Rattle.page_homes.specs.declared.homes.Home.{Home}
use Rattle.page_contracts.specs.declared.answers.Peeked.{Peeked}
use Rattle.page_contracts.specs.declared.answers.Peeked.TheVariants.{Is, Absent as Away, NoPage as Nothing}
use Rattle.page_contracts.specs.Stores.{HomePlace, free, away, here, place}
use Rattle.pager_walk.specs.declared.chain_walk.Walked.{Walked}
use Rattle.pager_walk.specs.declared.chain_walk.Walked.TheVariants as walked
use Rattle.pager_walk.specs.PagedMaps.{name_of}
use Rattle.pager_walk.specs.Walks.{walk_at}
use Rattle.paged_tables.specs.declared.page_home.PageHome.{PageHome}
use Rattle.paged_tables.specs.declared.page_home.PageHome.TheVariants.{At, MapAway, NoPage}
use Rattle.paged_tables.specs.PagedTables.{Beside}
use Rattle.paged_tables.specs.PagedTouches.{names_at}

abbrev pub homed : Option Home → PageHome
homed None = NoPage
homed (Some h) = At h

-- along a chain: the home of the page at its end, or the first map on the way that is in no frame
abbrev pub homed_along : Walked → PageHome
homed_along (walked.Along w) = homed w.home
homed_along (walked.Absent home) = MapAway home
homed_along walked.NoChain = NoPage

-- of a place, at the end of its chain or in its file
abbrev pub homed_over : Beside → List HomePlace → Place → PageHome
homed_over b places (Fork s) = homed_along (walk_at b.tables places s)
homed_over b places (File f page) = homed (fin.get b.files (file_page f.0 page))

-- what a look finds where a page is
abbrev pub peeked_at : HomePlace → Home → ℕ → Peeked
peeked_at free h offset = Away h
peeked_at away h offset = Away h
peeked_at (here words) h offset = Is (slice_index words offset)

-- what a look finds at the end of the way to a page
abbrev pub peeked_home : List HomePlace → ℕ → PageHome → Peeked
peeked_home places offset (At h) = peeked_at (place places h.0) h offset
peeked_home places offset (MapAway h) = Away h
peeked_home places offset NoPage = Nothing

-- and of the page of a place
abbrev pub peeked_over : Beside → List HomePlace → Place → ℕ → Peeked
peeked_over b places at offset = peeked_home places offset (homed_over b places at)

-- the name of the page at the end of the way, and how many names the tables keep of it
abbrev pub counted_home : Beside → PageHome → Option (PageName × ℕ)
counted_home b (At h) = Some (name_of b.tables.names h, names_at b h.0)
counted_home b (MapAway h) = None
counted_home b NoPage = None

-- and of the page of a place
abbrev pub counted_over : Beside → List HomePlace → Place → Option (PageName × ℕ)
counted_over b places at = counted_home b (homed_over b places at)
