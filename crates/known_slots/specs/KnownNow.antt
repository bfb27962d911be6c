-- What is known of walks is so.
use Rattle.std.specs.Prelude.{◌≡◌, ℕ, ◌<◌, List, Some}
use Rattle.machine_names.specs.declared.names.TheConstants.{SPACE_PAGES}
use Rattle.page_contracts.specs.Stores.{HomePlace}
use Rattle.paged_tables.specs.declared.known_page.KnownPage.{KnownPage}
use Rattle.known_slots.specs.declared.known_walks.KnownWalks.{KnownWalks}
use Rattle.paged_tables.specs.KnownPages.{known_over}
use Rattle.paged_tables.specs.PagedTables.{Beside}
use Rattle.known_slots.specs.WalkTimes.{known_rows}

-- a walk from a page of a space would come to what is known of it
abbrev pub AreKnown : Beside → List HomePlace → KnownWalks → Type 0
AreKnown b places w = (space page : ℕ) (k : KnownPage) → page < SPACE_PAGES → known_rows w.rows.items w.time space page ≡ Some k → known_over b places (record { 0 = space }) page ≡ Some k
