-- What is known of pages that chains lead to, and where such a page is.
use Rattle.std.specs.Prelude.{ℕ, List, Bool, true, ◌&&◌, Option, None, Some, if◌then◌else◌, is_none}
use Rattle.std.specs.Option.{option_map, option_and_then}
use Rattle.machine_names.specs.declared.names.ForkName.{ForkName}
use Rattle.machine_names.specs.declared.names.Kind.{Kind}
use Rattle.machine_names.specs.declared.names.Kind.TheVariants.{Read, Write, Execute}
use Rattle.page_homes.specs.declared.homes.Home.{Home}
use Rattle.page_contracts.specs.declared.answers.Found.{Found}
use Rattle.page_contracts.specs.declared.answers.SpaceHandle.{SpaceHandle}
use Rattle.page_contracts.specs.Stores.{HomePlace}
use Rattle.pager_walk.specs.declared.chain_walk.Walked.{Walked}
use Rattle.pager_walk.specs.declared.chain_walk.Walked.TheVariants as walked
use Rattle.pager_walk.specs.MapPages.{fork_at}
use Rattle.pager_walk.specs.Walks.{Way, walk_at}
use Rattle.paged_tables.specs.declared.known_page.KnownPage.{KnownPage}
use Rattle.paged_tables.specs.PagedTables.{Beside}

-- at the end of a chain: its page, and how the chain lets that be used as it is
abbrev pub known_page : Way → Home → KnownPage
known_page w home = record { home = home; reads = w.reads; writes = w.writes && is_none w.copy; executes = w.executes }

abbrev pub known_along : Walked → Option KnownPage
known_along (walked.Along w) = option_map (known_page w) w.home
known_along (walked.Absent home) = None
known_along walked.NoChain = None

-- whether a page may be referenced as it is
abbrev pub lets_known : Kind → KnownPage → Bool
lets_known Read k = k.reads
lets_known Write k = k.writes
lets_known Execute k = k.executes

-- whether it may be read and written
abbrev pub lets_change : KnownPage → Bool
lets_change k = k.reads && k.writes

-- what is known of a page of a fork's space, and of the space with a number
abbrev pub known_of : Beside → List HomePlace → Option ForkName → ℕ → Option KnownPage
known_of b places None page = None
known_of b places (Some f) page = known_along (walk_at b.tables places (record { fork = f; page = page }))

abbrev pub known_over : Beside → List HomePlace → SpaceHandle → ℕ → Option KnownPage
known_over b places space page = known_of b places (fork_at b.tables.maps space.0) page

-- where a known page is that may be used so, if it is in a frame
abbrev pub found_known : (ℕ → Option Found) → (KnownPage → Bool) → Option KnownPage → Option Found
found_known found lets known = option_and_then (λ k. if lets k then found k.home.0 else None) known

-- where a page of a space is that a look found, however it may be used
abbrev pub place_over : (ℕ → Option Found) → Beside → List HomePlace → SpaceHandle → ℕ → Option Found
place_over found b places space page = found_known found (λ k. true) (known_over b places space page)
