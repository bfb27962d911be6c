-- Walks along the chains of maps in memory.
use Rattle.std.specs.Prelude.{ℕ, zero, suc, List, Bool, not, ◌&&◌, Option, None, Some, if◌then◌else◌, is_none}
use Rattle.std.specs.Option.{option_map, option_map_or, option_and_then}
use Rattle.machine_names.specs.declared.names.Access.{Access}
use Rattle.page_homes.specs.declared.homes.Home.{Home}
use Rattle.machine_names.specs.declared.names.Kind.{Kind}
use Rattle.machine_names.specs.declared.names.Kind.TheVariants as kind
use Rattle.machine_names.specs.declared.names.Slot.{Slot}
use Rattle.machine_names.specs.declared.names.Tty.{Tty}
use Rattle.plain_pages.specs.Maps.{full_access}
use Rattle.flat_tables.specs.declared.held_entry.EntryAt.{EntryAt}
use Rattle.flat_tables.specs.declared.held_entry.HeldEntry.{HeldEntry}
use Rattle.flat_tables.specs.declared.held_entry.HeldEntry.TheVariants.{Empty, Page, Follows}
use Rattle.flat_tables.specs.declared.held_entry.Link.{Link}
use Rattle.flat_tables.specs.declared.held_map.HeldMap.{HeldMap}
use Rattle.fork_maps.specs.declared.chain_walk.Walk.{Walk as AWalk}
use Rattle.fork_maps.specs.ChainWalks.{walk_end, walk_behind}
use Rattle.flat_tables.specs.declared.chain_walk.Use.{Use}
use Rattle.flat_tables.specs.declared.chain_walk.Use.TheVariants.{Read, Write, Execute, Change}
use Rattle.flat_tables.specs.HeldMaps.{fork_at, held_entry, index_of}

-- a walk along maps in memory
abbrev pub Walk : Type 0
Walk = AWalk EntryAt

-- the slot whose entry stands at a place
abbrev pub slot_of : List HeldMap → EntryAt → Option Slot
slot_of maps at = option_map (λ f. record { fork = f; page = at.page }) (fork_at maps at.map)

-- the terminal of a map's fork
abbrev pub terminal_of : List HeldMap → ℕ → Tty
terminal_of maps k = option_map_or (λ f. f.tty) (fork_at maps k) (record { 0 = 0 })

-- where the entry stands that a link names, if its fork lives
abbrev pub next_at : List HeldMap → EntryAt → Link → Option EntryAt
next_at maps at l = option_map (λ k. record { map = k; page = l.page }) (index_of maps (record { tty = terminal_of maps at.map; serial = l.serial }))

-- the walk from an entry on, over those from other entries
abbrev pub walk_from : List HeldMap → EntryAt → Option HeldEntry → (EntryAt → Option Walk) → Option Walk
walk_from maps at None next = None
walk_from maps at (Some Empty) next = Some (walk_end at full_access None)
walk_from maps at (Some (Page h a)) next = Some (walk_end at a (Some h))
walk_from maps at (Some (Follows l a)) next = option_map (walk_behind at a) (option_and_then next (next_at maps at l))

-- the walk along a chain, where so many entries are enough
unfoldable pub walk_within : ℕ → List HeldMap → EntryAt → Option Walk
walk_within zero maps at = None
walk_within (suc n) maps at = walk_from maps at (held_entry maps at) (walk_within n maps)

-- the walk along the chain of an entry
unfoldable pub walk : List HeldMap → EntryAt → Option Walk
walk maps at = walk_within 4 maps at

-- what a reference of a kind does with a page
abbrev pub use_of : Kind → Use
use_of kind.Read = Read
use_of kind.Write = Write
use_of kind.Execute = Execute

-- whether an entry lets a page be used so as it is, with no copy
abbrev pub lets : Use → Access → Bool
lets Read a = a.r
lets Write a = a.w && not a.c
lets Execute a = a.x
lets Change a = a.r && (a.w && not a.c)

-- whether a chain does
abbrev pub lets_along : Use → Walk → Bool
lets_along Read w = w.reads
lets_along Write w = w.writes && is_none w.copy
lets_along Execute w = w.executes
lets_along Change w = w.reads && (w.writes && is_none w.copy)

-- the home of the page at the end of a chain that lets it be used so as it is
abbrev pub ready_home : Use → Walk → Option Home
ready_home wanted w = if lets_along wanted w then w.home else None
