-- What each kind of step does to the tables.
use Rattle.std.specs.Prelude.{ℕ, ◌+◌, ◌-◌, List, Option, None, Some, slice_set}
use Rattle.std.specs.FinMap as map
use Rattle.machine_names.specs.declared.names.Access.{Access}
use Rattle.page_homes.specs.declared.homes.Home.{Home}
use Rattle.machine_names.specs.declared.names.ForkName.{ForkName}
use Rattle.machine_names.specs.declared.names.PageName.{PageName}
use Rattle.machine_names.specs.declared.names.Tty.{Tty}
use Rattle.machine_names.specs.Orders.{FilePage}
use Rattle.page_contracts.specs.Stores.{HomePlace, free}
use Rattle.flat_tables.specs.declared.held_entry.EntryAt.{EntryAt}
use Rattle.flat_tables.specs.declared.held_entry.HeldEntry.{HeldEntry}
use Rattle.flat_tables.specs.declared.held_entry.HeldEntry.TheVariants.{Page}
use Rattle.flat_tables.specs.declared.page_serials.PageSerials.{PageSerials}
use Rattle.flat_tables.specs.declared.map_tables.MapTables.{MapTables}
use Rattle.flat_tables.specs.Serials.{serial_of, with_next}
use Rattle.flat_tables.specs.HeldMaps.{map_at, held_entry, with_entry}
use Rattle.flat_tables.specs.SlotTables.{Tables, share_of}

-- the tables beside a store
abbrev pub tables_of : List HomePlace → MapTables → Tables
tables_of places m = record { places = places; names = m.names.items; shares = m.shares.items; maps = m.maps.held.items; files = m.files; serials = m.serials; taken = m.taken; living = m.living; limit = m.limit }

-- the name of an owner's next page
abbrev pub next_name : PageSerials → Tty → PageName
next_name serials owner = record { tty = owner; serial = serial_of serials owner }

-- the page that an entry names is named once less
abbrev pub left_shares : List ℕ → Option HeldEntry → List ℕ
left_shares shares (Some (Page h a)) = slice_set shares h.0 (share_of shares h.0 - 1)
left_shares shares e = shares

-- a home is taken, for a new page of an owner that an entry names in place of what it named
abbrev pub home_taken : Tables → EntryAt → Home → HomePlace → Access → Tty → Tables
home_taken t at home page access owner = record t {
  places = slice_set t.places home.0 page;
  names = slice_set t.names home.0 (Some (next_name t.serials owner));
  shares = slice_set (left_shares t.shares (held_entry t.maps at)) home.0 1;
  maps = with_entry t.maps at (Page home access);
  serials = with_next t.serials owner;
  taken = t.taken + 1;
}

-- the home of a page that one entry alone names becomes that of a new page of an owner
abbrev pub home_renamed : Tables → EntryAt → Home → Access → Tty → Tables
home_renamed t at home access owner = record t {
  names = slice_set t.names home.0 (Some (next_name t.serials owner));
  maps = with_entry t.maps at (Page home access);
  serials = with_next t.serials owner;
}

-- an entry becomes another, of the same page or of none
abbrev pub entry_kept : Tables → EntryAt → HeldEntry → Tables
entry_kept t at e = record t { maps = with_entry t.maps at e }

-- an entry becomes one of no page, and its page is named once less
abbrev pub entry_left : Tables → EntryAt → HeldEntry → Tables
entry_left t at e = record t { shares = left_shares t.shares (held_entry t.maps at); maps = with_entry t.maps at e }

-- and the page's home is given up
abbrev pub home_freed : Tables → EntryAt → Home → HeldEntry → Tables
home_freed t at home e = record t {
  places = slice_set t.places home.0 free;
  names = slice_set t.names home.0 None;
  shares = slice_set t.shares home.0 0;
  maps = with_entry t.maps at e;
  taken = t.taken - 1;
}

-- a home is taken, for a new page of an owner that a file names, which had none there
abbrev pub home_filed : Tables → FilePage ℕ → Home → HomePlace → Tty → Tables
home_filed t f home page owner = record t {
  places = slice_set t.places home.0 page;
  names = slice_set t.names home.0 (Some (next_name t.serials owner));
  shares = slice_set t.shares home.0 1;
  files = map.insert t.files f home;
  serials = with_next t.serials owner;
  taken = t.taken + 1;
}

-- the page of a home is named once more
abbrev pub joined_shares : List ℕ → Home → List ℕ
joined_shares shares h = slice_set shares h.0 (share_of shares h.0 + 1)

-- an empty entry names the page of a home, which has another name
abbrev pub entry_joined : Tables → EntryAt → Home → Access → Tables
entry_joined t at h a = record t { shares = joined_shares t.shares h; maps = with_entry t.maps at (Page h a) }

-- a file names the page of a home, which has another name; it had none there
abbrev pub file_joined : Tables → FilePage ℕ → Home → Tables
file_joined t f h = record t { shares = joined_shares t.shares h; files = map.insert t.files f h }

-- a file names the page of a home no more, which keeps another name
abbrev pub file_left : Tables → FilePage ℕ → Home → Tables
file_left t f h = record t { shares = slice_set t.shares h.0 (share_of t.shares h.0 - 1); files = map.remove t.files f }

-- and the page's home is given up, where it has none
abbrev pub file_freed : Tables → FilePage ℕ → Home → Tables
file_freed t f h = record t {
  places = slice_set t.places h.0 free;
  names = slice_set t.names h.0 None;
  shares = slice_set t.shares h.0 0;
  files = map.remove t.files f;
  taken = t.taken - 1;
}

-- a fork begins to live, with the map that has a number and these entries
abbrev pub fork_begun : Tables → ℕ → ForkName → List HeldEntry → Tables
fork_begun t k f entries = record t { maps = slice_set t.maps k (record { fork = Some f; entries = entries }); living = t.living + 1 }

-- a fork ends, whose map has a number
abbrev pub fork_ended : Tables → ℕ → Tables
fork_ended t k = record t { maps = slice_set t.maps k (record (map_at t.maps k) { fork = None }); living = t.living - 1 }
