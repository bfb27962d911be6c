-- The shares once the page of a home is named once less.
use Rattle.std.specs.Prelude.{ℕ, Bool, ◌&&◌, nat_lt, Option, None, Some, if◌then◌else◌}
use Rattle.share_table.specs.declared.shares.Share.{Share}
use Rattle.share_table.specs.Shares.{Shares, left}
use Rattle.flat_tables.specs.SlotTables.{share_of}
use Rattle.pager_walk.specs.declared.paged_entry.Looked.{Looked}
use Rattle.pager_walk.specs.declared.paged_entry.Looked.TheVariants.{Is, Absent, Missing, Refused}
use Rattle.pager_walk.specs.declared.paged_entry.PagedEntry.TheVariants.{Empty, Page, Follows}
use Rattle.paged_tables.specs.NameCounts.{share_at}
use Rattle.paged_tables.specs.PagedTables.{Beside}
use Rattle.paged_tables.specs.PagedTouches.{names_at}

abbrev pub left_by_one : Shares → Option Share → Shares
left_by_one shares None = shares
left_by_one shares (Some s) = left shares s.0

-- whether the page of a home keeps another name when an entry leaves it; what files name of it stays
abbrev pub keeps_name : Beside → ℕ → Bool
keeps_name b h = nat_lt 1 (names_at b h) && nat_lt (share_of b.filed h) (names_at b h)

-- the page of a home is named once less, where it keeps another name
unfoldable pub left_once : Beside → ℕ → Shares
left_once b h = if keeps_name b h then left_by_one b.tables.shares (share_at b.shared h) else b.tables.shares

-- so is the page that an entry names
abbrev pub left_of : Beside → Looked → Shares
left_of b (Is Empty) = b.tables.shares
left_of b (Is (Page home a)) = left_once b home.0
left_of b (Is (Follows serial page a)) = b.tables.shares
left_of b (Absent home) = b.tables.shares
left_of b Missing = b.tables.shares
left_of b Refused = b.tables.shares
