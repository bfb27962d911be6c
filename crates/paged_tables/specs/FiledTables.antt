-- What a page of a file that is set does to what is kept beside a store.
use Rattle.std.specs.Prelude.{ℕ, ◌+◌, ◌-◌, Option, None, Some, slice_set}
use Rattle.std.specs.FinMap as fin
use Rattle.machine_names.specs.Orders.{FilePage}
use Rattle.page_homes.specs.declared.homes.Home.{Home}
use Rattle.share_table.specs.declared.shares.Share.{Share}
use Rattle.share_table.specs.Shares.{Shares, joined, with_page}
use Rattle.flat_tables.specs.SlotTables.{share_of}
use Rattle.paged_tables.specs.LeftShares.{left_by_one}
use Rattle.paged_tables.specs.NameCounts.{share_at}
use Rattle.paged_tables.specs.PagedTables.{Beside}

abbrev pub joined_by_one : Shares → Option Share → Shares
joined_by_one shares None = shares
joined_by_one shares (Some s) = joined shares s.0

-- a file names the page of a home no more, which keeps another name
abbrev pub filed_left : Beside → FilePage ℕ → Home → Beside
filed_left b f h = record b {
  tables = record b.tables { shares = left_by_one b.tables.shares (share_at b.shared h.0) };
  filed = slice_set b.filed h.0 (share_of b.filed h.0 - 1);
  files = fin.remove b.files f;
}

-- and the home has no page any more, where it has none
abbrev pub filed_freed : Beside → FilePage ℕ → Home → Beside
filed_freed b f h = record b {
  tables = record b.tables { names = slice_set b.tables.names h.0 None; shares = left_by_one b.tables.shares (share_at b.shared h.0) };
  shared = slice_set b.shared h.0 None;
  filed = slice_set b.filed h.0 0;
  files = fin.remove b.files f;
  taken = b.taken - 1;
}

-- the page of a home has a share, which counts its one name
abbrev pub with_share : Beside → Home → Share → Beside
with_share b h s = record b {
  tables = record b.tables { shares = with_page b.tables.shares s.0 (record { home = h; count = 1 }) };
  shared = slice_set b.shared h.0 (Some s);
}

-- a file that named none names the page of a home, which has a share
abbrev pub filed_joined : Beside → FilePage ℕ → Home → Beside
filed_joined b f h = record b {
  tables = record b.tables { shares = joined_by_one b.tables.shares (share_at b.shared h.0) };
  filed = slice_set b.filed h.0 (share_of b.filed h.0 + 1);
  files = fin.insert b.files f h;
}
