-- What is known of walks, and since when.
use Rattle.std.specs.Prelude.{ℕ, ◌+◌, ◌*◌, ◌-◌, ◌^◌, ◌<◌, ◌≤◌, List, false, Option, None, Some, if◌then◌else◌, ◌==◌, slice_index_or}
use Rattle.machine_names.specs.declared.names.TheConstants.{SPACE_PAGES}
use Rattle.paged_tables.specs.declared.known_page.KnownPage.{KnownPage}
use Rattle.known_slots.specs.declared.known_walks.KnownRow.{KnownRow}

-- of a page to which no walk led yet
abbrev pub unknown_row : KnownRow
unknown_row = record { page = record { home = record { 0 = 0 }; reads = false; writes = false; executes = false }; since = 0 }

-- past the end nothing is known
abbrev pub row_at : List KnownRow → ℕ → KnownRow
row_at rows i = slice_index_or rows i unknown_row

-- It has begun, no walk was made later than now, and none at the last time that there is.
pub record AreDated (rows : List KnownRow) (time : ℕ) : Type 0 where
  pub begun : 1 ≤ time
  pub past : (i : ℕ) → (row_at rows i).since ≤ time
  pub before : (i : ℕ) → (row_at rows i).since < 2 ^ 64 - 1

abbrev pub known_since : ℕ → KnownRow → Option KnownPage
known_since time row = if row.since == time then Some row.page else None

-- what is known of a page of the space with a number
abbrev pub known_rows : List KnownRow → ℕ → ℕ → ℕ → Option KnownPage
known_rows rows time space page = known_since time (row_at rows (space * SPACE_PAGES + page))
