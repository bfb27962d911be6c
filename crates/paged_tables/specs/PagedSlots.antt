-- What the clauses of pages say of maps that are pages of a store.
use Rattle.std.specs.Prelude.{ℕ, ◌+◌, true, Option}
use Rattle.std.specs.Option.{option_map}
use Rattle.std.specs.FinMap as fin
use Rattle.machine_names.specs.declared.names.ForkName.{ForkName}
use Rattle.machine_names.specs.declared.names.PageName.{PageName}
use Rattle.machine_names.specs.declared.names.TheConstants.{MOST_FORKS}
use Rattle.machine_names.specs.Orders.{FilePage}
use Rattle.page_contracts.specs.declared.answers.SpaceHandle.{SpaceHandle}
use Rattle.page_contracts.specs.Stores.{StoreMeaning}
use Rattle.page_contracts.specs.Pages.{PagesMeaning}
use Rattle.flat_tables.specs.Serials.{serial_of}
use Rattle.flat_pages.specs.SlotMeaning.{within}
use Rattle.flat_tables.specs.SlotTables.{files_held}
use Rattle.flat_tables.specs.SlotTouches.{home_named}
use Rattle.pager_walk.specs.MapPages.{index_of, root_at}
use Rattle.pager_walk.specs.PagedMaps.{look_at, seen_for}
use Rattle.paged_tables.specs.KnownPages.{place_over}
use Rattle.paged_tables.specs.PagedMeaning.{forks_in, lives_in}
use Rattle.paged_tables.specs.PagedTables.{Beside, FitsPages, plain_over}
use Rattle.paged_tables.specs.PagedTouches.{scene_over, touched_over}

-- what files name
abbrev pub filed_over : Beside → FilePage ℕ → Option PageName
filed_over b = fin.get (files_held b.tables.names b.files)

-- the handle of a fork's space is the number of its map
abbrev pub space_over : Beside → ForkName → Option SpaceHandle
space_over b f = option_map (λ k. record { 0 = k }) (index_of b.tables.maps f)

-- the home of a fork's map
abbrev pub map_home_over : Beside → ForkName → Option ℕ
map_home_over b f = option_map (λ k. (root_at b.tables.maps k).0) (index_of b.tables.maps f)

-- pages that have a store, in which the maps are too, and what is kept beside it
abbrev pub paged_slots : {P S : Type 0} → StoreMeaning S → (P → S) → (P → Beside) → PagesMeaning P
paged_slots store part beside = record {
  fits = λ p. FitsPages (beside p) (store.homes (part p));
  plain = λ p. plain_over (beside p) (store.homes (part p));
  scene = λ p. scene_over (beside p) (store.homes (part p)) (store.spare (part p));
  touched = λ p. touched_over (beside p) (store.homes (part p)) (store.spare (part p));
  seen = λ p s. seen_for (beside p).tables (look_at (beside p).tables (store.homes (part p)) s);
  filed = λ p. filed_over (beside p);
  lives = λ p. lives_in (beside p);
  forks_of = λ p. forks_in (beside p);
  serial = λ p. serial_of (beside p).serials;
  count = λ p. (beside p).taken + (beside p).living;
  most = λ p. (beside p).limit;
  most_forks = MOST_FORKS;
  flat = store.flat;
  paged = true;
  space = λ p. space_over (beside p);
  place = λ p. place_over (store.found (part p)) (beside p) (store.homes (part p));
  map_home = λ p. map_home_over (beside p);
  page_home = λ p. home_named (beside p).tables.names;
  store = within store part;
}
