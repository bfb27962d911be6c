-- Maps that are pages of a store, and the plain maps that they are over the words of a drum.
use Rattle.std.specs.Prelude.{◌≡◌, ℕ, ◌<◌, ◌≤◌, List, [], ◌∷◌, Bool, true, false, Option, None, Some, is_some, IsSome, if◌then◌else◌, length, map, slice_index, slice_index_or, slice_set}
use Rattle.std.specs.Option.{option_map_or, option_and_then, unwrap_or}
use Rattle.std.specs.FinMap as fin
use Rattle.machine_names.specs.declared.names.Access.{Access}
use Rattle.machine_names.specs.declared.names.ForkName.{ForkName}
use Rattle.machine_names.specs.declared.names.PageName.{PageName}
use Rattle.machine_names.specs.declared.names.Slot.{Slot}
use Rattle.machine_names.specs.declared.names.TheConstants.{SPACE_PAGES}
use Rattle.page_homes.specs.declared.homes.Home.{Home}
use Rattle.plain_pages.specs.declared.map.MapEntry.{MapEntry}
use Rattle.plain_pages.specs.declared.map.MapEntry.TheVariants as entry
use Rattle.plain_pages.specs.PlainPages.{Map, Maps}
use Rattle.plain_pages.specs.Maps.{entry_at}
use Rattle.share_table.specs.declared.pointer.Pointer.{Pointer}
use Rattle.share_table.specs.declared.pointer.Pointer.TheVariants as pointer
use Rattle.share_table.specs.Shares.{Shares, page_at}
use Rattle.page_contracts.specs.declared.answers.Seen.{Seen}
use Rattle.page_contracts.specs.declared.answers.Seen.TheVariants as seen
use Rattle.page_contracts.specs.DrumWords.{DrumWords}
use Rattle.page_contracts.specs.Stores.{HomePlace, FitsHomes, place, away, word_in, content, away_at}
use Rattle.pager_walk.specs.declared.map_pages.MapPage.{MapPage}
use Rattle.pager_walk.specs.declared.paged_entry.MapTables.{MapTables}
use Rattle.pager_walk.specs.declared.paged_entry.PagedEntry.{PagedEntry}
use Rattle.pager_walk.specs.declared.paged_entry.PagedEntry.TheVariants.{Empty, Page, Follows}
use Rattle.pager_walk.specs.declared.paged_entry.Looked.{Looked}
use Rattle.pager_walk.specs.declared.paged_entry.Looked.TheVariants.{Is, Absent, Missing, Refused}
use Rattle.pager_walk.specs.Decoding.{pointer_in}
use Rattle.pager_walk.specs.MapPages.{AreNumbered, fork_at, root_at, index_of}

-- which home has the map of each fork, the name of the page of each home, and the pages that are shared
pub record Tables : Type 0 where
  pub maps : List MapPage
  pub names : List (Option PageName)
  pub shares : Shares

-- the tables in memory
abbrev pub tables_of : MapTables → Tables
tables_of m = record { maps = m.maps.pages.items; names = m.names.items; shares = m.shares }

-- the name of the page of a home
abbrev pub name_at : List (Option PageName) → ℕ → Option PageName
name_at names h = slice_index_or names h None

abbrev pub nobody : PageName
nobody = record { tty = record { 0 = 0 }; serial = 0 }

abbrev pub name_of : List (Option PageName) → Home → PageName
name_of names h = unwrap_or (name_at names h.0) nobody

-- the entry that names the page of a home, where that has a name
abbrev pub page_entry : List (Option PageName) → Home → Access → Option PagedEntry
page_entry names home access = if is_some (name_at names home.0) then Some (Page home access) else None

-- the entry that a pointer is: it may name a page that has a name, by its home or by its share
abbrev pub entry_for : Tables → Pointer → Option PagedEntry
entry_for t pointer.Empty = Some Empty
entry_for t (pointer.Private home access) = page_entry t.names home access
entry_for t (pointer.Shared share access) = option_and_then (λ p. page_entry t.names p.home access) (page_at t.shares share.0)
entry_for t (pointer.Indirect serial page access) = Some (Follows serial page access)

-- the entry that a word of a map stands for, if it stands for one
abbrev pub entry_in : Tables → ℕ → Option PagedEntry
entry_in t w = option_and_then (entry_for t) (pointer_in w)

-- the same entry in the plain maps, a page's name in the place of its home
abbrev pub plain_entry : List (Option PageName) → PagedEntry → MapEntry
plain_entry names Empty = entry.Empty
plain_entry names (Page home access) = entry.Names (name_of names home) access
plain_entry names (Follows serial page access) = entry.Follows serial page access

-- the entry of a word in the plain maps; an empty one where it stands for none
abbrev pub entry_of : Tables → ℕ → MapEntry
entry_of t w = option_map_or (plain_entry t.names) (entry_in t w) entry.Empty

-- the words of a page, if it has any
abbrev pub words_in : Option (List ℕ) → List ℕ
words_in words = unwrap_or words []

-- the map that the words of a page are
abbrev pub row_of : Tables → Option (List ℕ) → Map
row_of t words = map (entry_of t) (words_in words)

-- the maps with that of a fork, over the content of the homes
abbrev pub with_row : Tables → (ℕ → Option (List ℕ)) → MapPage → Maps → Maps
with_row t words m rest = option_map_or (λ f. fin.insert rest f (row_of t (words m.home.0))) m.fork rest

abbrev pub rows_from : Tables → (ℕ → Option (List ℕ)) → List MapPage → Maps
rows_from t words [] = fin.empty
rows_from t words (m ∷ maps) = with_row t words m (rows_from t words maps)

-- the plain maps of the forks, over the words of a drum
unfoldable pub maps_over : Tables → List HomePlace → DrumWords → Maps
maps_over t places d = rows_from t (content places d) t.maps

-- Each fork's map has a home of its own, which is taken and no page's; a home that has a name is taken; and there is room for the name of each home. It rests on tables in memory and on which homes are
-- taken alone, so that a drum that gives other words leaves it as it is.
pub record AreRooted (t : Tables) (taken : List Bool) : Type 0 where
  pub numbered : AreNumbered t.maps
  pub there : (k : ℕ) (f : ForkName) → fork_at t.maps k ≡ Some f → slice_index_or taken (root_at t.maps k).0 false ≡ true
  pub apart : (j k : ℕ) (f g : ForkName) → fork_at t.maps j ≡ Some f → fork_at t.maps k ≡ Some g → (root_at t.maps j).0 ≡ (root_at t.maps k).0 → j ≡ k
  pub unnamed : (k : ℕ) (f : ForkName) → fork_at t.maps k ≡ Some f → name_at t.names (root_at t.maps k).0 ≡ None
  pub named : (h : ℕ) → is_some (name_at t.names h) ≡ true → slice_index_or taken h false ≡ true
  pub few : length taken ≤ length t.names

-- The words of a drum fit: each word of each map stands for an entry, which agrees with the tables.
pub record FitsMaps (t : Tables) (places : List HomePlace) (d : DrumWords) : Type 0 where
  pub drum : FitsHomes places d
  pub entries : (k page : ℕ) (f : ForkName) → fork_at t.maps k ≡ Some f → page < SPACE_PAGES → IsSome (entry_in t (slice_index (words_in (content places d (root_at t.maps k).0)) page))

-- what a look at the word of an entry finds, which is in no frame or is this
abbrev pub look_word : Tables → Home → Option ℕ → Looked
look_word t home None = Absent home
look_word t home (Some w) = option_map_or Is (entry_in t w) Refused

-- what a look at a page's entry finds in the map with a number, if there is one
abbrev pub look_map : Tables → List HomePlace → ℕ → Option ℕ → Looked
look_map t places page None = Missing
look_map t places page (Some k) = look_word t (root_at t.maps k) (word_in (place places (root_at t.maps k).0) page)

-- what a look at the entry of a slot finds
abbrev pub look_at : Tables → List HomePlace → Slot → Looked
look_at t places s = look_map t places s.page (index_of t.maps s.fork)

-- the home of a fork's map, where that is in no frame
abbrev pub map_away : Tables → List HomePlace → ForkName → Option ℕ
map_away t places f = option_and_then (λ k. away_at places (root_at t.maps k).0) (index_of t.maps f)

-- a look that finds the word of an entry, whatever it stands for
abbrev pub is_near : Looked → Bool
is_near (Is e) = true
is_near (Absent home) = false
is_near Missing = false
is_near Refused = true

-- the tables with the map of a fork under a number, at a home
abbrev pub with_root : Tables → ℕ → ForkName → Home → Tables
with_root t k f home = record t { maps = slice_set t.maps k (record { fork = Some f; home = home }) }

-- the tables with a name for the page of a home
abbrev pub with_name : Tables → Home → PageName → Tables
with_name t home name = record t { names = slice_set t.names home.0 (Some name) }

-- the tables with no fork's map under a number
abbrev pub without_root : Tables → ℕ → Tables
without_root t k = record t { maps = slice_set t.maps k (record { fork = None; home = root_at t.maps k }) }

-- what a look finds, as the layer above sees it
abbrev pub seen_for : Tables → Looked → Seen
seen_for t (Is e) = seen.Is (plain_entry t.names e)
seen_for t (Absent home) = seen.Absent home
seen_for t Missing = seen.Missing
seen_for t Refused = seen.Missing

-- a home of a fork's map, which is in no frame
pub record IsAwayMap (t : Tables) (places : List HomePlace) (home : Home) : Type 0 where
  pub number : ℕ
  pub fork : IsSome (fork_at t.maps number)
  pub root : home ≡ root_at t.maps number
  pub away : place places home.0 ≡ away

-- What holds of a look over whatever drum: a page that is named has a name, what is followed is an entry of a space, and what is absent is a map that is in no frame.
abbrev pub LookStands : Tables → List HomePlace → Looked → Type 0
LookStands t places (Is Empty) = Unit {0}
LookStands t places (Is (Page home access)) = is_some (name_at t.names home.0) ≡ true
LookStands t places (Is (Follows serial page access)) = page < SPACE_PAGES
LookStands t places (Absent home) = IsAwayMap t places home
LookStands t places Missing = Unit {0}
LookStands t places Refused = Unit {0}

-- What a look says of the plain maps over the words of a drum: the entry, where its map is in a frame; the home of the map, where that is in none; or that
-- there is no entry. No word is refused.
abbrev pub TellsEntry : Tables → List HomePlace → DrumWords → Slot → Looked → Type 0
TellsEntry t places d s (Is e) = (map_away t places s.fork ≡ None) × (entry_at (maps_over t places d) s ≡ Some (plain_entry t.names e))
TellsEntry t places d s (Absent home) = (map_away t places s.fork ≡ Some home.0) × IsSome (entry_at (maps_over t places d) s)
TellsEntry t places d s Missing = (map_away t places s.fork ≡ None) × (entry_at (maps_over t places d) s ≡ None)
TellsEntry t places d s Refused = ⊥
