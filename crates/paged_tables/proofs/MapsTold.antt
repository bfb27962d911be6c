-- The maps in memory that the words of maps stand for.
use Rattle.std.proofs.Common.{◌≡◌, ℕ, zero, suc, ◌<◌, List, [], ◌∷◌, false, cond, Option, None, Some, length, map, refl, ◌∙◌, ap}
use Rattle.std.specs.Prelude.{slice_get, slice_index}
use Rattle.std.specs.Option.{option_map, option_map_or}
use Rattle.std.specs.FinMap as fin
use Rattle.std.proofs.lemmas.Option.{slice_get-map, slice_get-get_or}
use Rattle.machine_names.specs.declared.names.ForkName.{ForkName}
use Rattle.machine_names.specs.Orders.{same_fork}
use Rattle.page_homes.specs.declared.homes.Home.{Home}
use Rattle.page_contracts.specs.DrumWords.{DrumWords}
use Rattle.page_contracts.specs.Stores.{HomePlace, content}
use Rattle.plain_pages.specs.declared.map.MapEntry.TheVariants as entry
use Rattle.pager_walk.specs.declared.map_pages.MapPage.{MapPage}
use Rattle.pager_walk.specs.declared.paged_entry.PagedEntry.{PagedEntry}
use Rattle.pager_walk.specs.declared.paged_entry.PagedEntry.TheVariants as paged
use Rattle.pager_walk.specs.MapPages.{fork_at, root_at, index_of, one_later}
use Rattle.pager_walk.specs.PagedMaps.{Tables, entry_in, entry_of, maps_over, plain_entry, row_of, rows_from, words_in}
use Rattle.flat_tables.specs.declared.held_entry.HeldEntry.{HeldEntry}
use Rattle.flat_tables.specs.declared.held_entry.HeldEntry.TheVariants.{Empty}
use Rattle.flat_tables.specs.declared.held_map.HeldMap.{HeldMap}
use Rattle.flat_tables.specs.HeldMaps as flat
use Rattle.paged_tables.specs.MapsInMemory.{in_memory, entry_held, entries_held, map_held, maps_in_memory}

module _ (t : Tables) (words : ℕ → Option (List ℕ)) where
  abbrev pub held : List MapPage → List HeldMap
  held maps = map (map_held t words) maps

  pub fork_told : (maps : List MapPage) (k : ℕ) → flat.fork_at (held maps) k ≡ fork_at maps k
  fork_told [] k = refl
  fork_told (m ∷ maps) zero = refl
  fork_told (m ∷ maps) (suc k) = fork_told maps k

  later_told : (o : Option ℕ) → flat.one_later o ≡ one_later o
  later_told None = refl
  later_told (Some k) = refl

  pub index_told : (maps : List MapPage) (f : ForkName) → flat.index_of (held maps) f ≡ index_of maps f
  index_told [] f = refl
  index_told (m ∷ maps) f = ap (λ o. cond (option_map_or (same_fork f) m.fork false) (Some 0) o) (ap flat.one_later (index_told maps f) ∙ later_told (index_of maps f))

  -- the entries of a fork's map are those of its words
  own_entries : (home : Home) (o : Option ForkName) (f : ForkName) → o ≡ Some f → entries_held t words home o ≡ map (entry_held t) (words_in (words home.0))
  own_entries home None f e = absurd (cc e)
  own_entries home (Some g) f e = refl

  pub entries_told : (maps : List MapPage) (k : ℕ) (f : ForkName) → fork_at maps k ≡ Some f → (flat.map_at (held maps) k).entries ≡ map (entry_held t) (words_in (words (root_at maps k).0))
  entries_told [] k f e = absurd (cc e)
  entries_told (m ∷ maps) zero f e = own_entries m.home m.fork f e
  entries_told (m ∷ maps) (suc k) f e = entries_told maps k f e

  pub entry_told : (maps : List MapPage) (k page : ℕ) (f : ForkName) → fork_at maps k ≡ Some f → page < length (words_in (words (root_at maps k).0))
      → flat.held_entry (held maps) (record { map = k; page = page }) ≡ Some (entry_held t (slice_index (words_in (words (root_at maps k).0)) page))
  entry_told maps k page f e below =
      let ws = words_in (words (root_at maps k).0) in
      ap (λ (es : List HeldEntry). slice_get es page) (entries_told maps k f e) ∙ slice_get-map (entry_held t) ws page ∙ ap (option_map (entry_held t)) (slice_get-get_or ws page 0 below)

  -- an entry in memory is the plain entry of its word
  one_entry : (o : Option PagedEntry) → flat.entry_of t.names (option_map_or in_memory o Empty) ≡ option_map_or (plain_entry t.names) o entry.Empty
  one_entry None = refl
  one_entry (Some paged.Empty) = refl
  one_entry (Some (paged.Page home a)) = refl
  one_entry (Some (paged.Follows serial page a)) = refl

  each_entry : (ws : List ℕ) → map (flat.entry_of t.names) (map (entry_held t) ws) ≡ map (entry_of t) ws
  each_entry [] = refl
  each_entry (w ∷ ws) = λ i. one_entry (entry_in t w) i ∷ each_entry ws i

  -- and the maps in memory are the plain maps of the words
  pub rows_told : (maps : List MapPage) → flat.maps_from t.names (held maps) ≡ rows_from t words maps
  rows_told [] = refl
  rows_told (m ∷ maps) = by m.fork (rows_told maps)
    where
      by : (o : Option ForkName) → flat.maps_from t.names (held maps) ≡ rows_from t words maps
          → option_map_or (λ f. fin.insert (flat.maps_from t.names (held maps)) f (map (flat.entry_of t.names) (entries_held t words m.home o))) o (flat.maps_from t.names (held maps))
          ≡ option_map_or (λ f. fin.insert (rows_from t words maps) f (row_of t (words m.home.0))) o (rows_from t words maps)
      by None rest = rest
      by (Some f) rest = λ i. fin.insert (rest i) f (each_entry (words_in (words m.home.0)) i)

pub maps_told : (t : Tables) (places : List HomePlace) (d : DrumWords) → flat.maps_held t.names (maps_in_memory t (content places d)) ≡ maps_over t places d
unfolding flat.maps_held maps_in_memory maps_over
maps_told t places d = rows_told t (content places d) t.maps
