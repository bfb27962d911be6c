-- What steps do to a store and to the tables beside it.
use Rattle.std.specs.Prelude.{◌≡◌, ◌⊎◌, ℕ, List, Option, None, Some}
use Rattle.plain_pages.specs.Maps.{narrowed}
use Rattle.machine_names.specs.declared.names.Access.{Access}
use Rattle.page_homes.specs.declared.homes.Home.{Home}
use Rattle.machine_names.specs.declared.names.PageName.{PageName}
use Rattle.machine_names.specs.declared.names.Tty.{Tty}
use Rattle.page_contracts.specs.Stores.{StoreMeaning, HomePlace, IsMade, FitsHomes, Loses, RenewsNone, free, place, traffic}
use Rattle.machine_names.specs.declared.names.Slot.{Slot}
use Rattle.page_contracts.specs.DrumWords.{DrumWords}
use Rattle.plain_pages.specs.References.{with_entry as entry_put}
use Rattle.page_contracts.specs.Pages.{StaysInCore}
use Rattle.flat_tables.specs.declared.held_entry.EntryAt.{EntryAt}
use Rattle.flat_tables.specs.declared.held_map.HeldMap.{HeldMap}
use Rattle.flat_tables.specs.declared.map_tables.MapTables.{MapTables}
use Rattle.flat_tables.specs.declared.held_entry.HeldEntry.{HeldEntry}
use Rattle.flat_tables.specs.declared.held_entry.HeldEntry.TheVariants.{Empty, Page, Follows}
use Rattle.flat_tables.specs.HeldMaps.{held_entry, name_at, with_entry, entry_of}
use Rattle.flat_tables.specs.Walks.{slot_of}
use Rattle.flat_tables.specs.SlotTables.{Tables, plain_of, files_held}
use Rattle.flat_tables.specs.SlotTouches.{scene_of}
use Rattle.flat_tables.specs.TableSteps.{tables_of, home_taken}

-- a free home was taken, for a new page of an owner that an entry names now
pub record TakesHome {S : Type 0} (store : StoreMeaning S) (old new : S) (tables tables' : MapTables) (at : EntryAt) (page : HomePlace) (access : Access) (owner : Tty) : Type 0 where
  pub home : Home
  pub made : IsMade store home.0 page old new
  pub taken : tables_of (store.homes new) tables' ≡ home_taken (tables_of (store.homes old) tables) at home page access owner

-- an entry names the page of a home
pub record NamesHome (maps : List HeldMap) (at : EntryAt) (home : ℕ) : Type 0 where
  pub access : Access
  pub is : held_entry maps at ≡ Some (Page (record { 0 = home }) access)

-- the page of a home and its name stay, or the home is given up, and then this is so
abbrev pub Stays : HomePlace → HomePlace → Option PageName → Option PageName → Type 0 → Type 0
Stays old new old_name new_name named = ((new ≡ old) × (new_name ≡ old_name)) ⊎ ((new ≡ free) × (new_name ≡ None) × named)

abbrev pub HomeStays : Tables → Tables → ℕ → Type 0 → Type 0
HomeStays t t' home named = Stays (place t.places home) (place t'.places home) (name_at t.names home) (name_at t'.names home) named

-- an entry was set: what no entry names any more was given up, and nothing has left its frame; where it named no page the store is as it was
pub record SetsEntry {S : Type 0} (store : StoreMeaning S) (old new : S) (tables tables' : MapTables) (at : EntryAt) (e : HeldEntry) : Type 0 where
  pub told : (d : DrumWords) (s : Slot) → slot_of tables.maps.held.items at ≡ Some s → FitsHomes (store.homes old) d
      → FitsHomes (store.homes new) d × (plain_of (tables_of (store.homes new) tables') d ≡ entry_put (plain_of (tables_of (store.homes old) tables) d) s (entry_of tables.names.items e))
  pub maps : tables'.maps.held.items ≡ with_entry tables.maps.held.items at e
  pub files : tables'.files ≡ tables.files
  pub filed : files_held tables'.names.items tables'.files ≡ files_held tables.names.items tables.files
  pub serials : tables'.serials ≡ tables.serials
  pub living : tables'.living ≡ tables.living
  pub limit : tables'.limit ≡ tables.limit
  pub homes : (home : ℕ) → HomeStays (tables_of (store.homes old) tables) (tables_of (store.homes new) tables') home (NamesHome tables.maps.held.items at home)
  pub untouched : ((home : ℕ) → NamesHome tables.maps.held.items at home → ⊥) → new ≡ old
  pub core : StaysInCore (scene_of (tables_of (store.homes old) tables) (store.spare old)) (scene_of (tables_of (store.homes new) tables') (store.spare new)) 0
  pub lost : Loses (traffic store old) (traffic store new)
  pub used : RenewsNone (traffic store old) (traffic store new)

-- an entry of which no more is permitted than is given
abbrev pub narrow_held : Access → HeldEntry → HeldEntry
narrow_held given Empty = Empty
narrow_held given (Page h a) = Page h (narrowed a given)
narrow_held given (Follows l a) = Follows l (narrowed a given)
