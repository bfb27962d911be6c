-- What references find of maps in memory over a store, and what is in frames.
use Rattle.std.specs.Prelude.{ℕ, ◌+◌, List, [], ◌∷◌, Bool, true, false, Option, None, Some, if◌then◌else◌, ◌==◌, nat_le}
use Rattle.std.specs.Option.{option_map_or, option_and_then}
use Rattle.std.specs.FinMap as map
use Rattle.machine_names.specs.declared.names.PageName.{PageName}
use Rattle.page_homes.specs.declared.homes.Home.{Home}
use Rattle.machine_names.specs.declared.names.Kind.{Kind}
use Rattle.machine_names.specs.declared.names.Kind.TheVariants.{Write}
use Rattle.machine_names.specs.declared.names.Place.{Place}
use Rattle.machine_names.specs.declared.names.Place.TheVariants.{Fork, File}
use Rattle.machine_names.specs.declared.names.Slot.{Slot}
use Rattle.page_contracts.specs.declared.answers.Touch.{Touch}
use Rattle.page_contracts.specs.declared.answers.Touch.TheVariants.{Ready, Zero, Copy, Denied, Full}
use Rattle.machine_names.specs.Orders.{file_page}
use Rattle.plain_pages.specs.Room.{same_page}
use Rattle.page_contracts.specs.Pages.{Scene, absent_or, framed}
use Rattle.page_contracts.specs.Stores.{away_at}
use Rattle.flat_tables.specs.declared.held_entry.EntryAt.{EntryAt}
use Rattle.flat_tables.specs.declared.held_entry.HeldEntry.{HeldEntry}
use Rattle.flat_tables.specs.declared.held_entry.HeldEntry.TheVariants.{Page}
use Rattle.flat_tables.specs.declared.held_map.HeldMap.{HeldMap}
use Rattle.fork_maps.specs.ChainWalks.{allows_along, copy_for}
use Rattle.flat_tables.specs.HeldMaps.{held_entry, index_of, one_later}
use Rattle.flat_tables.specs.Walks.{Walk, walk}
use Rattle.flat_tables.specs.SlotTables.{Tables, share_of}

-- the home of a page
abbrev pub home_named : List (Option PageName) → PageName → Option ℕ
home_named [] x = None
home_named (n ∷ names) x = if option_map_or (same_page x) n false then Some 0 else one_later (home_named names x)

-- maps are always in memory; these homes are in no frame
abbrev pub scene_with : (ℕ → Option ℕ) → List (Option PageName) → ℕ → Scene
scene_with absent names frames = record { map_away = λ f. None; page_away = λ n. option_and_then absent (home_named names n); free_frames = frames }

-- what of the pages is in frames, the store says
abbrev pub scene_of : Tables → ℕ → Scene
scene_of t frames = scene_with (away_at t.places) t.names frames

-- whether so many pages more may live
abbrev pub has_room : Tables → ℕ → Bool
has_room t n = nat_le (t.taken + t.living + n) t.limit

-- whether an entry is the only one that names its page
abbrev pub is_alone : List ℕ → Option HeldEntry → Bool
is_alone shares (Some (Page h a)) = share_of shares h.0 == 1
is_alone shares e = false

-- what a copy wants: no room nor frame, where the old page has no other name
abbrev pub touch_copy : Tables → Scene → Option ℕ → Bool → Touch
touch_copy t scene absent true = absent_or absent (Copy true)
touch_copy t scene absent false = if has_room t 1 then absent_or absent (framed scene (Copy false)) else Full

-- what a reference finds that is permitted: whether pages have to be made, and whether there is room for them
abbrev pub touch_made : (ℕ → Option ℕ) → Tables → Scene → Option Home → Option EntryAt → Touch
touch_made absent t scene None None = if has_room t 1 then framed scene Zero else Full
touch_made absent t scene None (Some m) = if has_room t 2 then framed scene Zero else Full
touch_made absent t scene (Some h) None = absent_or (absent h.0) Ready
touch_made absent t scene (Some h) (Some m) = touch_copy t scene (absent h.0) (is_alone t.shares (held_entry t.maps m))

-- what a reference finds along its chain
abbrev pub touch_walked : (ℕ → Option ℕ) → Tables → Scene → Kind → Option Walk → Touch
touch_walked absent t scene kind None = Denied kind
touch_walked absent t scene kind (Some w) = if allows_along kind w then touch_made absent t scene w.home (copy_for kind w) else Denied kind

-- the walk along the chain of a slot, whose fork may not live
abbrev pub walk_of : List HeldMap → Slot → Option Walk
walk_of maps s = option_and_then (λ k. walk maps (record { map = k; page = s.page })) (index_of maps s.fork)

-- what a reference finds of a page of a file, or of none: a write may make one
abbrev pub touch_filed : (ℕ → Option ℕ) → Tables → Scene → Kind → Option Home → Touch
touch_filed absent t scene kind (Some h) = touch_made absent t scene (Some h) None
touch_filed absent t scene Write None = touch_made absent t scene None None
touch_filed absent t scene kind None = Denied kind

-- the home of the page of a place, at the end of its chain or in its file
abbrev pub home_at : Tables → Place → Option Home
home_at t (Fork s) = option_and_then (λ w. w.home) (walk_of t.maps s)
home_at t (File f page) = map.get t.files (file_page f.0 page)

-- what a touch of a place answers
abbrev pub touch_with : (ℕ → Option ℕ) → Tables → Scene → Place → Kind → Touch
touch_with absent t scene (Fork s) kind = touch_walked absent t scene kind (walk_of t.maps s)
touch_with absent t scene (File f page) kind = touch_filed absent t scene kind (map.get t.files (file_page f.0 page))

abbrev pub touch_of_place : Tables → ℕ → Place → Kind → Touch
touch_of_place t frames = touch_with (away_at t.places) t (scene_of t frames)
