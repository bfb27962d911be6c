-- What references find of maps that are pages.
use Rattle.std.specs.Prelude.{ℕ, ◌+◌, List, Bool, true, false, Option, None, Some, if◌then◌else◌, ◌==◌, ◌&&◌, nat_le}
use Rattle.std.specs.Option.{option_map, option_and_then}
use Rattle.std.specs.FinMap as fin
use Rattle.machine_names.specs.declared.names.Kind.{Kind}
use Rattle.machine_names.specs.declared.names.Kind.TheVariants.{Read, Write, Execute}
use Rattle.machine_names.specs.declared.names.Place.{Place}
use Rattle.machine_names.specs.declared.names.Place.TheVariants.{Fork, File}
use Rattle.machine_names.specs.declared.names.Slot.{Slot}
use Rattle.machine_names.specs.Orders.{file_page}
use Rattle.page_homes.specs.declared.homes.Home.{Home}
use Rattle.page_contracts.specs.declared.answers.Touch.{Touch}
use Rattle.page_contracts.specs.declared.answers.Touch.TheVariants.{Ready, Zero, Copy, Absent, Denied, Full}
use Rattle.page_contracts.specs.Pages.{Scene, absent_or, framed}
use Rattle.page_contracts.specs.Stores.{HomePlace, away_at}
use Rattle.pager_walk.specs.declared.chain_walk.Walked.{Walked}
use Rattle.pager_walk.specs.declared.chain_walk.Walked.TheVariants as walked
use Rattle.pager_walk.specs.declared.paged_entry.Looked.{Looked}
use Rattle.pager_walk.specs.declared.paged_entry.Looked.TheVariants.{Is, Missing, Refused, Absent as MapAbsent}
use Rattle.pager_walk.specs.declared.paged_entry.PagedEntry.TheVariants.{Empty, Page, Follows}
use Rattle.fork_maps.specs.ChainWalks.{allows_along, copy_for}
use Rattle.pager_walk.specs.PagedMaps.{look_at, map_away, name_at}
use Rattle.pager_walk.specs.Walks.{walk_at}
use Rattle.flat_tables.specs.SlotTables.{share_of}
use Rattle.flat_tables.specs.SlotTouches.{home_named}
use Rattle.paged_tables.specs.NameCounts.{count_of, share_at}
use Rattle.paged_tables.specs.PagedTables.{Beside}

-- what is in frames
abbrev pub scene_over : Beside → List HomePlace → ℕ → Scene
scene_over b places frames = record { map_away = map_away b.tables places; page_away = λ n. option_and_then (away_at places) (home_named b.tables.names n); free_frames = frames }

-- whether so many pages more may live
abbrev pub roomy : Beside → ℕ → Bool
roomy b n = nat_le (b.taken + b.living + n) b.limit

-- how many map entries and pages of files name the page of a home
abbrev pub names_at : Beside → ℕ → ℕ
names_at b h = count_of b.tables.shares (name_at b.tables.names h) (share_at b.shared h)

-- whether the page of a home has one name, which is no file's
abbrev pub has_one_name : Beside → ℕ → Bool
has_one_name b h = names_at b h == 1 && share_of b.filed h == 0

-- whether an entry is the only name of its page
abbrev pub alone_in : Beside → Looked → Bool
alone_in b (Is Empty) = false
alone_in b (Is (Page home a)) = has_one_name b home.0
alone_in b (Is (Follows serial page a)) = false
alone_in b (MapAbsent home) = false
alone_in b Missing = false
alone_in b Refused = false

abbrev pub alone_at : Beside → List HomePlace → Slot → Bool
alone_at b places s = alone_in b (look_at b.tables places s)

-- what a copy wants: no room nor frame, where the old page has no other name
abbrev pub copy_touched : Beside → Scene → Option ℕ → Bool → Touch
copy_touched b scene absent true = absent_or absent (Copy true)
copy_touched b scene absent false = if roomy b 1 then absent_or absent (framed scene (Copy false)) else Full

-- what a reference finds that is permitted: whether pages have to be made, and whether there is room for them
abbrev pub made_touched : (ℕ → Option ℕ) → Beside → Scene → Option Home → Option Bool → Touch
made_touched absent b scene None None = if roomy b 1 then framed scene Zero else Full
made_touched absent b scene None (Some alone) = if roomy b 2 then framed scene Zero else Full
made_touched absent b scene (Some h) None = absent_or (absent h.0) Ready
made_touched absent b scene (Some h) (Some alone) = copy_touched b scene (absent h.0) alone

-- what a reference finds along its chain
abbrev pub walk_touched : Beside → List HomePlace → ℕ → Kind → Walked → Touch
walk_touched b places frames kind (walked.Along w) =
    if allows_along kind w then made_touched (away_at places) b (scene_over b places frames) w.home (option_map (alone_at b places) (copy_for kind w)) else Denied kind
walk_touched b places frames kind (walked.Absent home) = Absent home
walk_touched b places frames kind walked.NoChain = Denied kind

-- what a reference finds of a page of a file, or of none: a write may make one
abbrev pub file_touched : (ℕ → Option ℕ) → Beside → Scene → Kind → Option Home → Touch
file_touched absent b scene kind (Some h) = absent_or (absent h.0) Ready
file_touched absent b scene Read None = Denied Read
file_touched absent b scene Write None = if roomy b 1 then framed scene Zero else Full
file_touched absent b scene Execute None = Denied Execute

-- what a touch of a place answers
abbrev pub touched_over : Beside → List HomePlace → ℕ → Place → Kind → Touch
touched_over b places frames (Fork s) kind = walk_touched b places frames kind (walk_at b.tables places s)
touched_over b places frames (File f page) kind = file_touched (away_at places) b (scene_over b places frames) kind (fin.get b.files (file_page f.0 page))
