-- Walks along the chains of maps that are pages.
use Rattle.std.specs.Prelude.{◌≡◌, ℕ, zero, suc, ◌<◌, List, [], ◌∷◌, Bool, true, false, is_some, Option, None, Some, find}
use Rattle.std.specs.Option.{option_map, option_or}
use Rattle.machine_names.specs.declared.names.Access.{Access}
use Rattle.machine_names.specs.declared.names.ForkName.{ForkName}
use Rattle.machine_names.specs.declared.names.PageName.{PageName}
use Rattle.machine_names.specs.declared.names.Slot.{Slot}
use Rattle.machine_names.specs.declared.names.Kind.{Kind}
use Rattle.machine_names.specs.declared.names.TheConstants.{SPACE_PAGES}
use Rattle.page_homes.specs.declared.homes.Home.{Home}
use Rattle.plain_pages.specs.declared.map.MapEntry.{MapEntry}
use Rattle.plain_pages.specs.Maps.{Chain, Entries, chain, entry_at, followed, full_access, maps_on_way, permits}
use Rattle.page_contracts.specs.DrumWords.{DrumWords}
use Rattle.page_contracts.specs.Stores.{HomePlace}
use Rattle.pager_walk.specs.declared.paged_entry.PagedEntry.TheVariants.{Empty, Page, Follows}
use Rattle.pager_walk.specs.declared.paged_entry.Looked.{Looked}
use Rattle.pager_walk.specs.declared.paged_entry.Looked.TheVariants.{Is, Absent as MapAbsent, Missing, Refused}
use Rattle.fork_maps.specs.declared.chain_walk.Walk.{Walk}
use Rattle.fork_maps.specs.ChainWalks.{walk_end, walk_behind, allows_along}
use Rattle.pager_walk.specs.declared.chain_walk.Walked.{Walked}
use Rattle.pager_walk.specs.declared.chain_walk.Walked.TheVariants.{Along, Absent, NoChain}
use Rattle.pager_walk.specs.PagedMaps.{Tables, name_at, name_of, plain_entry, look_at, is_near, map_away, maps_over, IsAwayMap}

-- a walk whose entries stand in slots
abbrev pub Way : Type 0
Way = Walk Slot

-- what a walk from an entry on comes to
abbrev pub walked_behind : Slot → Access → Walked → Walked
walked_behind s a (Along w) = Along (walk_behind s a w)
walked_behind s a (Absent home) = Absent home
walked_behind s a NoChain = NoChain

-- the walk from an entry on, over those from other slots
abbrev pub walk_from : Slot → Looked → (Slot → Walked) → Walked
walk_from s (Is Empty) next = Along (walk_end s full_access None)
walk_from s (Is (Page home a)) next = Along (walk_end s a (Some home))
walk_from s (Is (Follows serial page a)) next = walked_behind s a (next (followed s serial page))
walk_from s (MapAbsent home) next = Absent home
walk_from s Missing next = NoChain
walk_from s Refused next = NoChain

-- the walk along a chain, where so many entries are enough
unfoldable pub walk_within : ℕ → Tables → List HomePlace → Slot → Walked
walk_within zero t places s = NoChain
walk_within (suc n) t places s = walk_from s (look_at t places s) (walk_within n t places)

-- the walk along the chain of a slot
unfoldable pub walk_at : Tables → List HomePlace → Slot → Walked
walk_at t places s = walk_within 4 t places s

-- the entry that a look finds, as the plain maps have it, if it finds one
abbrev pub entry_found : List (Option PageName) → Looked → Option MapEntry
entry_found names (Is e) = Some (plain_entry names e)
entry_found names (MapAbsent home) = None
entry_found names Missing = None
entry_found names Refused = None

-- the entry of each slot that a look finds, whatever a drum says
abbrev pub entries_found : Tables → List HomePlace → Entries
entries_found t places s = entry_found t.names (look_at t places s)

-- whether a reference is permitted
abbrev pub allows : Kind → Walked → Bool
allows kind (Along w) = allows_along kind w
allows kind (Absent home) = false
allows kind NoChain = false

-- the first of the homes of these maps that is in no frame
abbrev pub first_absent : (ForkName → Option ℕ) → List ForkName → Option ℕ
first_absent absent [] = None
first_absent absent (f ∷ fs) = option_or (absent f) (first_absent absent fs)

-- a walk and a chain are one: they end in one slot, with one page, permit the same, and have the copy mark first in one slot
pub record IsChain (names : List (Option PageName)) (w : Way) (c : Chain) : Type 0 where
  pub end : w.end ≡ c.end
  pub page : c.page ≡ option_map (name_of names) w.home
  pub permits : (kind : Kind) → allows_along kind w ≡ permits kind c
  pub copy : w.copy ≡ option_map (λ l. l.slot) (find (λ l. l.access.c) c.links)

-- What a walk says, by the first map on the way that is in no frame and by the chain: the chain, where there is no such map; the home of that map; or that there is
-- neither.
abbrev pub TellsOf : List (Option PageName) → Option ℕ → Option Chain → Walked → Type 0
TellsOf names absent c (Along w) = (absent ≡ None) × ((k : Chain) × (c ≡ Some k) × IsChain names w k)
TellsOf names absent c (Absent home) = absent ≡ Some home.0
TellsOf names absent c NoChain = (absent ≡ None) × (c ≡ None)

-- what a walk says of the plain maps over the words of a drum
abbrev pub TellsWalk : Tables → List HomePlace → DrumWords → Slot → Walked → Type 0
TellsWalk t places d s w = let entries = entry_at (maps_over t places d) in TellsOf t.names (first_absent (map_away t places) (maps_on_way entries s)) (chain entries s) w

-- a slot whose map is in a frame
pub record IsNearSlot (t : Tables) (places : List HomePlace) (s : Slot) : Type 0 where
  pub page : s.page < SPACE_PAGES
  pub near : is_near (look_at t places s) ≡ true

-- What holds of a chain that was walked along, over whatever drum: its last entry is empty or names the page, which has a name; and that entry and the one with the
-- copy mark can be set.
pub record WayStands (t : Tables) (places : List HomePlace) (w : Way) : Type 0 where
  pub end : IsNearSlot t places w.end
  pub empty : w.home ≡ None → look_at t places w.end ≡ Is Empty
  pub names : (home : Home) → w.home ≡ Some home → (a : Access) × (look_at t places w.end ≡ Is (Page home a))
  pub named : (home : Home) → w.home ≡ Some home → is_some (name_at t.names home.0) ≡ true
  pub copy : (s : Slot) → w.copy ≡ Some s → IsNearSlot t places s

-- what holds of a walk over whatever drum
abbrev pub WalkStands : Tables → List HomePlace → Walked → Type 0
WalkStands t places (Along w) = WayStands t places w
WalkStands t places (Absent home) = IsAwayMap t places home
WalkStands t places NoChain = Unit {0}
