-- Maps, and the chains that their entries make (CACM paper, "The memory management").
use Rattle.std.specs.Prelude.{ℕ, zero, suc, List, [], ◌∷◌, Bool, true, false, ◌&&◌, ◌||◌, Option, None, Some, if◌then◌else◌, slice_get, slice_set}
use Rattle.std.specs.List.{list_all}
use Rattle.std.specs.Option.{option_map, option_and_then, option_map_or}
use Rattle.std.specs.FinMap as map
use Rattle.machine_names.specs.declared.names.ForkName.{ForkName}
use Rattle.machine_names.specs.declared.names.PageName.{PageName}
use Rattle.machine_names.specs.declared.names.Slot.{Slot}
use Rattle.machine_names.specs.declared.names.Access.{Access}
use Rattle.machine_names.specs.declared.names.Kind.{Kind}
use Rattle.machine_names.specs.declared.names.Kind.TheVariants.{Read, Write, Execute}
use Rattle.plain_pages.specs.declared.map.MapEntry.{MapEntry}
use Rattle.plain_pages.specs.declared.map.MapEntry.TheVariants.{Empty, Names, Follows}
use Rattle.plain_pages.specs.PlainPages.{Maps}

-- the entry of each slot; there is none where the fork does not live
abbrev pub Entries : Type 0
Entries = Slot → Option MapEntry

-- the entries of maps
abbrev pub entry_at : Maps → Entries
entry_at maps s = option_and_then (λ m. slice_get m s.page) (map.get maps s.fork)

-- the maps with another entry in a slot
abbrev pub set_entry : Maps → Slot → MapEntry → Maps
set_entry maps s e = option_map_or (λ m. map.insert maps s.fork (slice_set m s.page e)) (map.get maps s.fork) maps

-- a page of the fork with that serial, of the same terminal
abbrev pub followed : Slot → ℕ → ℕ → Slot
followed s serial page = record { fork = record { tty = s.fork.tty; serial = serial }; page = page }

-- every right, and no copy mark: the access of a zero page, and what an empty entry permits
abbrev pub full_access : Access
full_access = record { r = true; w = true; x = true; c = false }

-- what an entry permits
abbrev pub access_of : MapEntry → Access
access_of Empty = full_access
access_of (Names n a) = a
access_of (Follows serial page a) = a

-- what was permitted and is given too; the copy mark where it was or is given
abbrev pub narrowed : Access → Access → Access
narrowed old given = record { r = old.r && given.r; w = old.w && given.w; x = old.x && given.x; c = old.c || given.c }

-- an entry of which no more is permitted than is given
abbrev pub narrow : Access → MapEntry → MapEntry
narrow given Empty = Empty
narrow given (Names n a) = Names n (narrowed a given)
narrow given (Follows serial page a) = Follows serial page (narrowed a given)

-- the slot whose entry an entry follows, if it follows one
abbrev pub next_slot : Slot → MapEntry → Option Slot
next_slot s (Follows serial page a) = Some (followed s serial page)
next_slot s e = None

-- the slot that is reached from another where so many entries are followed
abbrev pub reached : ℕ → Entries → Slot → Option Slot
reached zero entries s = Some s
reached (suc n) entries s = option_and_then (reached n entries) (option_and_then (next_slot s) (entries s))

-- a slot, with what its entry permits
pub record Link : Type 0 where
  pub slot : Slot
  pub access : Access

-- a chain: its links from a slot on, each following the last, and the last slot with the page that it names, if any
pub record Chain : Type 0 where
  pub links : List Link
  pub end : Slot
  pub page : Option PageName

abbrev pub single_link : Slot → Access → Option PageName → Chain
single_link s a page = record { links = record { slot = s; access = a } ∷ []; end = s; page = page }

abbrev pub behind : Slot → Access → Chain → Chain
behind s a c = record c { links = record { slot = s; access = a } ∷ c.links }

-- the chain from a slot with this entry, over those from other slots
abbrev pub chain_from : Slot → Option MapEntry → (Slot → Option Chain) → Option Chain
chain_from s None next = None
chain_from s (Some Empty) next = Some (single_link s full_access None)
chain_from s (Some (Names n a)) next = Some (single_link s a (Some n))
chain_from s (Some (Follows serial page a)) next = option_map (behind s a) (next (followed s serial page))

-- the chain from a slot, where so many entries are enough
unfoldable pub chain_within : ℕ → Entries → Slot → Option Chain
chain_within zero entries s = None
chain_within (suc n) entries s = chain_from s (entries s) (chain_within n entries)

-- the chain of a slot: at most four entries, each of a living fork
unfoldable pub chain : Entries → Slot → Option Chain
chain entries s = chain_within 4 entries s

-- the forks whose maps are looked at from a slot on, over those from other slots
abbrev pub maps_from : Slot → Option MapEntry → (Slot → List ForkName) → List ForkName
maps_from s None next = []
maps_from s (Some (Follows serial page a)) next = s.fork ∷ next (followed s serial page)
maps_from s (Some e) next = s.fork ∷ []

unfoldable pub maps_within : ℕ → Entries → Slot → List ForkName
maps_within zero entries s = []
maps_within (suc n) entries s = maps_from s (entries s) (maps_within n entries)

-- the forks whose maps are on the way from a slot, whether or not it has a chain
unfoldable pub maps_on_way : Entries → Slot → List ForkName
maps_on_way entries s = maps_within 4 entries s

-- a write: the entries before the first with the copy mark need W, that one W or C, and those after it R
abbrev pub permit_write : List Link → Bool
permit_write [] = true
permit_write (l ∷ ls) = if l.access.c then list_all (λ k. k.access.r) ls else (l.access.w && permit_write ls)

-- whether a chain permits a reference of this kind
abbrev pub permits : Kind → Chain → Bool
permits Read c = list_all (λ l. l.access.r) c.links
permits Execute c = list_all (λ l. l.access.x) c.links
permits Write c = permit_write c.links

-- whether a reference of this kind to a slot is permitted: the slot has a chain, which permits it
abbrev pub may : Entries → Slot → Kind → Bool
may entries s kind = option_map_or (permits kind) (chain entries s) false
