-- Walks along chains: what they find, whatever pages the entries name, and the maps on their way.
use Rattle.std.specs.Prelude.{ℕ, zero, suc, Bool, true, false, not, ◌&&◌, ◌||◌, if◌then◌else◌, Option, None, Some, is_some, find}
use Rattle.std.specs.Option.{option_map, option_or}
use Rattle.machine_names.specs.declared.names.ForkName.{ForkName}
use Rattle.machine_names.specs.declared.names.Slot.{Slot}
use Rattle.machine_names.specs.declared.names.Access.{Access}
use Rattle.machine_names.specs.declared.names.Kind.{Kind}
use Rattle.machine_names.specs.declared.names.Kind.TheVariants.{Read, Write, Execute}
use Rattle.plain_pages.specs.declared.map.MapEntry.{MapEntry}
use Rattle.plain_pages.specs.declared.map.MapEntry.TheVariants.{Empty, Names, Follows}
use Rattle.plain_pages.specs.Maps.{Entries, Chain, followed, full_access, permits}
use Rattle.page_gather.specs.declared.walk.Walked.{Walked}

-- what an entry is to a chain, whatever page it names: it ends the chain, empty or not, or goes on at a page of another fork
pub data View : Type 0 where
  Ends : Bool → Access → View
  Goes : ℕ → ℕ → Access → View

abbrev pub view : MapEntry → View
view Empty = Ends true full_access
view (Names n a) = Ends false a
view (Follows serial page a) = Goes serial page a

-- what stands at each slot
abbrev pub Views : Type 0
Views = Slot → Option View

abbrev pub views_of : Entries → Views
views_of entries s = option_map view (entries s)

-- what is found of a chain
abbrev pub walked : Chain → Walked
walked c = record {
  end = c.end;
  empty = not (is_some c.page);
  marked = option_map (λ l. l.slot) (find (λ l. l.access.c) c.links);
  reads = permits Read c;
  writes = permits Write c;
  executes = permits Execute c;
}

-- of an entry that ends it, and of one that is followed by what was found
abbrev pub last_walked : Slot → Bool → Access → Walked
last_walked s empty a = record { end = s; empty = empty; marked = if a.c then Some s else None; reads = a.r; writes = a.c || a.w; executes = a.x }

abbrev pub behind_walked : Slot → Access → Walked → Walked
behind_walked s a w = record {
  end = w.end;
  empty = w.empty;
  marked = if a.c then Some s else w.marked;
  reads = a.r && w.reads;
  writes = if a.c then w.reads else (a.w && w.writes);
  executes = a.x && w.executes;
}

-- from a slot on, over what is found from other slots
abbrev pub walked_from : Slot → Option View → (Slot → Option Walked) → Option Walked
walked_from s None next = None
walked_from s (Some (Ends empty a)) next = Some (last_walked s empty a)
walked_from s (Some (Goes serial page a)) next = option_map (behind_walked s a) (next (followed s serial page))

-- what a walk from a slot finds, where so many entries are enough
unfoldable pub walk_within : ℕ → Views → Slot → Option Walked
walk_within zero views s = None
walk_within (suc n) views s = walked_from s (views s) (walk_within n views)

-- the first map from a slot on that is in no frame
abbrev pub away_from : (ForkName → Option ℕ) → Slot → Option View → (Slot → Option ℕ) → Option ℕ
away_from away s None next = None
away_from away s (Some (Ends empty a)) next = away s.fork
away_from away s (Some (Goes serial page a)) next = option_or (away s.fork) (next (followed s serial page))

unfoldable pub away_within : ℕ → (ForkName → Option ℕ) → Views → Slot → Option ℕ
away_within zero away views s = None
away_within (suc n) away views s = away_from away s (views s) (away_within n away views)

-- whether what was found permits a reference of a kind, and where it makes a copy
abbrev pub permits_walked : Kind → Walked → Bool
permits_walked Read w = w.reads
permits_walked Write w = w.writes
permits_walked Execute w = w.executes

abbrev pub copied_walked : Kind → Walked → Option Slot
copied_walked Read w = None
copied_walked Write w = w.marked
copied_walked Execute w = None
