-- A walk over maps that are pages is the walk over the maps in memory that their words stand for.
use Rattle.std.proofs.Common.{◌≡◌, ℕ, zero, suc, ◌<◌, List, Bool, true, false, cond, Option, None, Some, length, map, refl, sym, ◌∙◌, ap, subst, arith}
use Rattle.std.specs.Prelude.{IsSome, slice_index, ◌&&◌}
use Rattle.std.specs.Option.{option_map, option_map_or, option_and_then}
use Rattle.outside.specs.declared.TheConstants.{PAGE_WORDS}
use Rattle.machine_names.specs.declared.names.Access.{Access}
use Rattle.machine_names.specs.declared.names.ForkName.{ForkName}
use Rattle.machine_names.specs.declared.names.Slot.{Slot}
use Rattle.machine_names.specs.declared.names.TheConstants.{SPACE_PAGES}
use Rattle.page_homes.specs.declared.homes.Home.{Home}
use Rattle.page_contracts.specs.DrumWords.{DrumWords}
use Rattle.page_contracts.specs.Stores.{HomePlace, free, away, here, content, is_taken, place, word_in}
use Rattle.plain_pages.specs.Maps.{followed, full_access}
use Rattle.pager_walk.specs.declared.paged_entry.PagedEntry.{PagedEntry}
use Rattle.pager_walk.specs.declared.paged_entry.PagedEntry.TheVariants.{Empty, Page, Follows}
use Rattle.pager_walk.specs.declared.paged_entry.Looked.{Looked}
use Rattle.pager_walk.specs.declared.paged_entry.Looked.TheVariants.{Is, Absent as MapAbsent, Missing, Refused}
use Rattle.pager_walk.specs.Walks.{Way}
use Rattle.pager_walk.specs.declared.chain_walk.Walked.{Walked}
use Rattle.pager_walk.specs.declared.chain_walk.Walked.TheVariants.{Along, Absent, NoChain}
use Rattle.pager_walk.specs.MapPages.{fork_at, root_at, index_of}
use Rattle.pager_walk.specs.PagedMaps.{Tables, AreRooted, FitsMaps, entry_in, look_at, look_map, look_word, words_in}
use Rattle.pager_walk.specs.Walks as paged
use Rattle.pager_walk.proofs.Looking.{ArePages, content_here, root_taken, words_whole, stands_at}
use Rattle.pager_walk.specs.PagedMaps.{LookStands}
use Rattle.pager_walk.proofs.NumberedMaps.{index_fork}
use Rattle.flat_tables.specs.declared.held_entry.EntryAt.{EntryAt}
use Rattle.flat_tables.specs.declared.held_entry.HeldEntry.{HeldEntry}
use Rattle.flat_tables.specs.declared.held_entry.HeldEntry.TheVariants as entry
use Rattle.flat_tables.specs.declared.held_entry.Link.{Link}
use Rattle.flat_tables.specs.declared.held_map.HeldMap.{HeldMap}
use Rattle.flat_tables.specs.HeldMaps as flat
use Rattle.fork_maps.specs.ChainWalks.{walk_behind, walk_end}
use Rattle.flat_tables.specs.Walks.{Walk, slot_of, terminal_of, next_at, walk, walk_from, walk_within}
use Rattle.paged_tables.specs.MapsInMemory.{entry_held, in_memory, maps_in_memory}
use Rattle.paged_tables.proofs.MapsTold.{entry_told, fork_told, index_told}

-- an entry in memory is that which a look finds; no word is refused
abbrev pub LookIs : Looked → Option HeldEntry → Type 0
LookIs (Is e) o = o ≡ Some (in_memory e)
LookIs (MapAbsent home) o = Unit {0}
LookIs Missing o = ⊥
LookIs Refused o = ⊥

-- the first copy marks stand in one slot, or there is none
abbrev pub IsSameCopy : List HeldMap → Option Slot → Option EntryAt → Type 0
IsSameCopy maps None None = Unit {0}
IsSameCopy maps None (Some at) = ⊥
IsSameCopy maps (Some s) None = ⊥
IsSameCopy maps (Some s) (Some at) = slot_of maps at ≡ Some s

-- a walk and one in memory end in one slot, with one home, permit the same, and have the copy mark first in one slot
pub record IsSameWay (maps : List HeldMap) (w : Way) (v : Walk) : Type 0 where
  pub end : slot_of maps v.end ≡ Some w.end
  pub home : v.home ≡ w.home
  pub reads : v.reads ≡ w.reads
  pub writes : v.writes ≡ w.writes
  pub executes : v.executes ≡ w.executes
  pub copy : IsSameCopy maps w.copy v.copy

-- where no map on the way is away, both are along chains or there is none
abbrev pub IsSameWalk : List HeldMap → Walked → Option Walk → Type 0
IsSameWalk maps (Along w) None = ⊥
IsSameWalk maps (Along w) (Some v) = IsSameWay maps w v
IsSameWalk maps (Absent home) o = Unit {0}
IsSameWalk maps NoChain None = Unit {0}
IsSameWalk maps NoChain (Some v) = ⊥

some_of : {A : Type 0} (o : Option A) → IsSome o → (x : A) × (o ≡ Some x)
some_of None e = absurd (cc e)
some_of (Some x) e = (x, refl)

module _ (t : Tables) (places : List HomePlace) (d : DrumWords) where
  abbrev pub maps : List HeldMap
  maps = maps_in_memory t (content places d)

  pub index_same : (f : ForkName) → flat.index_of maps f ≡ index_of t.maps f
  unfolding maps_in_memory
  index_same f = index_told t (content places d) t.maps f

  pub fork_same : (k : ℕ) → flat.fork_at maps k ≡ fork_at t.maps k
  unfolding maps_in_memory
  fork_same k = fork_told t (content places d) t.maps k

  entry_same : (k page : ℕ) (f : ForkName) → fork_at t.maps k ≡ Some f → page < length (words_in (content places d (root_at t.maps k).0))
      → flat.held_entry maps (record { map = k; page = page }) ≡ Some (entry_held t (slice_index (words_in (content places d (root_at t.maps k).0)) page))
  unfolding maps_in_memory
  entry_same k page f e below = entry_told t (content places d) t.maps k page f e below

  -- the slot of an entry that stands where the fork's map has its number
  pub slot_is : (s : Slot) (k : ℕ) → index_of t.maps s.fork ≡ Some k → slot_of maps (record { map = k; page = s.page }) ≡ Some s
  slot_is s k is = ap (option_map (λ f. record { fork = f; page = s.page })) (fork_same k ∙ index_fork t.maps s.fork k is)

  module _ (rooted : AreRooted t (map is_taken places)) (pages : ArePages places) (fits : FitsMaps t places d) where
    pub look_told : (s : Slot) (k : ℕ) → index_of t.maps s.fork ≡ Some k → s.page < SPACE_PAGES → LookIs (look_at t places s) (flat.held_entry maps (record { map = k; page = s.page }))
    look_told s k is below = subst (λ (l : Looked). LookIs l (flat.held_entry maps (record { map = k; page = s.page }))) (sym (ap (look_map t places s.page) is)) (there (place places (root_at t.maps k).0) refl)
      where
        own : fork_at t.maps k ≡ Some s.fork
        own = index_fork t.maps s.fork k is

        taken : is_taken (place places (root_at t.maps k).0) ≡ true
        taken = root_taken t places rooted s.fork k is

        size : length (words_in (content places d (root_at t.maps k).0)) ≡ PAGE_WORDS
        size = words_whole places d fits.drum pages (root_at t.maps k).0 taken

        there : (p : HomePlace) → place places (root_at t.maps k).0 ≡ p → LookIs (look_word t (root_at t.maps k) (word_in p s.page)) (flat.held_entry maps (record { map = k; page = s.page }))
        there free at = absurd (let z : false ≡ true = sym (ap is_taken at) ∙ taken in cc z)
        there away at = tt
        there (here words) at =
            let same : words_in (content places d (root_at t.maps k).0) ≡ words = ap words_in (content_here places d (root_at t.maps k).0 words at) in
            let x = some_of (entry_in t (slice_index words s.page)) (subst (λ (v : List ℕ). IsSome (entry_in t (slice_index v s.page))) same (fits.entries k s.page s.fork own below)) in
            let held : flat.held_entry maps (record { map = k; page = s.page }) ≡ Some (entry_held t (slice_index words s.page)) =
            entry_same k s.page s.fork own (omega (arith, size, below)) ∙ ap (λ (v : List ℕ). Some (entry_held t (slice_index v s.page))) same in
            subst (λ (o : Option PagedEntry). LookIs (option_map_or Is o Refused) (flat.held_entry maps (record { map = k; page = s.page }))) (sym x.1)
            (held ∙ ap (λ (o : Option PagedEntry). Some (option_map_or in_memory o entry.Empty)) x.1)

    -- a copy mark at an entry
    copy_marked : (c : Bool) (s : Slot) (at : EntryAt) (o : Option Slot) (x : Option EntryAt) → slot_of maps at ≡ Some s → IsSameCopy maps o x → IsSameCopy maps (cond c (Some s) o) (cond c (Some at) x)
    copy_marked true s at o x is rest = is
    copy_marked false s at o x is rest = rest

    ended : (s : Slot) (at : EntryAt) (a : Access) (home : Option Home) → slot_of maps at ≡ Some s → IsSameWay maps (walk_end s a home) (walk_end at a home)
    ended s at a home is = record { end = is; home = refl; reads = refl; writes = refl; executes = refl; copy = copy_marked a.c s at None None is tt }

    behind : (s : Slot) (at : EntryAt) (a : Access) (w : Way) (v : Walk) → slot_of maps at ≡ Some s → IsSameWay maps w v → IsSameWay maps (walk_behind s a w) (walk_behind at a v)
    behind s at a w v is same = record {
      end = same.end;
      home = same.home;
      reads = ap (λ b. a.r && b) same.reads;
      writes = (λ i. cond a.c (same.reads i) (a.w && same.writes i));
      executes = ap (λ b. a.x && b) same.executes;
      copy = copy_marked a.c s at w.copy v.copy is same.copy;
    }

    walked_behind : (s : Slot) (at : EntryAt) (a : Access) (w : Walked) (o : Option Walk) → slot_of maps at ≡ Some s → IsSameWalk maps w o → IsSameWalk maps (paged.walked_behind s a w) (option_map (walk_behind at a) o)
    walked_behind s at a (Along w) None is same = absurd same
    walked_behind s at a (Along w) (Some v) is same = behind s at a w v is same
    walked_behind s at a (Absent home) o is same = tt
    walked_behind s at a NoChain None is same = tt
    walked_behind s at a NoChain (Some v) is same = absurd same

    -- where the fork that is followed has no map there is no chain
    unmapped : (n : ℕ) (s : Slot) → index_of t.maps s.fork ≡ None → paged.walk_within n t places s ≡ NoChain
    unfolding paged.walk_within
    unmapped zero s none = refl
    unmapped (suc n) s none = ap (λ l. paged.walk_from s l (paged.walk_within n t places)) (ap (look_map t places s.page) none)

    -- the fork that is followed
    next_is : (s : Slot) (k serial page : ℕ) (l : Link) → index_of t.maps s.fork ≡ Some k → l.serial ≡ serial → l.page ≡ page
        → next_at maps (record { map = k; page = s.page }) l ≡ option_map (λ j. record { map = j; page = page }) (index_of t.maps (followed s serial page).fork)
    next_is s k serial page l is same at =
        let terminal : terminal_of maps k ≡ s.fork.tty = ap (λ o. option_map_or (λ (f : ForkName). f.tty) o (record { 0 = 0 })) (fork_same k ∙ index_fork t.maps s.fork k is) in
        (λ i. option_map (λ j. record { map = j; page = at i }) (flat.index_of maps (record { tty = terminal i; serial = same i }))) ∙ ap (option_map (λ j. record { map = j; page = page })) (index_same (followed s serial page).fork)

    abbrev Rest : ℕ → Type 0
    Rest n = (next : Slot) (j : ℕ) → index_of t.maps next.fork ≡ Some j → next.page < SPACE_PAGES → IsSameWalk maps (paged.walk_within n t places next) (walk_within n maps (record { map = j; page = next.page }))

    follow : (n : ℕ) (s : Slot) (k serial page : ℕ) (a : Access) → index_of t.maps s.fork ≡ Some k → page < SPACE_PAGES → Rest n
        → IsSameWalk maps (paged.walked_behind s a (paged.walk_within n t places (followed s serial page)))
        (option_map (walk_behind (record { map = k; page = s.page }) a) (option_and_then (walk_within n maps) (next_at maps (record { map = k; page = s.page }) (record { serial = serial; page = page; map = 0 }))))
    follow n s k serial page a is within rest =
        walked_behind s (record { map = k; page = s.page }) a (paged.walk_within n t places (followed s serial page)) _ (slot_is s k is)
        (subst (λ (o : Option EntryAt). IsSameWalk maps (paged.walk_within n t places (followed s serial page)) (option_and_then (walk_within n maps) o))
        (sym (next_is s k serial page (record { serial = serial; page = page; map = 0 }) is refl refl)) (by (index_of t.maps (followed s serial page).fork) refl))
      where
        by : (o : Option ℕ) → index_of t.maps (followed s serial page).fork ≡ o
            → IsSameWalk maps (paged.walk_within n t places (followed s serial page)) (option_and_then (walk_within n maps) (option_map (λ j. record { map = j; page = page }) o))
        by None none = subst (λ (w : Walked). IsSameWalk maps w None) (sym (unmapped n (followed s serial page) none)) tt
        by (Some j) some = rest (followed s serial page) j some within

    from : (n : ℕ) (s : Slot) (k : ℕ) → index_of t.maps s.fork ≡ Some k → (l : Looked) → LookStands t places l → (o : Option HeldEntry) → LookIs l o → Rest n
        → IsSameWalk maps (paged.walk_from s l (paged.walk_within n t places)) (walk_from maps (record { map = k; page = s.page }) o (walk_within n maps))
    from n s k is (Is Empty) stands o held rest = subst (λ (x : Option HeldEntry). IsSameWalk maps (Along (walk_end s full_access None)) (walk_from maps (record { map = k; page = s.page }) x (walk_within n maps))) (sym held)
        (ended s (record { map = k; page = s.page }) full_access None (slot_is s k is))
    from n s k is (Is (Page home a)) stands o held rest = subst (λ (x : Option HeldEntry). IsSameWalk maps (Along (walk_end s a (Some home))) (walk_from maps (record { map = k; page = s.page }) x (walk_within n maps))) (sym held)
        (ended s (record { map = k; page = s.page }) a (Some home) (slot_is s k is))
    from n s k is (Is (Follows serial page a)) stands o held rest =
        subst (λ (x : Option HeldEntry). IsSameWalk maps (paged.walked_behind s a (paged.walk_within n t places (followed s serial page))) (walk_from maps (record { map = k; page = s.page }) x (walk_within n maps))) (sym held)
        (follow n s k serial page a is stands rest)
    from n s k is (MapAbsent home) stands o held rest = tt
    from n s k is Missing stands o held rest = absurd held
    from n s k is Refused stands o held rest = absurd held

    within_told : (n : ℕ) → Rest n
    unfolding paged.walk_within walk_within
    within_told zero s k is below = tt
    within_told (suc n) s k is below =
        from n s k is (look_at t places s) (stands_at t places rooted s) (flat.held_entry maps (record { map = k; page = s.page })) (look_told s k is below) (within_told n)

    pub walk_told : (s : Slot) (k : ℕ) → index_of t.maps s.fork ≡ Some k → s.page < SPACE_PAGES → IsSameWalk maps (paged.walk_at t places s) (walk maps (record { map = k; page = s.page }))
    unfolding paged.walk_at walk
    walk_told s k is below = within_told 4 s k is below
