-- What the calls on pages answer and leave: over the plain pages, and over what is in frames.
use Rattle.std.specs.Prelude.{◌≡◌, ◌≢◌, ◌⊎◌, ◌↔◌, ℕ, ◌+◌, ◌<◌, ◌≤◌, List, [], ◌∷◌, length, Bool, true, false, ◌&&◌, nat_lt, nat_le, Option, None, Some, if◌then◌else◌, ◌==◌, count_by, slice_index, is_some, IsSome, MatchOption}
use Rattle.std.specs.Option.{option_map, option_or, option_map_or, option_and_then}
use Rattle.std.specs.declared.cmp.Ordering.{Ordering}
use Rattle.std.specs.FinMap as map
use Rattle.machine_names.specs.declared.names.Tty.{Tty}
use Rattle.machine_names.specs.declared.names.ForkName.{ForkName}
use Rattle.machine_names.specs.declared.names.PageName.{PageName}
use Rattle.machine_names.specs.declared.names.Place.{Place}
use Rattle.machine_names.specs.declared.names.Place.TheVariants.{Fork, File}
use Rattle.machine_names.specs.declared.names.Access.{Access}
use Rattle.machine_names.specs.declared.names.Kind.{Kind}
use Rattle.machine_names.specs.declared.names.Kind.TheVariants.{Read, Write}
use Rattle.machine_names.specs.declared.names.TheConstants.{SPACE_PAGES, LAST_SERIAL, MOST_FILES, FILE_PAGES}
use Rattle.plain_pages.specs.declared.map.MapEntry.{MapEntry}
use Rattle.plain_pages.specs.declared.map.MapEntry.TheVariants.{Names, Follows}
use Rattle.page_contracts.specs.declared.answers.SpaceHandle.{SpaceHandle}
use Rattle.page_contracts.specs.declared.answers.Found.{Found}
use Rattle.machine_names.specs.declared.names.Slot.{Slot}
use Rattle.plain_pages.specs.declared.map.NewEntry.{NewEntry}
use Rattle.plain_pages.specs.declared.map.NewEntry.TheVariants.{Follows as SetFollows}
use Rattle.plain_pages.specs.declared.map.NewMap.{NewMap}
use Rattle.plain_pages.specs.declared.map.NewMap.TheVariants.{Empty as EmptyMap, FollowAll}
use Rattle.page_contracts.specs.declared.answers.Touch.{Touch}
use Rattle.page_contracts.specs.declared.answers.Touch.TheVariants.{Ready, Zero, Copy, Absent, NeedFrame, Denied, Full}
use Rattle.page_contracts.specs.declared.answers.Peeked.{Peeked}
use Rattle.page_contracts.specs.declared.answers.Peeked.TheVariants.{Is, Absent as Away, NoPage}
use Rattle.page_contracts.specs.declared.answers.Need.TheVariants as need
use Rattle.page_contracts.specs.declared.answers.Seen.{Seen}
use Rattle.page_contracts.specs.declared.answers.Seen.TheVariants.{Is as Entry, Absent as MapAway, Missing}
use Rattle.page_contracts.specs.declared.store.Room.{Room}
use Rattle.page_contracts.specs.declared.store.Room.TheVariants.{Enough, NeedFrame as NoFrame, Full as NoRoom}
use Rattle.page_contracts.specs.DrumWords.{DrumWords}
use Rattle.plain_pages.specs.PlainPages.{PlainPages, NumberedPages, page_serial}
use Rattle.plain_pages.specs.Maps.{entry_at, maps_on_way}
use Rattle.plain_pages.specs.Room.{FitsLimit, live, uses}
use Rattle.plain_pages.specs.References.{Spot, in_map, in_file, Making, blank, copy, Referred, granted, denied, full, reference, next_making, words_of, page_at}
use Rattle.page_contracts.specs.Stores.{StoreMeaning, HomePlace, IsSound, IsNeeded, Loses, RenewsBoth, RenewsLeft, RenewsNone, RenewsOne, StaysStored, away, content, free, away_of, is_here, is_taken, place, traffic, with_word_in}
use Rattle.machine_names.specs.Bounds.{IsOwner, IsFilePage}
use Rattle.machine_names.specs.Orders.{FilePage, file_page}

-- What is in frames: for each fork the home of its map and for each page its home, where that is in no
-- frame; and how many frames are free.
pub record Scene : Type 0 where
  pub map_away : ForkName → Option ℕ
  pub page_away : PageName → Option ℕ
  pub free_frames : ℕ

-- nothing has left its frame, and so many frames at most were taken
pub record StaysInCore (old new : Scene) (taken : ℕ) : Type 0 where
  pub maps : (f : ForkName) → old.map_away f ≡ None → new.map_away f ≡ None
  pub pages : (n : PageName) → old.page_away n ≡ None → new.page_away n ≡ None
  pub frames : old.free_frames ≤ new.free_frames + taken

-- the map of a new fork is in a frame, of which it took one at most; nothing else has come into a frame or left it
pub record TakesMap (old new : Scene) (f : ForkName) : Type 0 where
  pub own : new.map_away f ≡ None
  pub maps : new.map_away ≡ old.map_away
  pub pages : new.page_away ≡ old.page_away
  pub frames : old.free_frames ≤ new.free_frames + 1

-- nothing has come into a frame or left it, but for so many frames that were taken
pub record TakesFrames (old new : Scene) (taken : ℕ) : Type 0 where
  pub maps : new.map_away ≡ old.map_away
  pub pages : new.page_away ≡ old.page_away
  pub frames : new.free_frames + taken ≡ old.free_frames

-- the first of these maps that is in no frame
abbrev pub first_away : Scene → List ForkName → Option ℕ
first_away scene [] = None
first_away scene (f ∷ fs) = option_or (scene.map_away f) (first_away scene fs)

-- a home that is in no frame, and else what is answered
abbrev pub absent_or : Option ℕ → Touch → Touch
absent_or (Some home) t = Absent (record { 0 = home })
absent_or None t = t

abbrev pub away_or : Option ℕ → Peeked → Peeked
away_or (Some home) seen = Away (record { 0 = home })
away_or None seen = seen

abbrev pub map_away_or : Option ℕ → Seen → Seen
map_away_or (Some home) seen = MapAway (record { 0 = home })
map_away_or None seen = seen

-- what wants a frame answers so, where none is free
abbrev pub framed : Scene → Touch → Touch
framed scene t = if nat_lt 0 scene.free_frames then t else NeedFrame

module _ {K : Type 0} {file_cmp : K → K → Ordering} where
  -- the first map on the way to a spot that is in no frame
  abbrev pub map_away : PlainPages file_cmp → Scene → Spot K → Option ℕ
  map_away p scene (in_map s) = first_away scene (maps_on_way (entry_at p.maps) s)
  map_away p scene (in_file f) = None

  -- a spot's page, where that is in no frame
  abbrev pub page_away : PlainPages file_cmp → Scene → Spot K → Option ℕ
  page_away p scene at = option_and_then scene.page_away (page_at p at)

  -- whether an entry is the only name of its page
  abbrev pub is_sole : PlainPages file_cmp → Option MapEntry → Bool
  is_sole p (Some (Names n a)) = uses p n == 1
  is_sole p e = false

  -- what a touch says of the next page to be made; a sole copy takes the home of the old page, and no frame
  abbrev pub announced : PlainPages file_cmp → Scene → Option (Making K) → Touch
  announced p scene None = Ready
  announced p scene (Some (blank at)) = framed scene Zero
  announced p scene (Some (copy s access)) = if is_sole p (entry_at p.maps s) then Copy true else framed scene (Copy false)

  -- the access and the room are those of the reference; then the page, and what is to be made
  abbrev pub touched_by : PlainPages file_cmp → Scene → Spot K → Kind → Referred file_cmp → Touch
  touched_by p scene at kind (granted q) = absent_or (page_away p scene at) (announced p scene (next_making p at kind))
  touched_by p scene at kind (denied k) = Denied k
  touched_by p scene at kind full = Full

  -- what a touch answers, in this order: the maps on the way, the access, the room, the page, the frames
  unfoldable pub touch_of : PlainPages file_cmp → Scene → Spot K → Kind → Tty → Touch
  touch_of p scene at kind owner = absent_or (map_away p scene at) (touched_by p scene at kind (reference p at kind owner))

  -- what a look at a word finds, whatever the access: the maps on the way, the page, and the word
  unfoldable pub peek_of : PlainPages file_cmp → Scene → Spot K → ℕ → Peeked
  peek_of p scene at offset =
      away_or (map_away p scene at) (away_or (page_away p scene at) (option_map_or (λ n. Is (slice_index (words_of p n) offset)) (page_at p at) NoPage))

  -- what a look at an entry finds: whether there is one, its map, and the entry
  unfoldable pub seen_of : PlainPages file_cmp → Scene → Slot → Seen
  seen_of p scene s = option_map_or (λ e. map_away_or (scene.map_away s.fork) (Entry e)) (entry_at p.maps s) Missing

  -- a page, with the number of its names
  abbrev pub counted : PlainPages file_cmp → Option PageName → Option (PageName × ℕ)
  counted p n = option_map (λ m. (m, uses p m)) n

-- whether so many pages more may live, and then whether they find frames
abbrev pub room_for : ℕ → ℕ → ℕ → ℕ → Room
room_for live limit frames pages = if nat_le (live + pages) limit then (if nat_le pages frames then Enough else NoFrame) else NoRoom

-- the spot of a place
abbrev pub spot_of : Place → Spot ℕ
spot_of (Fork s) = in_map s
spot_of (File f page) = in_file (file_page f.0 page)

-- a page of a fork's space as a place
abbrev pub fork_place : ForkName → ℕ → Place
fork_place f page = Fork (record { fork = f; page = page })

-- a place that is there: a page of a living fork, or of a file
abbrev pub IsPlace : (ForkName → Bool) → Place → Type 0
IsPlace lives (Fork s) = (lives s.fork ≡ true) × (s.page < SPACE_PAGES)
IsPlace lives (File f page) = IsFilePage f page

-- a place of a fork's space that is there
abbrev pub IsForkPlace : (ForkName → Bool) → Place → Type 0
IsForkPlace lives (Fork s) = IsPlace lives (Fork s)
IsForkPlace lives (File f page) = ⊥

-- a look that finds what it wants in frames
abbrev pub is_seen : Peeked → Bool
is_seen (Away home) = false
is_seen seen = true

-- a touch after which the page can be settled
abbrev pub can_settle : Touch → Bool
can_settle Ready = true
can_settle Zero = true
can_settle (Copy sole) = true
can_settle t = false

-- what a touch answers once the page that it announced is made: a zero page may have to be copied then
abbrev pub SettlesTo : Touch → Touch → Type 0
SettlesTo Ready new = new ≡ Ready
SettlesTo Zero new = (new ≡ Ready) ⊎ ((sole : Bool) × (new ≡ Copy sole)) ⊎ (new ≡ NeedFrame)
SettlesTo (Copy sole) new = new ≡ Ready
SettlesTo t new = ⊥

-- how many frames the page takes that a touch announces
abbrev pub frames_taken : Touch → ℕ
frames_taken Zero = 1
frames_taken (Copy sole) = if sole then 0 else 1
frames_taken t = 0

-- a touch that finds what it wants in frames
abbrev pub is_in_core : Touch → Bool
is_in_core (Absent home) = false
is_in_core NeedFrame = false
is_in_core t = true

-- what is answered where something is needed first is so, over whatever drum: the page or the map is in no frame, or no frame is free
abbrev pub TouchNeeds : {P : Type 0} → StoreMeaning P → P → Touch → Type 0
TouchNeeds store p (Absent home) = IsNeeded store 1 p (need.Page home)
TouchNeeds store p NeedFrame = IsNeeded store 1 p need.Frame
TouchNeeds store p t = Unit {0}

abbrev pub PeekNeeds : {P : Type 0} → StoreMeaning P → P → Peeked → Type 0
PeekNeeds store p (Away home) = IsNeeded store 1 p (need.Page home)
PeekNeeds store p seen = Unit {0}

abbrev pub SeenNeeds : {P : Type 0} → StoreMeaning P → P → Seen → Type 0
SeenNeeds store p (MapAway home) = IsNeeded store 1 p (need.Page home)
SeenNeeds store p seen = Unit {0}

-- what the map of a new fork may be: it may follow a fork that lives, of the same terminal
abbrev pub IsNewMap : (ForkName → Bool) → ForkName → NewMap → Type 0
IsNewMap lives f EmptyMap = Unit {0}
IsNewMap lives f (FollowAll g) = (lives g ≡ true) × (g.tty ≡ f.tty)

-- an entry that is to follow another follows one of a fork whose serial is one that forks have
abbrev pub FollowsFork : NewEntry → Type 0
FollowsFork (SetFollows serial page a) = (1 ≤ serial) × (serial ≤ LAST_SERIAL)
FollowsFork new = Unit {0}

-- so where a new map is to follow that of a fork
abbrev pub MapFollowsFork : NewMap → Type 0
MapFollowsFork EmptyMap = Unit {0}
MapFollowsFork (FollowAll f) = (1 ≤ f.serial) × (f.serial ≤ LAST_SERIAL)

-- an entry was found
abbrev pub is_entry : Seen → Bool
is_entry (Entry e) = true
is_entry seen = false

-- a look at an entry that finds what it wants in frames
abbrev pub is_seen_entry : Seen → Bool
is_seen_entry (MapAway home) = false
is_seen_entry seen = true

-- an entry that follows another follows a page of a space
abbrev pub FollowsPage : Seen → Type 0
FollowsPage (Entry (Follows serial page a)) = page < SPACE_PAGES
FollowsPage seen = Unit {0}

-- what the clauses say of a type of pages
pub record PagesMeaning (P : Type 0) : Type 1 where
  -- whether the words of this drum fit: each page that stands on the drum alone can be read
  pub fits : P → DrumWords → Type 0
  -- the plain pages that these stand for over the words of a drum
  pub plain : P → DrumWords → NumberedPages
  -- what is in frames
  pub scene : P → Scene
  -- what a touch answers, and a look at an entry
  pub touched : P → Place → Kind → Touch
  pub seen : P → Slot → Seen
  -- what files name
  pub filed : P → FilePage ℕ → Option PageName
  -- which forks live, and how many of a terminal
  pub lives : P → ForkName → Bool
  pub forks_of : P → Tty → ℕ
  -- the next page serial of an owner
  pub serial : P → Tty → ℕ
  -- how many pages and forks there are, and may be
  pub count : P → ℕ
  pub most : P → ℕ
  -- how many forks of one terminal there is room for
  pub most_forks : ℕ
  -- nothing is ever in no frame, and nothing depends on a drum
  pub flat : Bool
  -- maps are pages of the store, and have homes
  pub paged : Bool
  -- the handle of a living fork's space
  pub space : P → ForkName → Option SpaceHandle
  -- where the page of a space is that a look found, under its number
  pub place : P → SpaceHandle → ℕ → Option Found
  -- the home of a fork's map, where maps have homes, and of a page
  pub map_home : P → ForkName → Option ℕ
  pub page_home : P → PageName → Option ℕ
  -- the homes and frames in which the pages stand
  pub store : StoreMeaning P

-- a touch of a page of a fork's space finds it ready
abbrev pub IsTouched : {P : Type 0} → PagesMeaning P → P → ForkName → ℕ → Kind → Type 0
IsTouched means p f page kind = means.touched p (fork_place f page) kind ≡ Ready

-- over the words of a drum, whoever is to own what is made
abbrev pub IsReady : {P : Type 0} → PagesMeaning P → P → DrumWords → ForkName → ℕ → Kind → Type 0
IsReady means p d f page kind = (owner : Tty) → IsOwner owner → touch_of (means.plain p d) (means.scene p) (in_map (record { fork = f; page = page })) kind owner ≡ Ready

-- what holds of a touch to read and of one to write
abbrev pub CanChange : (Kind → Type 0) → Type 0
CanChange holds = holds Read × holds Write

-- a handle is that of a fork's space
pub record HasSpace {P : Type 0} (means : PagesMeaning P) (p : P) (space : SpaceHandle) : Type 0 where
  pub fork : ForkName
  pub is : means.space p fork ≡ Some space

-- the page of a slot was found at a home
pub record StandsInSpace {P : Type 0} (means : PagesMeaning P) (p : P) (slot : Slot) (home : ℕ) : Type 0 where
  pub space : SpaceHandle
  pub named : means.space p slot.fork ≡ Some space
  pub found : Found
  pub there : means.place p space slot.page ≡ Some found
  pub here : means.store.found p home ≡ Some found

-- the page that a file names has a home
pub record StandsInFile {P : Type 0} (means : PagesMeaning P) (p : P) (f : FilePage ℕ) (home : ℕ) : Type 0 where
  pub name : PageName
  pub named : means.filed p f ≡ Some name
  pub there : means.page_home p name ≡ Some home

-- the page of a place stands at a home
abbrev pub StandsAt : {P : Type 0} → PagesMeaning P → P → Place → ℕ → Type 0
StandsAt means p (Fork s) home = StandsInSpace means p s home
StandsAt means p (File f page) home = StandsInFile means p (file_page f.0 page) home

-- a home is that of the page that a file names at a place; of a place of a fork's space it says nothing
abbrev pub IsOfFilePage : {P : Type 0} → PagesMeaning P → P → Place → ℕ → Type 0
IsOfFilePage means p (Fork s) home = Unit {0}
IsOfFilePage means p (File f page) home = StandsInFile means p (file_page f.0 page) home

-- the fork in whose map an entry is set to what is made; none where nothing is made, or a file names it
abbrev pub map_set : {K : Type 0} → Option (Making K) → Option ForkName
map_set None = None
map_set (Some (blank (in_map s))) = Some s.fork
map_set (Some (blank (in_file f))) = None
map_set (Some (copy s access)) = Some s.fork

-- The page of a place, which is in a frame, was used or made; and then the map of a fork, where maps have homes: that in which an entry was set to what was
-- made, over the words of each drum that fits, and over whatever drum one at most.
pub record UsesPlace {P : Type 0} (means : PagesMeaning P) (at : Place) (kind : Kind) (old new : P) : Type 0 where
  pub home : ℕ
  pub stands : StandsAt means new at home
  pub here : is_here (place (means.store.homes new) home) ≡ true
  pub map : Option ℕ
  pub of_fork : (at : ℕ) → map ≡ Some at → (f : ForkName) × (means.map_home new f ≡ Some at)
  pub set : (d : DrumWords) → means.fits old d → map ≡ option_and_then (means.map_home new) (map_set (next_making (means.plain old d) (spot_of at) kind))
  pub ages : MatchOption map (RenewsOne home (traffic means.store old) (traffic means.store new)) (λ next. RenewsBoth home next (traffic means.store old) (traffic means.store new))

-- no page was used or came into a frame
abbrev pub UsesNone : {P : Type 0} → PagesMeaning P → P → P → Type 0
UsesNone means old new = RenewsNone (traffic means.store old) (traffic means.store new)

-- none but the map of a fork that was added, where that has a home
abbrev pub AddsUse : {P : Type 0} → PagesMeaning P → ForkName → P → P → Type 0
AddsUse means fork old new = MatchOption (means.map_home new fork) (UsesNone means old new) (λ home. RenewsOne home (traffic means.store old) (traffic means.store new))

-- none but the map of a fork, in which an entry was set; pages may have been given up
abbrev pub UsesMap : {P : Type 0} → PagesMeaning P → ForkName → P → P → Type 0
UsesMap means fork old new = MatchOption (means.map_home new fork) (UsesNone means old new) (λ home. RenewsLeft home (traffic means.store old) (traffic means.store new))

-- what is queued and held may have become less, and what that would have told is to be told; and only what was used is younger than it was
abbrev pub MayLose : {P : Type 0} → PagesMeaning P → P → P → Type 0
MayLose means old new = Loses (traffic means.store old) (traffic means.store new)

-- an entry names a page
pub record EntryNames {P : Type 0} (means : PagesMeaning P) (p : P) (slot : Slot) (n : PageName) : Type 0 where
  pub access : Access
  pub is : means.seen p slot ≡ Entry (Names n access)

-- of a page one word alone may be another
pub record WordSet (old new : HomePlace) : Type 0 where
  pub at : ℕ
  pub word : ℕ
  pub is : new ≡ with_word_in old at word

-- An entry was set: each home but that of the map has what it had, or was given up and is that of the page that the entry named; of the map's page one word alone may
-- be another. So each page has its home, or went; each map has its home; and where the entry named no page, as many frames are free.
pub record SetsEntry {P : Type 0} (means : PagesMeaning P) (slot : Slot) (old new : P) : Type 0 where
  pub homes : (home : ℕ) → (means.map_home old slot.fork ≡ Some home → ⊥) → (place (means.store.homes new) home ≡ place (means.store.homes old) home)
      ⊎ ((place (means.store.homes new) home ≡ free) × ((n : PageName) × (means.page_home old n ≡ Some home) × EntryNames means old slot n))
  pub map : (home : ℕ) → means.map_home old slot.fork ≡ Some home → WordSet (place (means.store.homes old) home) (place (means.store.homes new) home)
  pub pages : (n : PageName) → (means.page_home new n ≡ means.page_home old n) ⊎ ((means.page_home new n ≡ None) × EntryNames means old slot n)
  pub maps : means.map_home new ≡ means.map_home old

-- One page of a file was set: each home has what it had, or was given up and is that of the page that the file named there. So each page has its home, or went; and
-- each map has its home.
pub record SetsFile {P : Type 0} (means : PagesMeaning P) (f : FilePage ℕ) (old new : P) : Type 0 where
  pub homes : (home : ℕ) → (place (means.store.homes new) home ≡ place (means.store.homes old) home)
      ⊎ ((place (means.store.homes new) home ≡ free) × ((n : PageName) × (means.page_home old n ≡ Some home) × (means.filed old f ≡ Some n)))
  pub pages : (n : PageName) → (means.page_home new n ≡ means.page_home old n) ⊎ ((means.page_home new n ≡ None) × (means.filed old f ≡ Some n))
  pub maps : means.map_home new ≡ means.map_home old

-- The page of a place was used, or made, at a home, and is in a frame: the home was free, or has what it had. Each other home has what it had, but that of one fork's map at most, of whose
-- page one word alone may be another; each page that has another home had it, and each that had one has it; and each map has its home.
pub record SettlesHome {P : Type 0} (means : PagesMeaning P) (at : Place) (old new : P) : Type 0 where
  pub home : ℕ
  pub stands : StandsAt means new at home
  pub here : is_here (place (means.store.homes new) home) ≡ true
  pub own : (place (means.store.homes old) home ≡ free) ⊎ (place (means.store.homes new) home ≡ place (means.store.homes old) home)
  pub fork : Option ForkName
  pub map : (k : ℕ) → option_and_then (means.map_home old) fork ≡ Some k → WordSet (place (means.store.homes old) k) (place (means.store.homes new) k)
  pub others : (k : ℕ) → k ≢ home → (option_and_then (means.map_home old) fork ≡ Some k → ⊥) → place (means.store.homes new) k ≡ place (means.store.homes old) k
  pub pages : (n : PageName) (k : ℕ) → k ≢ home → (means.page_home new n ≡ Some k) ↔ (means.page_home old n ≡ Some k)
  pub maps : means.map_home new ≡ means.map_home old

-- the map of a fork names a page
pub record NamesPage {P : Type 0} (means : PagesMeaning P) (p : P) (fork : ForkName) (n : PageName) : Type 0 where
  pub page : ℕ
  pub access : Access
  pub is : means.seen p (record { fork = fork; page = page }) ≡ Entry (Names n access)

-- a home is that of the map, or of a page that it names
abbrev pub IsOfMap : {P : Type 0} → PagesMeaning P → P → ForkName → ℕ → Type 0
IsOfMap means p fork home = (means.map_home p fork ≡ Some home) ⊎ ((n : PageName) × (means.page_home p n ≡ Some home) × NamesPage means p fork n)

-- a file names a page
pub record FileNames {P : Type 0} (means : PagesMeaning P) (p : P) (file : ℕ) (n : PageName) : Type 0 where
  pub page : ℕ
  pub is : means.filed p (file_page file page) ≡ Some n

-- a home is that of a page that a file names
abbrev pub IsOfFile : {P : Type 0} → PagesMeaning P → P → ℕ → ℕ → Type 0
IsOfFile means p file home = (n : PageName) × (means.page_home p n ≡ Some home) × FileNames means p file n

-- one page of a file was set: each other page of a file names what it named
pub record FilesOne {P : Type 0} (means : PagesMeaning P) (f : FilePage ℕ) (named : Bool) (old new : P) : Type 0 where
  pub set : is_some (means.filed new f) ≡ named
  pub others : (g : FilePage ℕ) → g ≢ f → means.filed new g ≡ means.filed old g

-- what files name once the page is made that a touch announces: what they named, and a zero page where a file had none
abbrev pub FilesMade : {P : Type 0} → PagesMeaning P → Place → Touch → P → P → Type 0
FilesMade means (File f page) Zero old new = FilesOne means (file_page f.0 page) true old new
FilesMade means at t old new = means.filed new ≡ means.filed old

-- a map was added, which names no page: each home but that of the map has what it had, and what had a home has it
pub record AddsMap {P : Type 0} (means : PagesMeaning P) (fork : ForkName) (old new : P) : Type 0 where
  pub homes : (home : ℕ) → (means.map_home new fork ≡ Some home → ⊥) → place (means.store.homes new) home ≡ place (means.store.homes old) home
  pub pages : means.page_home new ≡ means.page_home old
  pub maps : (f : ForkName) → f ≢ fork → means.map_home new f ≡ means.map_home old f
  pub names : (n : PageName) → NamesPage means new fork n → ⊥
  pub filed : means.filed new ≡ means.filed old

-- a map went: each home has what it had, or was given up and is that of the map or of a page that it named; so each page has its home, or went; each other map
-- has its home, and is in a frame where it was; and where the map named no page, no frame is free now but its own
pub record DropsMap {P : Type 0} (means : PagesMeaning P) (fork : ForkName) (old new : P) : Type 0 where
  pub homes : (home : ℕ) → (place (means.store.homes new) home ≡ place (means.store.homes old) home) ⊎ ((place (means.store.homes new) home ≡ free) × IsOfMap means old fork home)
  pub pages : (n : PageName) → (means.page_home new n ≡ means.page_home old n) ⊎ ((means.page_home new n ≡ None) × NamesPage means old fork n)
  pub maps : (f : ForkName) → f ≢ fork → means.map_home new f ≡ means.map_home old f
  pub away : (f : ForkName) → f ≢ fork → (means.scene new).map_away f ≡ (means.scene old).map_away f
  pub frames : ((n : PageName) → NamesPage means old fork n → ⊥) → (means.scene new).free_frames ≤ (means.scene old).free_frames + 1
  pub filed : means.filed new ≡ means.filed old

-- a file's pages went: each home has what it had, or was given up and is that of a page that the file named; so each page has its home, or went; each
-- map has its home, and is in a frame where it was; where the file named no page, no frame is free now that was not; and only this file names none
pub record DropsFile {P : Type 0} (means : PagesMeaning P) (file : ℕ) (old new : P) : Type 0 where
  pub homes : (home : ℕ) → (place (means.store.homes new) home ≡ place (means.store.homes old) home) ⊎ ((place (means.store.homes new) home ≡ free) × IsOfFile means old file home)
  pub pages : (n : PageName) → (means.page_home new n ≡ means.page_home old n) ⊎ ((means.page_home new n ≡ None) × FileNames means old file n)
  pub maps : means.map_home new ≡ means.map_home old
  pub away : (means.scene new).map_away ≡ (means.scene old).map_away
  pub frames : ((n : PageName) → FileNames means old file n → ⊥) → (means.scene new).free_frames ≤ (means.scene old).free_frames
  pub gone : (page : ℕ) → means.filed new (file_page file page) ≡ None
  pub filed : (f : FilePage ℕ) → f.file ≢ file → means.filed new f ≡ means.filed old f

-- what a word put into a page leaves: what a touch finds, the handles and the places, what files name, the homes, and all numbers
pub record StaysPut {P : Type 0} (means : PagesMeaning P) (old new : P) : Type 0 where
  pub touched : means.touched new ≡ means.touched old
  pub scene : means.scene new ≡ means.scene old
  pub space : means.space new ≡ means.space old
  pub place : means.place new ≡ means.place old
  pub filed : means.filed new ≡ means.filed old
  pub map_homes : means.map_home new ≡ means.map_home old
  pub page_homes : means.page_home new ≡ means.page_home old
  pub lives : means.lives new ≡ means.lives old
  pub forks : means.forks_of new ≡ means.forks_of old
  pub serials : means.serial new ≡ means.serial old
  pub count : means.count new ≡ means.count old
  pub most : means.most new ≡ means.most old

-- what a transfer leaves, and what is asked of frames: the handles, what files name, the homes, and all numbers
pub record StaysMapped {P : Type 0} (means : PagesMeaning P) (old new : P) : Type 0 where
  pub space : means.space new ≡ means.space old
  pub filed : means.filed new ≡ means.filed old
  pub map_homes : means.map_home new ≡ means.map_home old
  pub page_homes : means.page_home new ≡ means.page_home old
  pub lives : means.lives new ≡ means.lives old
  pub forks : means.forks_of new ≡ means.forks_of old
  pub serials : means.serial new ≡ means.serial old
  pub count : means.count new ≡ means.count old
  pub most : means.most new ≡ means.most old

-- over each drum that fits, the plain pages are the same
abbrev pub StaysPlain : {P : Type 0} → PagesMeaning P → P → P → Type 0
StaysPlain means old new = (d : DrumWords) → means.fits old d → means.fits new d × (means.plain new d ≡ means.plain old d)

-- what is asked of frames and changes no page: what a touch finds stays, and each word
pub record StaysSame {P : Type 0} (means : PagesMeaning P) (old new : P) : Type 0 where
  pub plain : StaysPlain means old new
  pub put : StaysPut means old new

-- all that the clauses speak of is as it was
pub record StaysAlike {P : Type 0} (means : PagesMeaning P) (old new : P) : Type 0 where
  pub fits : (d : DrumWords) → means.fits old d ↔ means.fits new d
  pub plain : means.plain new ≡ means.plain old
  pub put : StaysPut means old new
  pub seen : means.seen new ≡ means.seen old
  pub stored : StaysStored means.store old new
  pub victim : means.store.victim new ≡ means.store.victim old

-- pages were used, and no more: over the words of each drum they are as they were, and what a touch finds stays; what is queued and held may
-- have become less
pub record OnlyUses {P : Type 0} (means : PagesMeaning P) (old new : P) : Type 0 where
  pub fits : (d : DrumWords) → means.fits old d ↔ means.fits new d
  pub plain : means.plain new ≡ means.plain old
  pub put : StaysPut means old new
  pub loses : MayLose means old new

-- what may have a home: a page, or the map of a fork
pub data Housed : Type 0 where
  a_page : PageName → Housed
  a_map : ForkName → Housed

-- the home that it has
abbrev pub home_for : {P : Type 0} → PagesMeaning P → P → Housed → Option ℕ
home_for means p (a_page n) = means.page_home p n
home_for means p (a_map f) = means.map_home p f

-- The pages stand in a sound store, which has as many homes as pages and forks may live. The home of a page or a map is taken, and is no other's; where
-- maps are pages those of the forks that live have one, and each page has one that a file names at one of its pages. What is in no frame is exactly what has
-- a home that is away, and the free frames are the store's.
pub record AreHoused {P : Type 0} (means : PagesMeaning P) (p : P) : Type 0 where
  pub sound : IsSound means.store p
  pub maps : (f : ForkName) (home : ℕ) → (means.scene p).map_away f ≡ Some home → place (means.store.homes p) home ≡ away
  pub pages : (n : PageName) (home : ℕ) → (means.scene p).page_away n ≡ Some home → place (means.store.homes p) home ≡ away
  pub map_homes : (f : ForkName) → (means.scene p).map_away f ≡ away_of (means.store.homes p) (means.map_home p f)
  pub page_homes : (n : PageName) → (means.scene p).page_away n ≡ away_of (means.store.homes p) (means.page_home p n)
  pub taken : (x : Housed) (home : ℕ) → home_for means p x ≡ Some home → is_taken (place (means.store.homes p) home) ≡ true
  pub apart : (x y : Housed) (home : ℕ) → home_for means p x ≡ Some home → home_for means p y ≡ Some home → x ≡ y
  pub mapped : (f : ForkName) → is_some (means.map_home p f) ≡ (means.paged && means.lives p f)
  pub filed : (f : FilePage ℕ) (n : PageName) → means.filed p f ≡ Some n → (f.file < MOST_FILES) × (f.page < FILE_PAGES) × IsSome (means.page_home p n)
  pub frames : (means.scene p).free_frames ≡ means.store.spare p
  pub homes : length (means.store.homes p) ≡ means.most p
  pub flat : means.store.flat ≡ means.flat

-- over each drum that fits, the plain pages have the numbers that are told without it, no more than may be, and files name what is told; what
-- has a home is there, and so is what is in no frame; as many homes are taken as pages and forks live, or pages alone where maps are in memory
pub record Agrees {P : Type 0} (means : PagesMeaning P) (p : P) (plain : NumberedPages) : Type 0 where
  pub living : (f : ForkName) → means.lives p f ≡ map.contains_key plain.maps f
  pub filed : means.filed p ≡ map.get plain.files
  pub next : (t : Tty) → IsOwner t → means.serial p t ≡ page_serial plain t
  pub number : means.count p ≡ live plain
  pub bound : means.most p ≡ plain.limit
  pub room : FitsLimit plain
  pub housed : (n : PageName) → is_some (means.page_home p n) ≡ map.contains_key plain.objects n
  pub taken : count_by is_taken (means.store.homes p) ≡ (if means.paged then live plain else map.len plain.objects)
  pub absent_pages : (n : PageName) (home : ℕ) → (means.scene p).page_away n ≡ Some home → map.contains_key plain.objects n ≡ true
  pub absent_maps : (f : ForkName) (home : ℕ) → (means.scene p).map_away f ≡ Some home → map.contains_key plain.maps f ≡ true

-- over the words of a drum, each page that has a home has the words there: those of its frame, or the drum's where it is in none
abbrev pub AreThere : {P : Type 0} → PagesMeaning P → P → DrumWords → Type 0
AreThere means p d = (n : PageName) (home : ℕ) → means.page_home p n ≡ Some home → map.get (means.plain p d).objects n ≡ content (means.store.homes p) d home
