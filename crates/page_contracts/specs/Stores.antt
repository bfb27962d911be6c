-- Pages under homes: where each page is, which transfers are queued, and what the words of a drum make of it.
use Rattle.std.specs.Prelude.{◌≡◌, ◌≢◌, ◌⊎◌, ◌↔◌, ℕ, zero, suc, ◌+◌, ◌-◌, ◌/◌, ◌^◌, ◌<◌, ◌≤◌, List, [], ◌∷◌, ◌++◌, length, Contains, Bool, true, false, not, ◌||◌, ◌&&◌, ◌==◌, nat_lt, if◌then◌else◌, Option, None, Some, is_some, IsSome, MatchOption, count_by, filter, slice_index, slice_index_or, slice_set}
use Rattle.std.specs.List.{list_any}
use Rattle.std.specs.Option.{option_map_or, option_and_then}
use Rattle.outside.specs.Faults.{Rose, CountsUp}
use Rattle.outside.specs.Drums.{IsPage, page_at}
use Rattle.page_homes.specs.declared.homes.Home.{Home}
use Rattle.page_homes.specs.declared.homes.TheConstants.{MOST_HOMES}
use Rattle.page_contracts.specs.declared.answers.Need.{Need}
use Rattle.page_contracts.specs.declared.answers.Need.TheVariants.{Page, Frame}
use Rattle.page_contracts.specs.declared.answers.Found.{Found}
use Rattle.page_contracts.specs.declared.store.TheConstants.{CONSOLE_HOLDER, MOST_HELD, MOST_HELD_FOR_CONSOLE, MOST_HOLDERS}
use Rattle.page_contracts.specs.declared.store.Completed.{Completed}
use Rattle.page_contracts.specs.declared.store.Completed.TheVariants.{Done, Nothing, DrumFault}
use Rattle.page_contracts.specs.declared.store.Room.{Room}
use Rattle.page_contracts.specs.declared.store.Room.TheVariants.{Enough, NeedFrame, Full}
use Rattle.page_contracts.specs.DrumWords.{DrumWords}

-- where the page of a home is: the home is free and has none, the drum alone has it, or a frame, with its words
pub data HomePlace : Type 0 where
  free : HomePlace
  away : HomePlace
  here : List ℕ → HomePlace

-- past the last home all are free
abbrev pub place : List HomePlace → ℕ → HomePlace
place places home = slice_index_or places home free

-- whether a home is free
abbrev pub is_free : HomePlace → Bool
is_free free = true
is_free p = false

-- whether it is taken
abbrev pub is_taken : HomePlace → Bool
is_taken free = false
is_taken p = true

-- whether its page is in a frame
abbrev pub is_here : HomePlace → Bool
is_here (here words) = true
is_here p = false

-- a home, where its page is in no frame
abbrev pub away_home : HomePlace → ℕ → Option ℕ
away_home free home = None
away_home away home = Some home
away_home (here words) home = None

abbrev pub away_at : List HomePlace → ℕ → Option ℕ
away_at places home = away_home (place places home) home

-- the home of what has one, where that is in no frame
abbrev pub away_of : List HomePlace → Option ℕ → Option ℕ
away_of places home = option_and_then (away_at places) home

-- the word at an offset of a page, where it is in a frame
abbrev pub word_in : HomePlace → ℕ → Option ℕ
word_in (here words) at = Some (slice_index words at)
word_in p at = None

-- a page with a word at an offset, where it is in a frame
abbrev pub with_word_in : HomePlace → ℕ → ℕ → HomePlace
with_word_in (here words) at word = here (slice_set words at word)
with_word_in p at word = p

-- no page has left its frame: what is in no frame was in none
abbrev pub NoneLeft : (old new : List HomePlace) → Type 0
NoneLeft old new = (home : ℕ) → place new home ≡ away → place old home ≡ away

-- how many homes are free
abbrev pub free_homes : List HomePlace → ℕ
free_homes places = count_by is_free places

-- whether so many pages find homes, and then whether they find frames
abbrev pub room_of : ℕ → ℕ → ℕ → Room
room_of homes frames pages = if nat_lt homes pages then Full else (if nat_lt frames pages then NeedFrame else Enough)

-- the words of a page, those of the drum where it is in no frame
abbrev pub over_drum : HomePlace → List ℕ → Option (List ℕ)
over_drum free words = None
over_drum away words = Some words
over_drum (here words) old = Some words

-- the words of each home's page, over the words of a drum; none where the home is free
unfoldable pub content : List HomePlace → DrumWords → ℕ → Option (List ℕ)
content places d home = over_drum (place places home) (page_at d home)

-- the words of a drum fit: it has a page for each home
pub record FitsHomes (places : List HomePlace) (d : DrumWords) : Type 0 where
  pub enough : length places ≤ length d
  pub pages : (home : ℕ) → home < length d → IsPage (page_at d home)

-- a transfer that is queued: the page of a home comes into a frame, or leaves its frame
pub data Transfer : Type 0 where
  arrival : ℕ → Transfer
  departure : ℕ → Transfer

-- whose page is transferred
abbrev pub home_of : Transfer → ℕ
home_of (arrival home) = home
home_of (departure home) = home

-- what the end of a transfer tells: a page is in a frame, or a frame is free
abbrev pub need_of : Transfer → Need
need_of (arrival home) = Page (record { 0 = home })
need_of (departure home) = Frame

-- whether the page comes into a frame
abbrev pub is_arrival : Transfer → Bool
is_arrival (arrival home) = true
is_arrival (departure home) = false

-- whether a transfer is the departure of a home's page
abbrev pub departs : ℕ → Transfer → Bool
departs home (arrival other) = false
departs home (departure other) = home == other

-- whether it is the arrival of a home's page
abbrev pub arrives : ℕ → Transfer → Bool
arrives home (arrival other) = home == other
arrives home (departure other) = false

-- whether it is either
abbrev pub moves : ℕ → Transfer → Bool
moves home t = home == home_of t

-- the transfers but these
abbrev pub without : (Transfer → Bool) → List Transfer → List Transfer
without these queue = filter (λ t. not (these t)) queue

-- whether two needs are the same
abbrev pub same_need : Need → Need → Bool
same_need (Page home) (Page other) = home.0 == other.0
same_need Frame Frame = true
same_need n m = false

-- what is still to be told, each need once
abbrev pub noted : Need → List Need → List Need
noted need needs = if list_any (same_need need) needs then needs else needs ++ (need ∷ [])

-- what is still to be told once these transfers have been taken from the queue
abbrev pub noted_all : List Transfer → List Need → List Need
noted_all [] needs = needs
noted_all (t ∷ ts) needs = noted_all ts (noted (need_of t) needs)

-- the last number of a use, at which the numbers of uses stand still
abbrev pub LAST_USE : ℕ
LAST_USE = 2 ^ 64 - 1

-- the number of the use after one
abbrev pub next_use : ℕ → ℕ
next_use n = if nat_lt n LAST_USE then n + 1 else n

-- A use of a home's page was counted, where it has a frame: that has the number of this use as its age, and the next use has the next number.
pub record Counts (home : ℕ) (tenant : ℕ → Option ℕ) (age : ℕ → ℕ) (uses uses' : ℕ) : Type 0 where
  pub own : (frame : ℕ) → tenant frame ≡ Some home → (age frame ≡ uses) × (uses' ≡ next_use uses)
  pub none : ((frame : ℕ) → tenant frame ≡ Some home → ⊥) → uses' ≡ uses
  pub grows : uses ≤ uses'

-- It was used once or again, one use after another: its age is the number of the last of these uses.
pub record CountsAgain (home : ℕ) (tenant : ℕ → Option ℕ) (age : ℕ → ℕ) (uses uses' : ℕ) : Type 0 where
  pub own : (frame : ℕ) → tenant frame ≡ Some home → (uses ≤ age frame) × (uses' ≡ next_use (age frame))
  pub grows : uses ≤ uses'

-- a home's page was used, which was counted; and each other frame has its age
pub record Renews (home : ℕ) (tenant : ℕ → Option ℕ) (old new : ℕ → ℕ) (uses uses' : ℕ) : Type 0 where
  pub counted : Counts home tenant new uses uses'
  pub others : (frame : ℕ) → (tenant frame ≡ Some home → ⊥) → new frame ≡ old frame

-- the same, once or again
pub record RenewsAgain (home : ℕ) (tenant : ℕ → Option ℕ) (old new : ℕ → ℕ) (uses uses' : ℕ) : Type 0 where
  pub counted : CountsAgain home tenant new uses uses'
  pub others : (frame : ℕ) → (tenant frame ≡ Some home → ⊥) → new frame ≡ old frame

-- each frame has its age but that of a home's page
abbrev pub KeepsAges : ℕ → (ℕ → Option ℕ) → (ℕ → ℕ) → (ℕ → ℕ) → Type 0
KeepsAges home tenant old new = (frame : ℕ) → (tenant frame ≡ Some home → ⊥) → new frame ≡ old frame

-- the home that a frame is given to, once a home is given up
abbrev pub tenant_left : ℕ → Option ℕ → Option ℕ
tenant_left home None = None
tenant_left home (Some other) = if other == home then None else Some other

-- WHERE THE PAGES ARE, AND WHAT STANDS BESIDE THEM: the place of each home's page; the transfers that are queued, the oldest first; what those would have told that were taken from the queue, as
-- far as it is not told yet; the homes whose frames are held for each holder; how many forks may have their pages in core together; how many frames
-- there are; of each frame the home that it is given to, and its age; and the number of the next use
pub record Traffic : Type 0 where
  pub homes : List HomePlace
  pub queue : List Transfer
  pub untold : List Need
  pub holds : ℕ → List ℕ
  pub members : ℕ
  pub frames : ℕ
  pub tenant : ℕ → Option ℕ
  pub age : ℕ → ℕ
  pub uses : ℕ

-- a frame has the page that it had, and its age
pub record KeepsFrame (old new : Traffic) (frame : ℕ) : Type 0 where
  pub tenant : new.tenant frame ≡ old.tenant frame
  pub age : new.age frame ≡ old.age frame

-- no page was used or came into a frame: each frame that has a page had it, and has its age
pub record RenewsNone (old new : Traffic) : Type 0 where
  pub kept : (frame : ℕ) → IsSome (new.tenant frame) → KeepsFrame old new frame
  pub grows : old.uses ≤ new.uses

-- one page was used or made, that of a home; and each other frame has what it had, a page or none, and its age
pub record RenewsOne (home : ℕ) (old new : Traffic) : Type 0 where
  pub counted : CountsAgain home new.tenant new.age old.uses new.uses
  pub others : (frame : ℕ) → (new.tenant frame ≡ Some home → ⊥) → KeepsFrame old new frame

-- a home's page has the frame that it had
abbrev pub StaysInFrame : ℕ → Traffic → Traffic → Type 0
StaysInFrame home old new = (frame : ℕ) → (old.tenant frame ≡ Some home) ↔ (new.tenant frame ≡ Some home)

-- it was used in the frame that it had
pub record RenewsThere (home : ℕ) (old new : Traffic) : Type 0 where
  pub own : StaysInFrame home old new
  pub ages : RenewsOne home old new

-- one page was used or made, and then another was used in the frame that it had
pub record RenewsBoth (home next : ℕ) (old new : Traffic) : Type 0 where
  pub between : Traffic
  pub first : RenewsOne home old between
  pub second : RenewsThere next between new

-- one page was used in the frame that it had, and pages may have been given up: each other frame that has a page had it, and has its age
pub record RenewsLeft (home : ℕ) (old new : Traffic) : Type 0 where
  pub own : StaysInFrame home old new
  pub counted : CountsAgain home new.tenant new.age old.uses new.uses
  pub others : (frame : ℕ) → IsSome (new.tenant frame) → (new.tenant frame ≡ Some home → ⊥) → KeepsFrame old new frame

-- Pages were used or made, and pages may have been given up. Each frame with a page that was not used had that page, and has its age; and the age of each whose
-- page was is the number of a use since.
pub record RenewsSome (old new : Traffic) : Type 0 where
  pub renewed : ℕ → Bool
  pub others : (frame : ℕ) → renewed frame ≡ false → IsSome (new.tenant frame) → KeepsFrame old new frame
  pub younger : (frame : ℕ) → renewed frame ≡ true → IsSome (new.tenant frame) → old.uses ≤ new.age frame
  pub grows : old.uses ≤ new.uses

-- Transfers were taken from the queue, and what each of them would have told is to be told; what was to be told still is, and nothing else is.
-- Pages that were held may be held no more. Nothing was queued, and nothing more is held. No page has left its frame, and only what was used is younger than it was.
pub record Loses (old new : Traffic) : Type 0 where
  pub these : Transfer → Bool
  pub queue : new.queue ≡ without these old.queue
  pub untold : (need : Need) → list_any (same_need need) new.untold ≡ (list_any (same_need need) old.untold || list_any (λ t. these t && same_need need (need_of t)) old.queue)
  pub given : ℕ → Bool
  pub holds : (holder : ℕ) → new.holds holder ≡ filter (λ home. not (given home)) (old.holds holder)
  pub members : new.members ≡ old.members
  pub frames : new.frames ≡ old.frames
  pub left : NoneLeft old.homes new.homes
  pub ages : RenewsSome old new

-- how many forks may have their pages in so many frames: 128 frames for each, of those that are over 32
abbrev pub members_of : ℕ → ℕ
members_of frames = (frames - 32) / 128

-- how many frames may be held for a holder
abbrev pub most_held : ℕ → ℕ
most_held holder = if holder == CONSOLE_HOLDER then MOST_HELD_FOR_CONSOLE else MOST_HELD

-- how a need is met: the read of a home's page is queued already, or can be queued now, or a page has to leave its frame first
pub data Meeting : Type 0 where
  joins : ℕ → Meeting
  begins : ℕ → Meeting
  waits : Meeting

-- by the transfers that are queued and the frames that are free
abbrev pub meeting : List Transfer → ℕ → Need → Meeting
meeting queue spare (Page home) = if list_any (arrives home.0) queue then joins home.0 else (if nat_lt 0 spare then begins home.0 else waits)
meeting queue spare Frame = waits

-- what the fork waits for
abbrev pub awaited : Meeting → Need
awaited (joins home) = Page (record { 0 = home })
awaited (begins home) = Page (record { 0 = home })
awaited waits = Frame

-- how many frames are taken so that a read can be queued
abbrev pub frames_begun : Meeting → ℕ
frames_begun (begins home) = 1
frames_begun m = 0

-- a home more is held, once
abbrev pub with_home : ℕ → List ℕ → List ℕ
with_home home homes = if list_any (λ h. h == home) homes then homes else homes ++ (home ∷ [])

-- how many of the numbers below one pass a test
abbrev pub number_below : ℕ → (ℕ → Bool) → ℕ
number_below zero test = 0
number_below (suc n) test = (if test 0 then 1 else 0) + number_below n (λ k. test (suc k))

-- what is held for each fork, with a home's page for one of them
abbrev pub holding : (ℕ → List ℕ) → ℕ → ℕ → ℕ → List ℕ
holding holds holder home k = if k == holder then with_home home (holds k) else holds k

-- and with nothing for one of them
abbrev pub letting_go : (ℕ → List ℕ) → ℕ → ℕ → List ℕ
letting_go holds holder k = if k == holder then [] else holds k

-- what is held for each fork, but not a home's page
abbrev pub giving_up : (ℕ → List ℕ) → ℕ → ℕ → List ℕ
giving_up holds home k = filter (λ h. not (h == home)) (holds k)

-- what the clauses say of a type of stores
pub record StoreMeaning (S : Type 0) : Type 0 where
  -- where the page of each home is
  pub homes : S → List HomePlace
  -- how many frames there are, and how many are free; where there are no frames, how many homes
  pub frames : S → ℕ
  pub spare : S → ℕ
  -- the transfers, the oldest first
  pub queue : S → List Transfer
  -- what the transfers would have told that were taken from the queue, as far as it is not told yet
  pub untold : S → List Need
  -- the homes whose frames are held for a fork, by its number
  pub holds : S → ℕ → List ℕ
  -- the home to whose page a frame is given
  pub tenant : S → ℕ → Option ℕ
  -- the frame whose page has to leave next
  pub victim : S → Option ℕ
  -- the age of a frame: the number of its last use; and the number of the next use
  pub age : S → ℕ → ℕ
  pub uses : S → ℕ
  -- where the words of a home's page are
  pub found : S → ℕ → Option Found
  -- how many forks may have their pages in core together
  pub members : S → ℕ
  -- there are no frames: nothing is ever away, and nothing depends on a drum
  pub flat : Bool

module _ {S : Type 0} (means : StoreMeaning S) where
  abbrev pub traffic : S → Traffic
  traffic s = record { homes = means.homes s; queue = means.queue s; untold = means.untold s; holds = means.holds s; members = means.members s; frames = means.frames s; tenant = means.tenant s; age = means.age s; uses = means.uses s }

  -- a frame's page may leave it: no transfer moves it, and for nobody is it held
  pub record CanLeave (s : S) (frame home : ℕ) : Type 0 where
    pub there : means.tenant s frame ≡ Some home
    pub still : list_any (moves home) (means.queue s) ≡ false
    pub unheld : (holder : ℕ) → Contains (means.holds s holder) home → ⊥

  -- the page of no frame may leave it
  abbrev pub AllStay : S → Type 0
  AllStay s = (frame home : ℕ) → CanLeave s frame home → ⊥

  -- of the frames whose page may leave the one of least age, then least number
  pub record IsNext (s : S) (frame : ℕ) : Type 0 where
    pub home : ℕ
    pub leaves : CanLeave s frame home
    pub oldest : (g other : ℕ) → CanLeave s g other → means.age s frame ≤ means.age s g
    pub least : (g other : ℕ) → CanLeave s g other → means.age s g ≡ means.age s frame → frame ≤ g

  -- for how many holders the page of a home is held
  abbrev pub holders_of : S → ℕ → ℕ
  holders_of s home = number_below MOST_HOLDERS (λ holder. list_any (λ h. h == home) (means.holds s holder))

  -- how many frames have a page that is held for somebody
  abbrev pub held_frames : S → ℕ
  held_frames s = number_below (means.frames s) (λ frame. option_map_or (λ home. nat_lt 0 (holders_of s home)) (means.tenant s frame) false)

  -- the page of a home has a frame
  pub record HasFrame (s : S) (home : ℕ) : Type 0 where
    pub frame : ℕ
    pub is : means.tenant s frame ≡ Some home

  -- what holds of each store: pages are pages; a page is found exactly in a frame, and no two are found in one; what comes is away, and what goes or is held is in a
  -- frame, one transfer a home; each frame is free, has the page of a home that is in a frame, of which it is the only one, or waits for one that comes; what is held is
  -- held for a member or for the console, so many for each at most, each once; no age is that of a use to come; the next to leave is the oldest that may, and where none
  -- is next none may; and without frames nothing is away or moves
  pub record IsSound (s : S) : Type 0 where
    pub few : length (means.homes s) ≤ MOST_HOMES
    pub pages : (home : ℕ) (words : List ℕ) → place (means.homes s) home ≡ here words → IsPage words
    pub finds : (home : ℕ) → is_some (means.found s home) ≡ is_here (place (means.homes s) home)
    pub apart : (home other : ℕ) (found : Found) → means.found s home ≡ Some found → means.found s other ≡ Some found → home ≡ other
    pub comes : (home : ℕ) → list_any (arrives home) (means.queue s) ≡ true → place (means.homes s) home ≡ away
    pub goes : (home : ℕ) → list_any (departs home) (means.queue s) ≡ true → is_here (place (means.homes s) home) ≡ true
    pub once : (home : ℕ) → count_by (moves home) (means.queue s) ≤ 1
    pub held : (holder home : ℕ) → Contains (means.holds s holder) home → is_here (place (means.homes s) home) ≡ true
    pub unmoved : (holder home : ℕ) → Contains (means.holds s holder) home → list_any (moves home) (means.queue s) ≡ false
    pub shared : means.spare s + count_by is_here (means.homes s) + count_by is_arrival (means.queue s) ≡ means.frames s
    pub seated : means.flat ≡ false → (home : ℕ) → is_here (place (means.homes s) home) ≡ true → HasFrame s home
    pub given : (frame home : ℕ) → means.tenant s frame ≡ Some home → (frame < means.frames s) × (is_here (place (means.homes s) home) ≡ true)
    pub single : (frame other home : ℕ) → means.tenant s frame ≡ Some home → means.tenant s other ≡ Some home → frame ≡ other
    pub members : means.flat ≡ false → means.members s ≡ members_of (means.frames s)
    pub few_held : (holder : ℕ) → length (means.holds s holder) ≤ most_held holder
    pub none_held : (holder : ℕ) → (means.members s ≤ holder) ⊎ (MOST_HOLDERS ≤ holder) → holder ≢ CONSOLE_HOLDER → means.holds s holder ≡ []
    pub held_once : (holder home : ℕ) → count_by (λ h. h == home) (means.holds s holder) ≤ 1
    pub numbered : means.uses s ≤ LAST_USE
    pub aged : (frame : ℕ) → IsSome (means.tenant s frame) → (means.age s frame ≤ means.uses s) × (means.uses s < LAST_USE → means.age s frame < means.uses s)
    pub next : MatchOption (means.victim s) (AllStay s) (IsNext s)
    pub core : means.flat ≡ true → (home : ℕ) → is_taken (place (means.homes s) home) ≡ is_here (place (means.homes s) home)
    pub still : means.flat ≡ true → means.queue s ≡ []
    pub frames : means.flat ≡ true → means.spare s ≡ free_homes (means.homes s)

  -- a handle is that of a page of a home
  pub record HasPage (s : S) (found : Found) : Type 0 where
    pub home : ℕ
    pub is : means.found s home ≡ Some found

  -- no page comes into a frame or leaves one
  pub record StaysFramed (old new : S) : Type 0 where
    pub frames : means.frames new ≡ means.frames old
    pub spare : means.spare new ≡ means.spare old
    pub found : means.found new ≡ means.found old
    pub tenant : means.tenant new ≡ means.tenant old
    pub members : means.members new ≡ means.members old

  -- nor does a word change, and no page is used
  pub record StaysThere (old new : S) : Type 0 where
    pub homes : means.homes new ≡ means.homes old
    pub framed : StaysFramed old new
    pub ages : means.age new ≡ means.age old
    pub uses : means.uses new ≡ means.uses old

  -- transfers are as they were
  pub record StaysQueued (old new : S) : Type 0 where
    pub queue : means.queue new ≡ means.queue old
    pub untold : means.untold new ≡ means.untold old

  -- nothing of what is in frames, queued or held has changed
  pub record StaysStored (old new : S) : Type 0 where
    pub there : StaysThere old new
    pub queued : StaysQueued old new
    pub holds : means.holds new ≡ means.holds old

  -- what a plan leaves that needs something first: nothing is elsewhere, queued, told or held, and no page was used
  pub record StaysPlanned (old new : S) : Type 0 where
    pub homes : means.homes new ≡ means.homes old
    pub frames : means.frames new ≡ means.frames old
    pub spare : means.spare new ≡ means.spare old
    pub members : means.members new ≡ means.members old
    pub queued : StaysQueued old new
    pub holds : means.holds new ≡ means.holds old
    pub ages : RenewsNone (traffic old) (traffic new)

  -- these transfers are taken from the queue, and are to be told
  pub record Cancels (these : Transfer → Bool) (old new : S) : Type 0 where
    pub queue : means.queue new ≡ without these (means.queue old)
    pub untold : means.untold new ≡ noted_all (filter these (means.queue old)) (means.untold old)

  -- a use of a home's page, which takes its departure from the queue; what is held stays so
  pub record IsUsed (home : ℕ) (old new : S) : Type 0 where
    pub framed : StaysFramed old new
    pub rescued : Cancels (departs home) old new
    pub left : NoneLeft (means.homes old) (means.homes new)
    pub holds : means.holds new ≡ means.holds old
    pub ages : Renews home (means.tenant new) (means.age old) (means.age new) (means.uses old) (means.uses new)

  -- a free home is taken, with a page that is in a frame
  pub record IsMade (home : ℕ) (page : HomePlace) (old new : S) : Type 0 where
    pub below : home < length (means.homes old)
    pub was_free : place (means.homes old) home ≡ free
    pub in_frame : is_here page ≡ true
    pub homes : means.homes new ≡ slice_set (means.homes old) home page
    pub frames : means.frames new ≡ means.frames old
    pub spare : means.spare new + 1 ≡ means.spare old
    pub queued : StaysQueued old new
    pub holds : means.holds new ≡ means.holds old
    pub members : means.members new ≡ means.members old
    pub found : (other : ℕ) → other ≢ home → means.found new other ≡ means.found old other
    pub tenants : (frame : ℕ) → (means.tenant new frame ≡ Some home → ⊥) → means.tenant new frame ≡ means.tenant old frame
    pub ages : RenewsAgain home (means.tenant new) (means.age old) (means.age new) (means.uses old) (means.uses new)

  -- the frame that a home's page has, if it has one
  abbrev pub frames_of : S → ℕ → ℕ
  frames_of s home = if is_here (place (means.homes s) home) || list_any (arrives home) (means.queue s) then 1 else 0

  -- a home is given up, with its frame, its holds and its transfer
  pub record IsFreed (home : ℕ) (old new : S) : Type 0 where
    pub homes : means.homes new ≡ slice_set (means.homes old) home free
    pub frames : means.frames new ≡ means.frames old
    pub spare : means.spare new ≡ means.spare old + frames_of old home
    pub cancelled : Cancels (moves home) old new
    pub holds : means.holds new ≡ giving_up (means.holds old) home
    pub members : means.members new ≡ means.members old
    pub found : (other : ℕ) → other ≢ home → means.found new other ≡ means.found old other
    pub tenants : (frame : ℕ) → means.tenant new frame ≡ tenant_left home (means.tenant old frame)
    pub ages : KeepsAges home (means.tenant old) (means.age old) (means.age new)
    pub uses : means.uses new ≡ means.uses old

  -- the departure of a frame's page
  abbrev pub departure_of : S → Option ℕ → List Transfer
  departure_of s None = []
  departure_of s (Some frame) = option_map_or (λ home. departure home ∷ []) (means.tenant s frame) []

  -- the transfer that is queued: a read, or the departure of the page that has to leave next, if one may
  abbrev pub queued : S → Meeting → List Transfer
  queued s (joins home) = []
  queued s (begins home) = arrival home ∷ []
  queued s waits = departure_of s (means.victim s)

  -- what can be asked for: a frame, or the page of a home that is in none
  abbrev pub CanFetch : S → Need → Type 0
  CanFetch s (Page home) = place (means.homes s) home.0 ≡ away
  CanFetch s Frame = Unit {0}

  -- a need that there is: the page of a home that is in no frame; or more frames than are free, of which fewer than so many are
  abbrev pub IsNeeded : ℕ → S → Need → Type 0
  IsNeeded most s (Page home) = place (means.homes s) home.0 ≡ away
  IsNeeded most s Frame = means.spare s < most

  -- what is read is queued, or what has to leave; a frame that waits for a page may pass over the number of a use
  pub record IsFetched (need : Need) (old new : S) : Type 0 where
    pub homes : means.homes new ≡ means.homes old
    pub queue : means.queue new ≡ means.queue old ++ queued old (meeting (means.queue old) (means.spare old) need)
    pub frames : means.frames new ≡ means.frames old
    pub spare : means.spare new + frames_begun (meeting (means.queue old) (means.spare old) need) ≡ means.spare old
    pub untold : means.untold new ≡ means.untold old
    pub holds : means.holds new ≡ means.holds old
    pub found : means.found new ≡ means.found old
    pub tenant : means.tenant new ≡ means.tenant old
    pub members : means.members new ≡ means.members old
    pub ages : (frame : ℕ) → IsSome (means.tenant old frame) → means.age new frame ≡ means.age old frame
    pub uses : (means.uses new ≡ means.uses old) ⊎ (means.uses new ≡ next_use (means.uses old))

  -- the oldest transfer has ended, and told this: its page alone has come into its frame, which is a use of it, or left it
  pub record Ends (need : Need) (old new : S) : Type 0 where
    pub transfer : Transfer
    pub oldest : means.queue old ≡ transfer ∷ means.queue new
    pub told : need ≡ need_of transfer
    pub moved : is_here (place (means.homes new) (home_of transfer)) ≡ is_arrival transfer
    pub taken : is_taken (place (means.homes new) (home_of transfer)) ≡ true
    pub homes : means.homes new ≡ slice_set (means.homes old) (home_of transfer) (place (means.homes new) (home_of transfer))
    pub frames : means.frames new ≡ means.frames old
    pub spare : means.spare new ≡ means.spare old + (if is_arrival transfer then 0 else 1)
    pub untold : means.untold new ≡ means.untold old
    pub holds : means.holds new ≡ means.holds old
    pub members : means.members new ≡ means.members old
    pub found : (home : ℕ) → home ≢ home_of transfer → means.found new home ≡ means.found old home
    pub tenants : (frame : ℕ) → (means.tenant new frame ≡ Some (home_of transfer) → ⊥) → means.tenant new frame ≡ tenant_left (home_of transfer) (means.tenant old frame)
    pub came : is_arrival transfer ≡ true → Renews (home_of transfer) (means.tenant new) (means.age old) (means.age new) (means.uses old) (means.uses new)
    pub went : is_arrival transfer ≡ false → KeepsAges (home_of transfer) (means.tenant old) (means.age old) (means.age new) × (means.uses new ≡ means.uses old)

  -- the oldest transfer ends, where one is queued, and is counted; or the drum fails, which changes nothing but its count of faults; and neither
  -- count of the drum falls
  pub record Completes {D : Type 0} (faults reads writes pages : D → ℕ) (result : Completed) (old new : S) (drum drum' : D) : Type 0 where
    pub nothing : (result ≡ Nothing) ↔ (means.queue old ≡ [])
    pub same : result ≡ Nothing → (new ≡ old) × (drum' ≡ drum)
    pub done : (need : Need) → result ≡ Done need → Ends need old new
    pub cause : result ≡ DrumFault → Rose (faults drum) (faults drum')
    pub later : faults drum ≤ faults drum'
    pub read : (home : Home) → result ≡ Done (Page home) → CountsUp (reads drum) (reads drum') × (writes drum' ≡ writes drum)
    pub wrote : result ≡ Done Frame → CountsUp (writes drum) (writes drum') × (reads drum' ≡ reads drum)
    pub reads_later : reads drum ≤ reads drum'
    pub writes_later : writes drum ≤ writes drum'
    pub failed : result ≡ DrumFault → StaysStored old new
    pub uncounted : result ≡ DrumFault → (reads drum' ≡ reads drum) × (writes drum' ≡ writes drum)
    pub size : pages drum' ≡ pages drum

  -- a need is told that no transfer tells any more; none is left to tell where none is
  pub record Tells (told : Option Need) (old new : S) : Type 0 where
    pub untold : means.untold old ≡ option_map_or (λ need. need ∷ means.untold new) told []
    pub last : told ≡ None → means.untold new ≡ []
    pub stays : StaysThere old new
    pub queue : means.queue new ≡ means.queue old
    pub holds : means.holds new ≡ means.holds old

  -- the page of a frame begins to leave it, where there is such a frame and the page may
  pub record Evicts (frame : ℕ) (old new : S) : Type 0 where
    pub leaves : (home : ℕ) → CanLeave old frame home → means.queue new ≡ means.queue old ++ (departure home ∷ [])
    pub none : ((home : ℕ) → CanLeave old frame home → ⊥) → means.queue new ≡ means.queue old
    pub stays : StaysThere old new
    pub untold : means.untold new ≡ means.untold old
    pub holds : means.holds new ≡ means.holds old

  -- the page of a home can be held for a fork, or for the console: it is in a frame, and no transfer moves it
  pub record CanKeep (s : S) (holder home : ℕ) : Type 0 where
    pub here : is_here (place (means.homes s) home) ≡ true
    pub still : list_any (moves home) (means.queue s) ≡ false
    pub member : (holder < means.members s) ⊎ (holder ≡ CONSOLE_HOLDER)

  -- it is held for the fork, where there are frames
  pub record Keeps (holder home : ℕ) (old new : S) : Type 0 where
    pub holds : means.holds new ≡ (if means.flat then means.holds old else holding (means.holds old) holder home)
    pub stays : StaysThere old new
    pub queued : StaysQueued old new

  -- nothing is held for a fork any more
  pub record LetsGo (holder : ℕ) (old new : S) : Type 0 where
    pub holds : means.holds new ≡ letting_go (means.holds old) holder
    pub stays : StaysThere old new
    pub queued : StaysQueued old new
