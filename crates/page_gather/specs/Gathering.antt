-- The references of one unit, each on the pages that those before it leave.
use Rattle.std.specs.Prelude.{◌≡◌, ℕ, ◌+◌, ◌*◌, ◌≤◌, List, [], ◌∷◌, ◌++◌, Bool, true, false, nat_le, nat_lt, length, if◌then◌else◌, Option, None, Some}
use Rattle.std.specs.List.{All, list_all, list_any}
use Rattle.std.specs.Ordering.{nat_cmp}
use Rattle.std.specs.FinMap as map
use Rattle.machine_names.specs.declared.names.Tty.{Tty}
use Rattle.machine_names.specs.declared.names.Slot.{Slot}
use Rattle.machine_names.specs.declared.names.Kind.{Kind}
use Rattle.machine_names.specs.declared.names.Kind.TheVariants.{Read, Write, Execute}
use Rattle.machine_names.specs.declared.names.PageName.{PageName}
use Rattle.page_contracts.specs.declared.answers.Need.TheVariants as need
use Rattle.page_contracts.specs.declared.store.Room.{Room}
use Rattle.page_contracts.specs.declared.store.Room.TheVariants as room
use Rattle.machine_names.specs.declared.names.TheConstants.{SPACE_PAGES}
use Rattle.plain_pages.specs.PlainPages.{NumberedPages}
use Rattle.plain_pages.specs.Maps.{Chain, entry_at, chain}
use Rattle.plain_pages.specs.Room.{FitsLimit, live, same_page}
use Rattle.plain_pages.specs.References.{Referred, granted, denied, full, in_map, reference}
use Rattle.machine_names.specs.declared.names.ForkName.{ForkName}
use Rattle.machine_names.specs.declared.names.Place.{Place}
use Rattle.machine_names.specs.declared.names.Place.TheVariants.{Fork, File}
use Rattle.page_contracts.specs.Pages.{Scene, IsPlace, map_away, page_away}
use Rattle.page_contracts.specs.Stores.{StoreMeaning, IsNeeded}
use Rattle.machine_names.specs.Bounds.{IsOwner}
use Rattle.plain_pages.specs.WholePages.{AreWhole}
use Rattle.page_gather.specs.declared.change.Change.{Change}
use Rattle.page_gather.specs.declared.reference.PageReference.{PageReference}
use Rattle.page_gather.specs.declared.reference.Added.{Added}
use Rattle.page_gather.specs.declared.reference.Added.TheVariants.{Went, Need, Denied, Full}
use Rattle.page_gather.specs.declared.walk.Walked.{Walked}
use Rattle.page_gather.specs.declared.makings.Makings.{Makings}
use Rattle.page_gather.specs.declared.makings.Makings.TheVariants.{Nothing, Zero, Copy, Both}
use Rattle.page_gather.specs.Owners.{is_owner}
use Rattle.page_gather.specs.Walks.{walked}
use Rattle.page_gather.specs.Changes.{same_slot, change_of, are_in_space, AreChanged}

-- what a reference of an owner comes to
abbrev pub referred_to : NumberedPages → Tty → PageReference → Referred nat_cmp
referred_to p owner r = reference p (in_map r.slot) r.kind owner

-- the pages that a reference leaves: as they were, where it is not granted
abbrev pub left_by : NumberedPages → Referred nat_cmp → NumberedPages
left_by p (granted q) = q
left_by p (denied kind) = p
left_by p full = p

-- the pages that references leave, each on those that the ones before it leave
unfoldable pub after_all : NumberedPages → Tty → List PageReference → NumberedPages
after_all p owner [] = p
after_all p owner (r ∷ rs) = after_all (left_by p (referred_to p owner r)) owner rs

-- a home that is in no frame, and else what is answered
abbrev pub page_or : Option ℕ → Added → Added
page_or (Some home) answer = Need (need.Page (record { 0 = home }))
page_or None answer = answer

-- what is answered by what a reference comes to, by its page where that is in no frame, and by how many pages and forks there may be until
-- no frame is free
abbrev pub came_to : Referred nat_cmp → Option ℕ → ℕ → Added
came_to (granted q) away most = page_or away (if nat_le (live q) most then Went else Need need.Frame)
came_to (denied kind) away most = Denied kind
came_to full away most = Full

-- What a reference is answered, in this order: the maps on its way, its access, the room, its page, the frames of the pages made so far.
unfoldable pub answered : NumberedPages → Scene → ℕ → Tty → PageReference → Added
answered p scene most owner r = page_or (map_away p scene (in_map r.slot)) (came_to (referred_to p owner r) (page_away p scene (in_map r.slot)) most)

-- each reference is answered so that it goes through, on the pages that those before it leave
abbrev pub AllWent : NumberedPages → Scene → ℕ → Tty → List PageReference → Type 0
AllWent p scene most owner [] = Unit {0}
AllWent p scene most owner (r ∷ rs) = (answered p scene most owner r ≡ Went) × AllWent (left_by p (referred_to p owner r)) scene most owner rs

-- the maps on the way of a slot, and its page if it has one, are in frames
pub record IsNear (p : NumberedPages) (scene : Scene) (s : Slot) : Type 0 where
  pub maps : map_away p scene (in_map s) ≡ None
  pub page : page_away p scene (in_map s) ≡ None

-- the slot of a source is in frames
abbrev pub IsSourceNear : NumberedPages → Scene → Option Slot → Type 0
IsSourceNear p scene source = (s : Slot) → source ≡ Some s → IsNear p scene s

-- the slots whose words new pages will have are in frames
abbrev pub AreSourcesNear : NumberedPages → Scene → List Change → Type 0
AreSourcesNear p scene cs = (s t : Slot) (c : Change) → change_of cs s ≡ Some c → c.source ≡ Some t → IsNear p scene t

-- whole pages with room, of which those in no frame are some
pub record AreSound (p : NumberedPages) (scene : Scene) : Type 0 where
  pub whole : AreWhole p
  pub room : FitsLimit p
  pub away : (n : PageName) (home : ℕ) → scene.page_away n ≡ Some home → map.contains_key p.objects n ≡ true

-- how many pages and forks there may be until no frame is free
abbrev pub most_framed : NumberedPages → Scene → ℕ
most_framed p scene = live p + scene.free_frames

-- whether a reference is to a slot
abbrev pub refers_to : List PageReference → Slot → Bool
refers_to rs s = list_any (λ r. same_slot r.slot s) rs

-- REFERENCES GATHERED: each goes through on the pages that those before it leave; the changes are what they come to, in so many homes; and
-- what they refer to is in frames.
pub record AreGathered (p : NumberedPages) (scene : Scene) (owner : Tty) (rs : List PageReference) (cs : List Change) (homes : ℕ) : Type 0 where
  pub sound : AreSound p scene
  pub own : IsOwner owner
  pub went : AllWent p scene (most_framed p scene) owner rs
  pub changed : AreChanged p (after_all p owner rs) owner cs homes
  pub frames : homes ≤ scene.free_frames
  pub near : (s : Slot) → refers_to rs s ≡ true → IsNear (after_all p owner rs) scene s
  pub sources : AreSourcesNear p scene cs

-- what is answered from the room for all that is made so far, and by the page where that is in no frame
abbrev pub concluded : Room → Option ℕ → Added
concluded room.Enough away = page_or away Went
concluded room.NeedFrame away = page_or away (Need need.Frame)
concluded room.Full away = Full

-- WHAT ONE REFERENCE MORE COMES TO: where there is room for these homes it goes through with these changes, and where there is none it is full.
pub record GoesOn (p q : NumberedPages) (scene : Scene) (owner : Tty) (r : PageReference) (cs cs' : List Change) (homes' : ℕ) : Type 0 where
  pub fits : live p + homes' ≤ p.limit → (z : NumberedPages) × (referred_to q owner r ≡ granted z) × AreChanged p z owner cs' homes' × ((s : Slot) → IsNear q scene s → IsNear z scene s)
  pub full_is : (live p + homes' ≤ p.limit → ⊥) → referred_to q owner r ≡ full
  pub sources : IsNear q scene r.slot → AreSourcesNear p scene cs → AreSourcesNear p scene cs'

-- what a walk found of a slot's chain, in pages with these changes; the maps on its way are in frames
pub record HasWalked (p q : NumberedPages) (scene : Scene) (owner : Tty) (cs : List Change) (homes : ℕ) (s : Slot) (w : Walked) : Type 0 where
  pub sound : AreSound p scene
  pub own : IsOwner owner
  pub changed : AreChanged p q owner cs homes
  pub near : map_away q scene (in_map s) ≡ None
  pub links : Chain
  pub is : chain (entry_at q.maps) s ≡ Some links
  pub found : walked links ≡ w

-- the changes of one reference, in order, and the homes that they take
abbrev pub changes_with : List Change → Makings → List Change
changes_with cs Nothing = cs
changes_with cs (Zero c) = cs ++ c ∷ []
changes_with cs (Copy c sole) = cs ++ c ∷ []
changes_with cs (Both c d) = (cs ++ c ∷ []) ++ d ∷ []

abbrev pub homes_of : Makings → ℕ
homes_of Nothing = 0
homes_of (Zero c) = 1
homes_of (Copy c sole) = if sole then 0 else 1
homes_of (Both c d) = 2

-- how many changes there are of one reference
abbrev pub changes_of : Makings → ℕ
changes_of Nothing = 0
changes_of (Zero c) = 1
changes_of (Copy c sole) = 1
changes_of (Both c d) = 2

-- how many homes one reference takes at most
abbrev pub most_made : Kind → ℕ
most_made Read = 1
most_made Write = 2
most_made Execute = 1

-- what an answer needs first is so, over whatever drum: a map or a page is in no frame, or fewer frames are free than so many
abbrev pub AnswerNeeds : {P : Type 0} → StoreMeaning P → ℕ → P → Added → Type 0
AnswerNeeds store most p (Need n) = IsNeeded store most p n
AnswerNeeds store most p answer = Unit {0}

-- whether two names, if there are, are those of one page
abbrev pub are_same : Option PageName → Option PageName → Bool
are_same (Some n) (Some m) = same_page n m
are_same n m = false

-- an answer that wants no page and no frame first
abbrev pub is_needless : Added → Bool
is_needless (Need n) = false
is_needless answer = true

-- each is to a page that a space has, of a fork that lives
abbrev pub ArePlaces : (ForkName → Bool) → List PageReference → Type 0
ArePlaces lives rs = All (λ r. IsPlace lives (Fork r.slot)) rs

-- what it comes to that a reference is added to others: it is answered on the pages that they leave; where it goes through it leaves what it
-- leaves there, with these changes and so many homes taken in all
pub record Judges (p : NumberedPages) (scene : Scene) (owner : Tty) (rs : List PageReference) (cs : List Change) (r : PageReference) (answer : Added) (makings : Makings) (homes : ℕ) : Type 0 where
  pub is : answer ≡ answered (after_all p owner rs) scene (most_framed p scene) owner r
  pub gathers : answer ≡ Went → AreGathered p scene owner (rs ++ r ∷ []) (changes_with cs makings) homes
  pub leaves : answer ≡ Went → referred_to (after_all p owner rs) owner r ≡ granted (after_all p owner (rs ++ r ∷ []))
  pub near : answer ≡ Went → (s : Slot) → IsNear (after_all p owner rs) scene s → IsNear (after_all p owner (rs ++ r ∷ [])) scene s

-- A GATHER: the owner of what is made, the references in order, the entries that they will change, and the homes that these take
pub record Gathering : Type 0 where
  pub owner : Tty
  pub references : List PageReference
  pub changes : List Change
  pub homes : ℕ

-- the references of a gather go through in order on these pages, and its changes are what they come to
abbrev pub Gathers : NumberedPages → Scene → Gathering → Type 0
Gathers p scene g = AreGathered p scene g.owner g.references g.changes g.homes

-- the pages that they leave
abbrev pub left_of : NumberedPages → Gathering → NumberedPages
left_of p g = after_all p g.owner g.references

-- what it comes to that a reference is added to a gather
pub record Adds (p : NumberedPages) (scene : Scene) (old new : Gathering) (r : PageReference) (result : Added) : Type 0 where
  pub gathers : Gathers p scene new
  pub is : result ≡ answered (left_of p old) scene (most_framed p scene) old.owner r
  pub leaves : result ≡ Went → referred_to (left_of p old) old.owner r ≡ granted (left_of p new)
  pub near : result ≡ Went → (s : Slot) → IsNear (left_of p old) scene s → IsNear (left_of p new) scene s

-- what holds of every gather: an owner owns what it makes, its changes are few, and its slots are pages of a space
pub record IsKept (owner : Tty) (rs : List PageReference) (cs : List Change) (homes : ℕ) : Type 0 where
  pub own : is_owner owner ≡ true
  pub changes : length cs ≤ 2 * length rs
  pub few : homes ≤ length cs
  pub most : length rs ≤ 64
  pub slots : list_all (λ r. nat_lt r.slot.page SPACE_PAGES) rs ≡ true
  pub sources : are_in_space cs ≡ true

-- the maps on the way of a place of a fork's space, and its page if it has one, are in frames
abbrev pub IsPlaceNear : NumberedPages → Scene → Place → Type 0
IsPlaceNear p scene (Fork s) = IsNear p scene s
IsPlaceNear p scene (File f page) = ⊥

-- one reference more, to a place
abbrev pub PlaceAdds : List PageReference → List PageReference → Place → Kind → Type 0
PlaceAdds old new (Fork s) kind = new ≡ old ++ record { slot = s; kind = kind } ∷ []
PlaceAdds old new (File f page) kind = ⊥
