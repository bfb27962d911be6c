-- What a page of a place that is settled leaves.
use Rattle.std.specs.Prelude.{◌≡◌, ◌≢◌, ◌⊎◌, ℕ, ◌+◌, ◌≤◌, List, Bool, true, false, MatchOption, Option, Some, is_some}
use Rattle.std.specs.Option.{option_and_then}
use Rattle.machine_names.specs.declared.names.ForkName.{ForkName}
use Rattle.machine_names.specs.declared.names.Kind.{Kind}
use Rattle.machine_names.specs.declared.names.Place.{Place}
use Rattle.machine_names.specs.declared.names.Place.TheVariants.{File}
use Rattle.machine_names.specs.declared.names.Tty.{Tty}
use Rattle.machine_names.specs.Orders.{FilePage, file_page}
use Rattle.page_homes.specs.declared.homes.Home.{Home}
use Rattle.page_contracts.specs.declared.answers.Touch.{Touch}
use Rattle.page_contracts.specs.declared.answers.Touch.TheVariants.{Ready, Zero}
use Rattle.page_contracts.specs.DrumWords.{DrumWords}
use Rattle.page_contracts.specs.Pages.{SettlesTo, TakesFrames, frames_taken, map_set, spot_of}
use Rattle.page_contracts.specs.Stores.{HomePlace, IsUsed, Loses, RenewsBoth, RenewsOne, StoreMeaning, is_here, is_taken, place, traffic, with_word_in}
use Rattle.plain_pages.specs.References.{next_making, settled}
use Rattle.flat_tables.specs.Serials.{serial_of}
use Rattle.pager_walk.specs.MapPages.{index_of, root_at}
use Rattle.pager_walk.specs.PagedMaps.{name_at}
use Rattle.paged_tables.specs.declared.page_home.PageHome.TheVariants.{At}
use Rattle.paged_tables.specs.PageHomes.{homed_over}
use Rattle.paged_tables.specs.PagedMeaning.{forks_in, lives_in}
use Rattle.paged_tables.specs.PagedSlots.{filed_over, map_home_over}
use Rattle.paged_tables.specs.PagedTables.{Beside, FitsPages, plain_over}
use Rattle.paged_tables.specs.PagedTouches.{scene_over, touched_over}

-- a home's page was used or made, and then the map of a fork, if of one
abbrev pub UsesBoth : {S : Type 0} → StoreMeaning S → S → S → Beside → ℕ → Option ForkName → Type 0
UsesBoth store old new b home fork = MatchOption (option_and_then (map_home_over b) fork) (RenewsOne home (traffic store old) (traffic store new)) (λ next. RenewsBoth home next (traffic store old) (traffic store new))

-- one page of a file was set: each other page of a file names what it named
pub record FilesOnePage (b b' : Beside) (f : FilePage ℕ) (named : Bool) : Type 0 where
  pub set : is_some (filed_over b' f) ≡ named
  pub others : (g : FilePage ℕ) → g ≢ f → filed_over b' g ≡ filed_over b g

-- what files name once the page is made that a touch announces: what they named, and a zero page where a file had none
abbrev pub FilesSettled : Beside → Beside → Place → Touch → Type 0
FilesSettled b b' (File f page) Zero = FilesOnePage b b' (file_page f.0 page) true
FilesSettled b b' at t = filed_over b' ≡ filed_over b

-- The page of a place, which is in a frame, was used or made; and then the map of a fork, in which an entry was set to what was made.
pub record UsesPlace {S : Type 0} (store : StoreMeaning S) (old new : S) (b b' : Beside) (at : Place) (kind : Kind) : Type 0 where
  pub home : Home
  pub stands : homed_over b' (store.homes new) at ≡ At home
  pub here : is_here (place (store.homes new) home.0) ≡ true
  pub fork : Option ForkName
  pub set : (d : DrumWords) → FitsPages b (store.homes old) d → fork ≡ map_set (next_making (plain_over b (store.homes old) d) (spot_of at) kind)
  pub ages : UsesBoth store old new b' home.0 fork

-- Each home that was taken has the page that it had, but that of one fork's map, of whose page one word alone may be another.
pub record SetsOneWord (b : Beside) (places places' : List HomePlace) : Type 0 where
  pub fork : ForkName
  pub number : ℕ
  pub numbered : index_of b.tables.maps fork ≡ Some number
  pub page : ℕ
  pub word : ℕ
  pub map : place places' (root_at b.tables.maps number).0 ≡ with_word_in (place places (root_at b.tables.maps number).0) page word
  pub homes : (k : ℕ) → k ≢ (root_at b.tables.maps number).0 → is_taken (place places k) ≡ true → place places' k ≡ place places k

-- each home that was taken has the page that it had, but for one word of one map at most
abbrev pub KeepsPages : Beside → List HomePlace → List HomePlace → Type 0
KeepsPages b places places' = ((k : ℕ) → is_taken (place places k) ≡ true → place places' k ≡ place places k) ⊎ SetsOneWord b places places'

-- the zero page or the copy was made that a touch announces, for an owner, or the page was used that it finds ready
pub record SettlesPlace {S : Type 0} (store : StoreMeaning S) (old new : S) (b b' : Beside) (at : Place) (kind : Kind) (owner : Tty) : Type 0 where
  pub told : (d : DrumWords) → FitsPages b (store.homes old) d → FitsPages b' (store.homes new) d × (plain_over b' (store.homes new) d ≡ settled (plain_over b (store.homes old) d) (spot_of at) kind owner)
  pub settles : SettlesTo (touched_over b (store.homes old) (store.spare old) at kind) (touched_over b' (store.homes new) (store.spare new) at kind)
  pub scene : TakesFrames (scene_over b (store.homes old) (store.spare old)) (scene_over b' (store.homes new) (store.spare new)) (frames_taken (touched_over b (store.homes old) (store.spare old) at kind))
  pub count : b'.taken + b'.living ≡ b.taken + b.living + frames_taken (touched_over b (store.homes old) (store.spare old) at kind)
  pub loses : Loses (traffic store old) (traffic store new)
  pub uses : UsesPlace store old new b b' at kind
  pub filed : FilesSettled b b' at (touched_over b (store.homes old) (store.spare old) at kind)
  pub ready : (h : Home) → touched_over b (store.homes old) (store.spare old) at kind ≡ Ready → homed_over b (store.homes old) at ≡ At h → IsUsed store h.0 old new
  pub still : touched_over b (store.homes old) (store.spare old) at kind ≡ Ready → (b' ≡ b) × (store.homes new ≡ store.homes old)
  pub lives : lives_in b' ≡ lives_in b
  pub forks : forks_in b' ≡ forks_in b
  pub serial : serial_of b'.serials owner ≤ serial_of b.serials owner + 1
  pub serials : (t : Tty) → t ≢ owner → serial_of b'.serials t ≡ serial_of b.serials t
  pub most : b'.limit ≡ b.limit
  pub taken : (k : ℕ) → is_taken (place (store.homes old) k) ≡ true → is_taken (place (store.homes new) k) ≡ true
  pub pages : KeepsPages b (store.homes old) (store.homes new)
  pub names : (h : Home) → homed_over b' (store.homes new) at ≡ At h → (k : ℕ) → k ≢ h.0 → name_at b'.tables.names k ≡ name_at b.tables.names k
  pub fresh : (h : Home) → homed_over b' (store.homes new) at ≡ At h → (k : ℕ) → k ≢ h.0 → is_taken (place (store.homes old) k) ≡ false → place (store.homes new) k ≡ place (store.homes old) k
  pub maps : b'.tables.maps ≡ b.tables.maps
