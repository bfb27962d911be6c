-- What each call leaves that changes maps or files: over the plain pages, over what is in frames, and in all numbers.
use Rattle.std.specs.Prelude.{◌≡◌, ◌≢◌, ℕ, ◌+◌, ◌≤◌, ◌==◌, Option, Some, is_some, false, not, ◌||◌, ◌&&◌}
use Rattle.std.specs.List.{list_any}
use Rattle.machine_names.specs.declared.names.FileNo.{FileNo}
use Rattle.machine_names.specs.declared.names.ForkName.{ForkName}
use Rattle.machine_names.specs.declared.names.Kind.{Kind}
use Rattle.machine_names.specs.declared.names.PageName.{PageName}
use Rattle.machine_names.specs.declared.names.Place.{Place}
use Rattle.machine_names.specs.declared.names.Slot.{Slot}
use Rattle.machine_names.specs.declared.names.Tty.{Tty}
use Rattle.machine_names.specs.Orders.{file_page, same_fork}
use Rattle.plain_pages.specs.declared.map.NewEntry.{NewEntry}
use Rattle.plain_pages.specs.declared.map.NewMap.{NewMap}
use Rattle.plain_pages.specs.FilePages.{filed_by, without_file}
use Rattle.plain_pages.specs.NewEntries.{changed}
use Rattle.plain_pages.specs.NewMaps.{with_map}
use Rattle.plain_pages.specs.PlainPages.{NumberedPages}
use Rattle.plain_pages.specs.References.{settled, without_fork}
use Rattle.page_contracts.specs.declared.answers.Touch.TheVariants.{Ready}
use Rattle.page_contracts.specs.DrumWords.{DrumWords}
use Rattle.page_contracts.specs.Pages.{PagesMeaning, AddsMap, AddsUse, DropsFile, DropsMap, FilesMade, FilesOne, MayLose, NamesPage, SetsEntry, SetsFile, SettlesHome, SettlesTo, StandsAt, StaysInCore, TakesFrames, TakesMap, UsesMap, UsesNone, UsesPlace, frames_taken, spot_of}
use Rattle.page_contracts.specs.Stores.{IsUsed, StaysQueued, free, moves, place}

module _ {P : Type 0} (means : PagesMeaning P) where
  -- over each drum that fits, the plain pages are changed so
  abbrev pub Becomes : (NumberedPages → NumberedPages) → P → P → Type 0
  Becomes change old new = (d : DrumWords) → means.fits old d → means.fits new d × (means.plain new d ≡ change (means.plain old d))

  -- An entry was set, which is a use of its map; a page that lost its last name was given up.
  pub record EntrySet (slot : Slot) (entry : NewEntry) (old new : P) : Type 0 where
    pub told : Becomes (λ p. changed p slot entry) old new
    pub scene : StaysInCore (means.scene old) (means.scene new) 0
    pub filed : means.filed new ≡ means.filed old
    pub loses : MayLose means old new
    pub uses : UsesMap means slot.fork old new
    pub sets : SetsEntry means slot old new
    pub lives : means.lives new ≡ means.lives old
    pub forks : means.forks_of new ≡ means.forks_of old
    pub serials : means.serial new ≡ means.serial old
    pub most : means.most new ≡ means.most old

  -- The page of a place was used, where a touch found it ready, and else made, as the touch announced, for an owner.
  pub record PageSettled (at : Place) (kind : Kind) (owner : Tty) (old new : P) : Type 0 where
    pub told : Becomes (λ p. settled p (spot_of at) kind owner) old new
    pub settles : SettlesTo (means.touched old at kind) (means.touched new at kind)
    pub scene : TakesFrames (means.scene old) (means.scene new) (frames_taken (means.touched old at kind))
    pub count : means.count new ≡ means.count old + frames_taken (means.touched old at kind)
    pub loses : MayLose means old new
    pub uses : UsesPlace means at kind old new
    pub homes : SettlesHome means at old new
    pub filed : FilesMade means at (means.touched old at kind) old new
    pub ready : (home : ℕ) → means.touched old at kind ≡ Ready → StandsAt means old at home → IsUsed means.store home old new
    pub lives : means.lives new ≡ means.lives old
    pub forks : means.forks_of new ≡ means.forks_of old
    pub serial : means.serial new owner ≤ means.serial old owner + 1
    pub serials : (t : Tty) → t ≢ owner → means.serial new t ≡ means.serial old t
    pub most : means.most new ≡ means.most old

  -- no transfer was taken from the queue, and what was held is
  pub record StaysBeside (old new : P) : Type 0 where
    pub queued : StaysQueued means.store old new
    pub holds : means.store.holds new ≡ means.store.holds old

  -- no transfer moves the page of a home, and it is held for nobody
  pub record IsQuiet (p : P) (home : ℕ) : Type 0 where
    pub unmoved : list_any (moves home) (means.store.queue p) ≡ false
    pub unheld : (holder : ℕ) → list_any (λ h. h == home) (means.store.holds p holder) ≡ false

  -- the home of a map is free, and nothing else is queued, told or held than was
  pub record GivesMapUp (fork : ForkName) (old new : P) : Type 0 where
    pub own : (home : ℕ) → means.map_home old fork ≡ Some home → place (means.store.homes new) home ≡ free
    pub beside : StaysBeside old new

  -- A fork was added, with its map, whose home was free.
  pub record ForkAdded (fork : ForkName) (entries : NewMap) (old new : P) : Type 0 where
    pub told : Becomes (λ p. with_map p fork entries) old new
    pub scene : TakesMap (means.scene old) (means.scene new) fork
    pub loses : MayLose means old new
    pub uses : AddsUse means fork old new
    pub adds : AddsMap means fork old new
    pub own : (home : ℕ) → means.map_home new fork ≡ Some home → place (means.store.homes old) home ≡ free
    pub beside : StaysBeside old new
    pub lives : (f : ForkName) → means.lives new f ≡ (same_fork f fork || means.lives old f)
    pub forks : means.forks_of new fork.tty ≡ means.forks_of old fork.tty + 1
    pub others : (t : Tty) → t ≢ fork.tty → means.forks_of new t ≡ means.forks_of old t
    pub serials : means.serial new ≡ means.serial old
    pub most : means.most new ≡ means.most old

  -- A fork was dropped, with its map, and each page that lost its last name. A map that named no page, and was quiet, is given up alone.
  pub record ForkDropped (fork : ForkName) (old new : P) : Type 0 where
    pub told : Becomes (λ p. without_fork p fork) old new
    pub scene : StaysInCore (means.scene old) (means.scene new) 0
    pub loses : MayLose means old new
    pub uses : UsesNone means old new
    pub drops : DropsMap means fork old new
    pub bare : ((n : PageName) → NamesPage means old fork n → ⊥) → ((home : ℕ) → means.map_home old fork ≡ Some home → IsQuiet old home) → GivesMapUp fork old new
    pub lives : (f : ForkName) → means.lives new f ≡ (not (same_fork f fork) && means.lives old f)
    pub forks : means.forks_of new fork.tty + 1 ≡ means.forks_of old fork.tty
    pub others : (t : Tty) → t ≢ fork.tty → means.forks_of new t ≡ means.forks_of old t
    pub serials : means.serial new ≡ means.serial old
    pub most : means.most new ≡ means.most old

  -- A page of a file was set to that of a slot, or to none.
  pub record FilePageSet (file : FileNo) (page : ℕ) (from : Option Slot) (old new : P) : Type 0 where
    pub told : Becomes (λ p. filed_by p (file_page file.0 page) from) old new
    pub scene : StaysInCore (means.scene old) (means.scene new) 0
    pub filed : FilesOne means (file_page file.0 page) (is_some from) old new
    pub sets : SetsFile means (file_page file.0 page) old new
    pub loses : MayLose means old new
    pub uses : UsesNone means old new
    pub lives : means.lives new ≡ means.lives old
    pub forks : means.forks_of new ≡ means.forks_of old
    pub serials : means.serial new ≡ means.serial old
    pub most : means.most new ≡ means.most old

  -- All pages of a file were dropped.
  pub record FileDropped (file : FileNo) (old new : P) : Type 0 where
    pub told : Becomes (λ p. without_file p file.0) old new
    pub scene : StaysInCore (means.scene old) (means.scene new) 0
    pub loses : MayLose means old new
    pub uses : UsesNone means old new
    pub drops : DropsFile means file.0 old new
    pub lives : means.lives new ≡ means.lives old
    pub forks : means.forks_of new ≡ means.forks_of old
    pub serials : means.serial new ≡ means.serial old
    pub most : means.most new ≡ means.most old
