-- What is needed first at a place, before a word there can be looked at or put.
use Rattle.std.specs.Prelude.{◌≡◌, ◌⊎◌, ℕ, ◌≤◌, Some}
use Rattle.machine_names.specs.declared.names.ForkName.{ForkName}
use Rattle.machine_names.specs.declared.names.Kind.TheVariants.{Write}
use Rattle.machine_names.specs.declared.names.Place.{Place}
use Rattle.machine_names.specs.declared.names.Place.TheVariants.{Fork}
use Rattle.machine_names.specs.declared.names.TheConstants.{ACCUMULATORS}
use Rattle.machine_names.specs.declared.names.Tty.{Tty}
use Rattle.page_homes.specs.declared.homes.Home.{Home}
use Rattle.plain_pages.specs.PlainPages.{NumberedPages}
use Rattle.plain_pages.specs.References.{Spot, slot_at}
use Rattle.page_contracts.specs.declared.answers.Need.{Need}
use Rattle.page_contracts.specs.declared.answers.Need.TheVariants.{Page}
use Rattle.page_contracts.specs.declared.answers.Touch.TheVariants.{Ready}
use Rattle.page_contracts.specs.DrumWords.{DrumWords}
use Rattle.page_contracts.specs.Pages.{PagesMeaning, IsOfFilePage, Scene, map_away, page_away, spot_of, touch_of}
use Rattle.page_contracts.specs.Stores.{IsNeeded}

-- a home is in no frame, and is that of the first map on the way to a spot that is in none, or of the page there
abbrev pub IsOnWay : NumberedPages → Scene → Spot ℕ → ℕ → Type 0
IsOnWay p scene at home = (map_away p scene at ≡ Some home) ⊎ (page_away p scene at ≡ Some home)

-- where a page is needed it is in no frame, and is a map on the way to a place or the page there, over each drum that fits; of a file the tables alone tell it
pub record IsAwayAt {P : Type 0} (means : PagesMeaning P) (p : P) (at : Place) (need : Need) : Type 0 where
  pub on_way : (d : DrumWords) (home : Home) → means.fits p d → need ≡ Page home → IsOnWay (means.plain p d) (means.scene p) (spot_of at) home.0
  pub own : (home : Home) → need ≡ Page home → IsOfFilePage means p at home.0

-- so of a word at an address of a fork, which is no accumulator
pub record IsWordAway {P : Type 0} (means : PagesMeaning P) (p : P) (f : ForkName) (address : ℕ) (need : Need) : Type 0 where
  pub high : ACCUMULATORS ≤ address
  pub away : IsAwayAt means p (Fork (slot_at f address)) need

-- A WORD CAN'T BE PUT AT A PLACE YET: nothing has changed, and what is needed is so, over whatever drum; of frames two are needed at most
pub record Lacks {P : Type 0} (means : PagesMeaning P) (old new : P) (at : Place) (need : Need) : Type 0 where
  pub stays : new ≡ old
  pub needed : IsNeeded means.store 2 new need
  pub away : IsAwayAt means new at need

-- over the words of a drum, a touch to write that is answered as it is told finds its page ready
abbrev pub OpensOver : {P : Type 0} → PagesMeaning P → P → DrumWords → Place → Tty → Type 0
OpensOver means p d at owner = means.touched p at Write ≡ touch_of (means.plain p d) (means.scene p) (spot_of at) Write owner → means.touched p at Write ≡ Ready
