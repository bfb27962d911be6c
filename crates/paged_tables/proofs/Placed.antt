-- A page of a space that a look found stands at a home, in a frame.
use Rattle.std.proofs.Common.{◌≡◌, ℕ, ◌<◌, List, true, Option, Some, is_some, refl, sym, ◌∙◌, ap}
use Rattle.machine_names.specs.declared.names.ForkName.{ForkName}
use Rattle.machine_names.specs.declared.names.Place.TheVariants.{Fork}
use Rattle.machine_names.specs.declared.names.Slot.{Slot}
use Rattle.machine_names.specs.declared.names.TheConstants.{SPACE_PAGES}
use Rattle.page_homes.specs.declared.homes.Home.{Home}
use Rattle.page_contracts.specs.declared.answers.Found.{Found}
use Rattle.page_contracts.specs.declared.answers.SpaceHandle.{SpaceHandle}
use Rattle.page_contracts.specs.Pages.{IsPlace}
use Rattle.page_contracts.specs.Stores.{HomePlace, free, away, here, is_here, place}
use Rattle.pager_walk.specs.MapPages.{index_of}
use Rattle.pager_walk.specs.Walks.{walk_at}
use Rattle.paged_tables.specs.declared.page_home.PageHome.TheVariants.{At}
use Rattle.paged_tables.specs.KnownPages.{known_over, place_over}
use Rattle.paged_tables.specs.PageHomes.{homed_over}
use Rattle.paged_tables.specs.PagedSlots.{space_over}
use Rattle.paged_tables.specs.PagedTables.{Beside, AreKept}
use Rattle.paged_tables.proofs.KnownTouches.{known_found, known_homed, known_is, slot_there}

pub record Placed (b : Beside) (places : List HomePlace) (found : ℕ → Option Found) (slot : Slot) (spot : Found) : Type 0 where
  pub there : IsPlace (λ f. is_some (index_of b.tables.maps f)) (Fork slot)
  pub home : Home
  pub is : homed_over b places (Fork slot) ≡ At home
  pub spots : found home.0 ≡ Some spot
  pub words : List ℕ
  pub holds : place places home.0 ≡ here words

is_words : (p : HomePlace) → is_here p ≡ true → (words : List ℕ) × (p ≡ here words)
is_words free e = absurd (cc e)
is_words away e = absurd (cc e)
is_words (here words) e = (words, refl)

pub placed : (b : Beside) (places : List HomePlace) → AreKept b places → (f : ForkName) (space : SpaceHandle) → space_over b f ≡ Some space → (page : ℕ) → page < SPACE_PAGES
    → (found : ℕ → Option Found) → ((h : ℕ) → is_some (found h) ≡ is_here (place places h)) → (spot : Found) → place_over found b places space page ≡ Some spot → Placed b places found (record { fork = f; page = page }) spot
placed b places kept f space is page below found finds spot e =
    let k = known_found found (λ q. true) (known_over b places space page) spot e in
    let x = is_words (place places k.page.home.0) (sym (finds k.page.home.0) ∙ ap is_some k.spots) in
    record {
      there = slot_there b places kept f space is page below;
      home = k.page.home;
      is = known_homed (walk_at b.tables places (record { fork = f; page = page })) k.page (sym (known_is b places kept f space is page below) ∙ k.is);
      spots = k.spots;
      words = x.0;
      holds = x.1;
    }
