-- A page of a place that was used, or is, stands at its home.
use Rattle.std.proofs.Common.{◌≡◌, ℕ, List, true, Option, None, Some, is_some, refl, sym, ◌∙◌, ap}
use Rattle.std.specs.FinMap as fin
use Rattle.std.specs.Option.{option_and_then, option_map}
use Rattle.machine_names.specs.declared.names.ForkName.{ForkName}
use Rattle.machine_names.specs.declared.names.Kind.{Kind}
use Rattle.machine_names.specs.declared.names.Place.{Place}
use Rattle.machine_names.specs.declared.names.Place.TheVariants.{Fork, File}
use Rattle.machine_names.specs.declared.names.Slot.{Slot}
use Rattle.machine_names.specs.Orders.{FilePage, file_page}
use Rattle.page_homes.specs.declared.homes.Home.{Home}
use Rattle.page_contracts.specs.declared.answers.Found.{Found}
use Rattle.page_contracts.specs.declared.answers.SpaceHandle.{SpaceHandle}
use Rattle.page_contracts.specs.Pages.{IsPlace, StandsAt, StandsInFile, StandsInSpace, UsesPlace}
use Rattle.page_contracts.specs.Stores.{HomePlace, IsSound, StoreMeaning, is_here, place}
use Rattle.pager_walk.specs.declared.chain_walk.Walked.{Walked}
use Rattle.pager_walk.specs.declared.chain_walk.Walked.TheVariants.{Along, Absent, NoChain}
use Rattle.pager_walk.specs.MapPages.{index_of}
use Rattle.pager_walk.specs.PagedMaps.{name_at, name_of}
use Rattle.pager_walk.specs.Walks.{walk_at}
use Rattle.flat_tables.proofs.FiledHomes.{get_filed}
use Rattle.paged_tables.specs.declared.known_page.KnownPage.{KnownPage}
use Rattle.paged_tables.specs.declared.page_home.PageHome.TheVariants.{At}
use Rattle.paged_tables.specs.KnownPages.{found_known, known_along, known_page}
use Rattle.paged_tables.specs.PageHomes.{homed, homed_along, homed_over}
use Rattle.paged_tables.specs.PagedMeaning.{lives_in}
use Rattle.paged_tables.specs.PagedSlots.{map_home_over, paged_slots, space_over}
use Rattle.paged_tables.specs.PagedTables.{Beside, AreKept}
use Rattle.paged_tables.specs.PlacesSettled.{UsesPlace as PlaceUsed}
use Rattle.slot_paged.proofs.HousedPages.{named_is, some_named}
use Rattle.paged_tables.proofs.KnownTouches.{known_is}
use Rattle.paged_tables.proofs.Placed.{placed}

-- the page at the end of a chain is known
known_at : (w : Walked) (h : Home) → homed_along w ≡ At h → (k : KnownPage) × (known_along w ≡ Some k) × (k.home ≡ h)
known_at (Along w) h e = by w.home e
  where
    by : (o : Option Home) → homed o ≡ At h → (k : KnownPage) × (option_map (known_page w) o ≡ Some k) × (k.home ≡ h)
    by None k = absurd (cc k)
    by (Some g) k = (known_page w g, refl, (let same : g ≡ h = cc k in same))
known_at (Absent home) h e = absurd (cc e)
known_at NoChain h e = absurd (cc e)

some_found : (o : Option Found) → is_some o ≡ true → (spot : Found) × (o ≡ Some spot)
some_found None e = absurd (cc e)
some_found (Some spot) e = (spot, refl)

file_home : (o : Option Home) (h : Home) → homed o ≡ At h → o ≡ Some h
file_home None h e = absurd (cc e)
file_home (Some g) h e = let same : g ≡ h = cc e in ap Some same

space_there : (b : Beside) (f : ForkName) → lives_in b f ≡ true → (space : SpaceHandle) × (space_over b f ≡ Some space)
space_there b f lives = by (index_of b.tables.maps f) lives
  where
    by : (o : Option ℕ) → is_some o ≡ true → (space : SpaceHandle) × ◌≡◌ {A = Option SpaceHandle} (option_map (λ k. record { 0 = k }) o) (Some space)
    by None e = absurd (cc e)
    by (Some k) e = (record { 0 = k }, refl)

-- the page of a home that a file names stands there
pub stands_in_file : {P S : Type 0} (store : StoreMeaning S) (part : P → S) (beside : P → Beside) (p : P) → AreKept (beside p) (store.homes (part p)) → (f : FilePage ℕ) (h : Home) → fin.get (beside p).files f ≡ Some h → StandsInFile (paged_slots store part beside) p f h.0
stands_in_file store part beside p kept f h filed =
    let b = beside p in
    record {
      name = name_of b.tables.names h;
      named = get_filed b.tables.names b.files f ∙ ap (option_map (name_of b.tables.names)) filed;
      there = named_is b (store.homes (part p)) kept h.0 (name_of b.tables.names h) (some_named b (store.homes (part p)) kept h.0 (name_of b.tables.names h) (name_at b.tables.names h.0) refl (kept.filed f h filed) refl);
    }

module _ {P S : Type 0} (store : StoreMeaning S) (part : P → S) (beside : P → Beside) (p : P) (kept : AreKept (beside p) (store.homes (part p))) (sound : IsSound store (part p)) where
  abbrev b : Beside
  b = beside p

  abbrev places : List HomePlace
  places = store.homes (part p)

  stands_in_space : (s : Slot) (h : Home) → IsPlace (lives_in b) (Fork s) → homed_over b places (Fork s) ≡ At h → is_here (place places h.0) ≡ true → StandsInSpace (paged_slots store part beside) p s h.0
  stands_in_space s h there is in_frame =
      let space = space_there b s.fork there.0 in
      let k = known_at (walk_at b.tables places s) h is in
      let spot = some_found (store.found (part p) h.0) (sound.finds h.0 ∙ in_frame) in
      record {
        space = space.0;
        named = space.1;
        found = spot.0;
        there = ap (found_known (store.found (part p)) (λ k. true)) (known_is b places kept s.fork space.0 space.1 s.page there.1 ∙ k.1) ∙ ap (λ (g : Home). store.found (part p) g.0) k.2 ∙ spot.1;
        here = spot.1;
      }

  -- the page of a place that a frame has stands at its home
  pub stands_at : (at : Place) (h : Home) → IsPlace (lives_in b) at → homed_over b places at ≡ At h → is_here (place places h.0) ≡ true → StandsAt (paged_slots store part beside) p at h.0
  stands_at (Fork s) h there is in_frame = stands_in_space s h there is in_frame
  stands_at (File f page) h there is in_frame = stands_in_file store part beside p kept (file_page f.0 page) h (file_home (fin.get b.files (file_page f.0 page)) h is)

  -- and at no other
  pub home_at : (at : Place) (home : ℕ) → IsPlace (lives_in b) at → StandsAt (paged_slots store part beside) p at home → (h : Home) × (homed_over b places at ≡ At h) × (h.0 ≡ home)
  home_at (Fork s) home there stands =
      let x = placed b places kept s.fork stands.space stands.named s.page there.1 (store.found (part p)) sound.finds stands.found stands.there in
      (x.home, x.is, sound.apart x.home.0 home stands.found x.spots stands.here)
  home_at (File f page) home there stands = by (fin.get b.files (file_page f.0 page)) refl (sym (get_filed b.tables.names b.files (file_page f.0 page)) ∙ stands.named)
    where
      by : (o : Option Home) → fin.get b.files (file_page f.0 page) ≡ o → option_map (name_of b.tables.names) o ≡ Some stands.name → (h : Home) × (homed o ≡ At h) × (h.0 ≡ home)
      by None filed e = absurd (cc e)
      by (Some h) filed e =
          let same : name_of b.tables.names h ≡ stands.name = cc e in
          let named = named_is b places kept h.0 stands.name (some_named b places kept h.0 stands.name (name_at b.tables.names h.0) refl (kept.filed (file_page f.0 page) h filed) same) in
          let z : Some h.0 ≡ Some home = sym named ∙ stands.there in
          (h, refl, cc z)

-- the home of a fork's map
map_of : (b : Beside) (o : Option ForkName) (at : ℕ) → option_and_then (map_home_over b) o ≡ Some at → (f : ForkName) × (map_home_over b f ≡ Some at)
map_of b None at e = absurd (cc e)
map_of b (Some f) at e = (f, e)

-- the page of a place was used or made, and then the map in which an entry was set
pub uses_place : {P S : Type 0} (store : StoreMeaning S) (part : P → S) (beside : P → Beside) (old new : P) → AreKept (beside new) (store.homes (part new)) → IsSound store (part new) → (at : Place) (kind : Kind) → IsPlace (lives_in (beside new)) at
    → PlaceUsed store (part old) (part new) (beside old) (beside new) at kind → UsesPlace (paged_slots store part beside) at kind old new
uses_place store part beside old new kept sound at kind there u = record {
  home = u.home.0;
  stands = stands_at store part beside new kept sound at u.home there u.stands u.here;
  here = u.here;
  map = option_and_then (map_home_over (beside new)) u.fork;
  of_fork = map_of (beside new) u.fork;
  set = λ d fits. ap (option_and_then (map_home_over (beside new))) (u.set d fits);
  ages = u.ages;
}
