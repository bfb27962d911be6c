-- A word that is put into a page leaves what a touch finds, and all that is told beside the words.
use Rattle.std.proofs.Common.{◌≡◌, ◌+◌, ℕ, List, ◌∙◌}
use Rattle.std.specs.Prelude.{slice_set}
use Rattle.page_contracts.specs.Stores.{HomePlace, StoreMeaning, here, place, with_word_in}
use Rattle.page_contracts.specs.Pages.{StaysPut}
use Rattle.flat_tables.specs.Serials.{serial_of}
use Rattle.flat_tables.specs.SlotTouches.{home_named}
use Rattle.paged_tables.specs.KnownPages.{place_over}
use Rattle.paged_tables.specs.PagedMeaning.{forks_in, lives_in}
use Rattle.paged_tables.specs.PagedSlots.{filed_over, map_home_over, paged_slots, space_over}
use Rattle.paged_tables.specs.PagedTables.{Beside}
use Rattle.paged_tables.specs.PagedTouches.{scene_over, touched_over}
use Rattle.paged_tables.proofs.Places.{IsNoRoot}
use Rattle.paged_tables.proofs.StillWalked.{places_same, put_aways, put_roots, scene_same, touches_same}

module _ {P S : Type 0} (store : StoreMeaning S) (part : P → S) (beside : P → Beside) (p q : P) (tables : beside q ≡ beside p) (h : ℕ) (apart : IsNoRoot (beside p).tables.maps h) (words : List ℕ) (held : place (store.homes (part p)) h ≡ here words) (offset word : ℕ)
    (homes : store.homes (part q) ≡ slice_set (store.homes (part p)) h (with_word_in (place (store.homes (part p)) h) offset word)) (spare : store.spare (part q) ≡ store.spare (part p)) (found : store.found (part q) ≡ store.found (part p)) where
  abbrev old : List HomePlace
  old = store.homes (part p)

  abbrev new : List HomePlace
  new = slice_set old h (with_word_in (place old h) offset word)

  pub put_stays : StaysPut (paged_slots store part beside) p q
  put_stays =
      let b = beside p in
      let roots = put_roots b.tables old h words held offset word apart in
      let aways = put_aways b.tables old h words held offset word in
      record {
        touched = (λ i. touched_over (tables i) (homes i) (store.spare (part q))) ∙ touches_same b old new roots aways (store.spare (part p)) (store.spare (part q)) spare;
        scene = (λ i. scene_over (tables i) (homes i) (store.spare (part q))) ∙ scene_same b old new roots aways (store.spare (part p)) (store.spare (part q)) spare;
        space = λ i. space_over (tables i);
        place = (λ i. place_over (store.found (part q)) (tables i) (homes i)) ∙ places_same b old new roots (store.found (part p)) (store.found (part q)) found;
        filed = λ i. filed_over (tables i);
        map_homes = λ i. map_home_over (tables i);
        page_homes = λ i. home_named (tables i).tables.names;
        lives = λ i. lives_in (tables i);
        forks = λ i. forks_in (tables i);
        serials = λ i. serial_of (tables i).serials;
        count = λ i. (tables i).taken + (tables i).living;
        most = λ i. (tables i).limit;
      }
