-- What is asked of the store in which pages and maps stand, and what that leaves of them.
use Rattle.std.proofs.Common.{◌≡◌, ◌+◌, List, sym, subst}
use Rattle.page_contracts.specs.Stores.{HomePlace, StoreMeaning}
use Rattle.page_contracts.specs.Pages.{MayLose, OnlyUses, StaysPut, StaysSame}
use Rattle.flat_tables.specs.Serials.{serial_of}
use Rattle.flat_tables.specs.SlotTouches.{home_named}
use Rattle.paged_tables.specs.KnownPages.{place_over}
use Rattle.paged_tables.specs.PagedMeaning.{forks_in, lives_in}
use Rattle.paged_tables.specs.PagedSlots.{filed_over, map_home_over, paged_slots, space_over}
use Rattle.paged_tables.specs.PagedTables.{Beside, FitsPages, plain_over}
use Rattle.paged_tables.specs.PagedTouches.{scene_over, touched_over}

module _ {P S : Type 0} (store : StoreMeaning S) (part : P → S) (beside : P → Beside) (p q : P) (tables : beside q ≡ beside p) (homes : store.homes (part q) ≡ store.homes (part p)) (spare : store.spare (part q) ≡ store.spare (part p)) (found : store.found (part q) ≡ store.found (part p)) where
  -- where no page comes or goes, all stays that is told of the pages
  pub stays_put : StaysPut (paged_slots store part beside) p q
  stays_put = record {
    touched = λ i. touched_over (tables i) (homes i) (spare i);
    scene = λ i. scene_over (tables i) (homes i) (spare i);
    space = λ i. space_over (tables i);
    place = λ i. place_over (found i) (tables i) (homes i);
    filed = λ i. filed_over (tables i);
    map_homes = λ i. map_home_over (tables i);
    page_homes = λ i. home_named (tables i).tables.names;
    lives = λ i. lives_in (tables i);
    forks = λ i. forks_in (tables i);
    serials = λ i. serial_of (tables i).serials;
    count = λ i. (tables i).taken + (tables i).living;
    most = λ i. (tables i).limit;
  }

  both : ◌≡◌ {A = Beside × List HomePlace} (beside q, store.homes (part q)) (beside p, store.homes (part p))
  both = λ i. (tables i, homes i)

  pub stays_same : StaysSame (paged_slots store part beside) p q
  stays_same = record {
    plain = λ d fits. (subst (λ (x : Beside × List HomePlace). FitsPages x.0 x.1 d) (sym both) fits, λ i. plain_over (tables i) (homes i) d);
    put = stays_put;
  }

  -- a use of a page changes nothing of them
  pub only_uses : MayLose (paged_slots store part beside) p q → OnlyUses (paged_slots store part beside) p q
  only_uses loses = record {
    fits = λ d. (λ fits. subst (λ (x : Beside × List HomePlace). FitsPages x.0 x.1 d) (sym both) fits, λ fits. subst (λ (x : Beside × List HomePlace). FitsPages x.0 x.1 d) both fits);
    plain = λ i d. plain_over (tables i) (homes i) d;
    put = stays_put;
    loses = loses;
  }
