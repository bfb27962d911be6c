-- What is asked of the store that the pages stand in, and what that leaves of the pages.
use Rattle.std.proofs.Common.{◌≡◌, ℕ, ◌+◌, is_some, refl, sym, ap, subst}
use Rattle.std.specs.Option.{option_map}
use Rattle.page_contracts.specs.Stores.{StoreMeaning, IsUsed, StaysFramed, StaysThere, Ends, Completes, FitsHomes, away_at}
use Rattle.page_contracts.specs.Pages.{MayLose, OnlyUses, StaysSame, StaysPut}
use Rattle.page_contracts.specs.declared.answers.Need.{Need}
use Rattle.page_contracts.specs.declared.store.Completed.{Completed}
use Rattle.flat_tables.specs.SlotTables.{Tables, plain_of}
use Rattle.flat_tables.specs.SlotTouches.{home_named, touch_of_place, touch_with, scene_of, scene_with}
use Rattle.flat_tables.specs.TableSteps.{tables_of}
use Rattle.flat_tables.specs.declared.map_tables.MapTables.{MapTables}
use Rattle.flat_tables.specs.HeldMaps.{index_of, living_of}
use Rattle.flat_tables.specs.Serials.{serial_of}
use Rattle.flat_pages.specs.SlotMeaning.{filed_in, slots_meaning, within, place_along}

module _ {P S : Type 0} (store : StoreMeaning S) (part : P → S) where
  -- a store that ends a transfer ends it for the pages
  ends_within : (need : Need) (p q : P) → Ends store need (part p) (part q) → Ends (within store part) need p q
  ends_within need p q e = record { transfer = e.transfer; oldest = e.oldest; told = e.told; moved = e.moved; taken = e.taken; homes = e.homes; frames = e.frames; spare = e.spare; untold = e.untold; holds = e.holds; members = e.members; found = e.found; tenants = e.tenants; came = e.came; went = e.went }

  framed_within : (p q : P) → StaysFramed store (part p) (part q) → StaysFramed (within store part) p q
  framed_within p q s = record { frames = s.frames; spare = s.spare; found = s.found; tenant = s.tenant; members = s.members }

  -- a use of a page of the store is one for the pages
  pub used_within : (home : ℕ) (p q : P) → IsUsed store home (part p) (part q) → IsUsed (within store part) home p q
  used_within home p q u = record { framed = framed_within p q u.framed; rescued = record { queue = u.rescued.queue; untold = u.rescued.untold }; left = u.left; holds = u.holds; ages = u.ages }

  stays_within : (p q : P) → StaysThere store (part p) (part q) → StaysThere (within store part) p q
  stays_within p q s = record { homes = s.homes; framed = framed_within p q s.framed; ages = s.ages; uses = s.uses }

  pub completes_within : {D : Type 0} (faults reads writes pages : D → ℕ) (result : Completed) (p q : P) (drum drum' : D) → (part q ≡ part p → q ≡ p) → Completes store faults reads writes pages result (part p) (part q) drum drum' → Completes (within store part) faults reads writes pages result p q drum drum'
  completes_within faults reads writes pages result p q drum drum' back c = record {
    nothing = c.nothing;
    same = λ is. (let s = c.same is in (back s.0, s.1));
    done = λ need is. ends_within need p q (c.done need is);
    cause = c.cause;
    later = c.later;
    read = c.read;
    wrote = c.wrote;
    reads_later = c.reads_later;
    writes_later = c.writes_later;
    failed = λ is. (let s = c.failed is in record { there = stays_within p q s.there; queued = record { queue = s.queued.queue; untold = s.queued.untold }; holds = s.holds });
    uncounted = c.uncounted;
    size = c.size;
  }

  module _ (tables : P → Tables) (p q : P) (same : tables q ≡ tables p) (spare : store.spare (part q) ≡ store.spare (part p)) (found : store.found (part q) ≡ store.found (part p)) where
    -- where no page comes or goes, all stays that is told of the pages
    pub stays_put : StaysPut (slots_meaning store part tables) p q
    stays_put = record {
      touched = λ i. touch_of_place (same i) (spare i);
      scene = λ i. scene_of (same i) (spare i);
      space = λ i. (slots_meaning store (λ (t : Tables). part p) (λ t. t)).space (same i);
      place = λ i. place_along (found i) (same i);
      filed = λ i. filed_in (same i);
      map_homes = refl;
      page_homes = λ i. home_named (same i).names;
      lives = λ i. (slots_meaning store (λ (t : Tables). part p) (λ t. t)).lives (same i);
      forks = λ i. living_of (same i).maps;
      serials = λ i. serial_of (same i).serials;
      count = λ i. (same i).taken + (same i).living;
      most = λ i. (same i).limit;
    }

    pub stays_same : StaysSame (slots_meaning store part tables) p q
    stays_same = record {
      plain = λ d fits. (subst (λ (t : Tables). FitsHomes t.places d) (sym same) fits, ap (λ (t : Tables). plain_of t d) same);
      put = stays_put;
    }

    -- a use of a page changes nothing of them
    pub only_uses : MayLose (slots_meaning store part tables) p q → OnlyUses (slots_meaning store part tables) p q
    only_uses loses = record {
      fits = λ d. (λ fits. subst (λ (t : Tables). FitsHomes t.places d) (sym same) fits, λ fits. subst (λ (t : Tables). FitsHomes t.places d) same fits);
      plain = λ i d. plain_of (same i) d;
      put = stays_put;
      loses = loses;
    }

-- where words alone are others, and nothing comes or goes, pages stay put
pub stays_through : {P S : Type 0} (store : StoreMeaning S) (part : P → S) (mt : P → MapTables) (p q : P) → mt q ≡ mt p → away_at (store.homes (part q)) ≡ away_at (store.homes (part p)) → store.spare (part q) ≡ store.spare (part p) → store.found (part q) ≡ store.found (part p)
    → StaysPut (slots_meaning store part (λ x. tables_of (store.homes (part x)) (mt x))) p q
stays_through store part mt p q same absent spare found =
    let homes = store.homes (part p) in
    record {
      touched = λ i. touch_with (absent i) (tables_of homes (same i)) (scene_with (absent i) (same i).names.items (spare i));
      scene = λ i. scene_with (absent i) (same i).names.items (spare i);
      space = λ i f. option_map (λ k. record { 0 = k }) (index_of (same i).maps.held.items f);
      place = λ i. place_along (found i) (tables_of homes (same i));
      filed = λ i. filed_in (tables_of homes (same i));
      map_homes = refl;
      page_homes = λ i. home_named (same i).names.items;
      lives = λ i f. is_some (index_of (same i).maps.held.items f);
      forks = λ i. living_of (same i).maps.held.items;
      serials = λ i. serial_of (same i).serials;
      count = λ i. (same i).taken + (same i).living;
      most = λ i. (same i).limit;
    }
