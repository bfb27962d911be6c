-- A fork whose map was emptied ends: what the pages are then.
use Rattle.std.proofs.Common.{◌≡◌, ◌≢◌, inl, inr, ℕ, zero, suc, ◌+◌, ◌<◌, ◌≤◌, List, [], ◌∷◌, not, ◌&&◌, Some, sym, ◌∙◌, ap, subst, arith, is_some, length}
use Rattle.std.specs.Prelude.{slice_get}
use Rattle.std.proofs.lemmas.Bool.{cases_lt}
use Rattle.machine_names.specs.declared.names.ForkName.{ForkName}
use Rattle.machine_names.specs.declared.names.Tty.{Tty}
use Rattle.page_contracts.specs.DrumWords.{DrumWords}
use Rattle.plain_pages.specs.PlainPages.{Maps}
use Rattle.plain_pages.specs.References.{without_fork}
use Rattle.page_contracts.specs.Pages.{StaysInCore}
use Rattle.machine_names.specs.Orders.{same_fork}
use Rattle.page_contracts.specs.Stores.{StoreMeaning, HomePlace, IsSound, FitsHomes}
use Rattle.flat_tables.specs.declared.held_entry.HeldEntry.{HeldEntry}
use Rattle.flat_tables.specs.declared.held_entry.HeldEntry.TheVariants.{Empty}
use Rattle.flat_tables.specs.declared.held_map.HeldMap.{HeldMap}
use Rattle.flat_tables.specs.declared.map_tables.MapTables.{MapTables}
use Rattle.flat_tables.specs.HeldMaps.{fork_at, held_entry, map_at, entries_of, index_of, living_of}
use Rattle.flat_tables.specs.SlotTables.{Tables, plain_of, AreTables}
use Rattle.flat_tables.specs.SlotTouches.{scene_of}
use Rattle.flat_pages.specs.SlotMeaning.{AreTold}
use Rattle.flat_tables.specs.TableSteps.{tables_of, fork_ended}
use Rattle.flat_pages.specs.Emptying.{EmptiesMap}
use Rattle.flat_pages.proofs.Ending.{ended_tables, ended_living, ended_own, ended_other, ended_lives, ended_maps, none_named, fewer_without}
use Rattle.flat_tables.proofs.ForkMaps.{index_fork, fork_within}
use Rattle.flat_tables.proofs.LivingMaps.{get_living}
use Rattle.flat_pages.proofs.SlotSetting.{SameForks, index_same, living_same}
use Rattle.flat_pages.proofs.Telling.{tables_told}

-- an entry of a list is within it
entry_within : (xs : List HeldEntry) (i : ℕ) (e : HeldEntry) → slice_get xs i ≡ Some e → i < length xs
entry_within [] i e h = absurd (cc h)
entry_within (x ∷ xs) zero e h = omega arith
entry_within (x ∷ xs) (suc i) e h = omega (arith, entry_within xs i e h)

module _ {S : Type 0} (store : StoreMeaning S) (old mid : S) (tables then_tables : MapTables) (k : ℕ) (f : ForkName) (index : index_of tables.maps.held.items f ≡ Some k) (empties : EmptiesMap store old mid tables then_tables k 512) where
  abbrev maps : List HeldMap
  maps = then_tables.maps.held.items

  is_old : fork_at tables.maps.held.items k ≡ Some f
  is_old = index_fork tables.maps.held.items f k index

  is : fork_at maps k ≡ Some f
  is = empties.forks k ∙ is_old

  pub map_below : k < length maps
  map_below = fork_within maps k f is

  same : SameForks maps tables.maps.held.items
  same = record { many = empties.many; each = empties.forks }

  module _ (agree : AreTables (tables_of (store.homes mid) then_tables)) where
    pub some_living : 1 ≤ then_tables.living
    some_living = omega (arith, agree.living, ended_living maps agree.held k f is)

    empty : (page : ℕ) (e : HeldEntry) → held_entry maps (record { map = k; page = page }) ≡ Some e → e ≡ Empty
    empty page e h = elim (cases_lt page 512) [
      | inl l ↦ (let z : Some e ≡ Some Empty = sym h ∙ empties.entries page l in cc z)
      | inr l ↦ absurd (omega (arith, l, entry_within (map_at maps k).entries page e h, agree.held.pages k map_below))
    ]

    module _ (new : MapTables) (ended : (places : List HomePlace) → tables_of places new ≡ fork_ended (tables_of places then_tables) k) where
      abbrev homes : List HomePlace
      homes = store.homes mid

      pub ended_agrees : AreTables (tables_of homes new)
      ended_agrees = subst AreTables (sym (ended homes)) (ended_tables (tables_of homes then_tables) agree k f is empty)

      maps_are : new.maps.held.items ≡ (fork_ended (tables_of homes then_tables) k).maps
      maps_are = ap (λ (t : Tables). t.maps) (ended homes)

      pub fork_core : StaysInCore (scene_of (tables_of (store.homes old) tables) (store.spare old)) (scene_of (tables_of homes new) (store.spare mid)) 0
      fork_core = subst (λ (t : Tables). StaysInCore (scene_of (tables_of (store.homes old) tables) (store.spare old)) (scene_of t (store.spare mid)) 0) (sym (ended homes)) empties.core

      pub fork_lives : (g : ForkName) → is_some (index_of new.maps.held.items g) ≡ (not (same_fork g f) && is_some (index_of tables.maps.held.items g))
      fork_lives g = ap (λ ms. is_some (index_of ms g)) maps_are ∙ ended_lives maps agree.held k f is g ∙ ap (λ o. not (same_fork g f) && is_some o) (index_same maps tables.maps.held.items same g)

      pub fork_own : living_of new.maps.held.items f.tty + 1 ≡ living_of tables.maps.held.items f.tty
      fork_own = ap (λ ms. living_of ms f.tty + 1) maps_are ∙ ended_own maps agree.held k f is ∙ living_same maps tables.maps.held.items same f.tty

      pub fork_other : (t : Tty) → t ≢ f.tty → living_of new.maps.held.items t ≡ living_of tables.maps.held.items t
      fork_other t ne = ap (λ ms. living_of ms t) maps_are ∙ ended_other maps agree.held k f is t ne ∙ living_same maps tables.maps.held.items same t

      pub fork_drops : AreTables (tables_of (store.homes old) tables) → AreTold (tables_of (store.homes old) tables) → AreTold (tables_of homes then_tables) → (d : DrumWords) → FitsHomes (store.homes old) d
          → FitsHomes homes d × (plain_of (tables_of homes new) d ≡ without_fork (plain_of (tables_of (store.homes old) tables) d) f)
      fork_drops was told still d fits =
          let r = empties.told d f is_old fits in
          let p = plain_of (tables_of (store.homes old) tables) d in
          let q = plain_of (tables_of homes then_tables) d in
          let names = then_tables.names.items in (
            r.0,
            ap (λ (t : Tables). plain_of t d) (ended homes)
                ∙ ap (λ (m : Maps). record q { maps = m }) (ended_maps maps agree.held k f is names)
                ∙ fewer_without p q f (entries_of tables.names.items (map_at tables.maps.held.items k)) (entries_of names (map_at maps k)) (told.whole d fits) (still.whole d r.0) r.1
                (get_living tables.names.items tables.maps.held.items was.held.once f k is_old) (get_living names maps agree.held.once f k is)
                (λ n. none_named names n (map_at maps k).entries (λ page e h. empty page e h)),
          )

-- and is told
pub ended_told : {S : Type 0} (store : StoreMeaning S) (mid : S) (new : MapTables) → AreTables (tables_of (store.homes mid) new) → IsSound store mid → AreTold (tables_of (store.homes mid) new)
ended_told store mid new agree sound = tables_told (tables_of (store.homes mid) new) agree sound.pages
