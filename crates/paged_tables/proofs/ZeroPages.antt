-- A zero page that is made for an empty entry at the end of a chain.
use Rattle.std.proofs.Common.{◌≡◌, ℕ, ◌+◌, ◌<◌, ◌≤◌, List, true, None, Some, is_some, refl, ◌∙◌, ap, arith}
use Rattle.std.proofs.lemmas.Bool.Decides.{nat_tests}
use Rattle.machine_names.specs.declared.names.Kind.{Kind}
use Rattle.machine_names.specs.declared.names.Slot.{Slot}
use Rattle.machine_names.specs.declared.names.Tty.{Tty}
use Rattle.machine_names.specs.declared.names.TheConstants.{SPACE_PAGES}
use Rattle.machine_names.specs.Bounds.{IsOwner}
use Rattle.machine_names.specs.PageWords.{zero_words}
use Rattle.page_contracts.specs.declared.answers.Touch.TheVariants.{Zero}
use Rattle.page_contracts.specs.DrumWords.{DrumWords}
use Rattle.page_contracts.specs.Pages.{can_settle}
use Rattle.page_contracts.specs.Stores.{HomePlace, StoreMeaning, away_at, here}
use Rattle.plain_pages.specs.Maps.{full_access}
use Rattle.plain_pages.specs.References.{in_map, settled}
use Rattle.pager_walk.specs.declared.chain_walk.Walked.TheVariants.{Along}
use Rattle.pager_walk.specs.MapPages.{index_of}
use Rattle.pager_walk.specs.Walks.{Way, WayStands, walk_at}
use Rattle.pager_walk.proofs.Looking.{ArePages}
use Rattle.flat_tables.specs.declared.held_entry.HeldEntry.TheVariants.{Empty}
use Rattle.flat_tables.specs.HeldMaps as flat
use Rattle.flat_tables.specs.Walks.{Walk, walk}
use Rattle.flat_tables.specs.SlotTables.{Tables as FlatTables, plain_of}
use Rattle.flat_tables.specs.SlotTouches.{scene_of, touch_walked}
use Rattle.flat_tables.specs.TableSteps.{home_taken}
use Rattle.flat_pages.proofs.Settled.{Announced, walk_found, zero_settled}
use Rattle.paged_tables.specs.MadePages.{MakesPage}
use Rattle.paged_tables.specs.PagedTables.{Beside, AreKept, FitsPages, in_memory_over, plain_over}
use Rattle.paged_tables.specs.PagedTouches.{roomy, walk_touched}
use Rattle.paged_tables.proofs.Homed.{flat_pages, walk_is}
use Rattle.paged_tables.proofs.Places.{fits_places}
use Rattle.paged_tables.proofs.Touched.{along_same}
use Rattle.paged_tables.proofs.WalksTold.{IsSameWay, index_same, maps}
use Rattle.pager_walk.specs.Walks.{IsNearSlot}
use Rattle.paged_tables.proofs.MemoryWays.{memory_way}
use Rattle.paged_tables.proofs.PagesMade.{agree_after, home_below, home_free, made_fits, made_over, pages_after}

pub room_left : (b : Beside) → roomy b 1 ≡ true → b.taken + b.living + 1 ≤ b.limit
room_left b e = grind (arith, nat_tests, e)

-- what is told of the page that is made
module _ {S : Type 0} (store : StoreMeaning S) (old new : S) (b b' : Beside) (kept : AreKept b (store.homes old)) (pages : ArePages (store.homes old)) (pages' : ArePages (store.homes new)) (s : Slot) (kind : Kind) (owner : Tty) (own : IsOwner owner)
    (lives : is_some (index_of b.tables.maps s.fork) ≡ true) (within : s.page < SPACE_PAGES) (w : Way) (walks : Along w ≡ walk_at b.tables (store.homes old) s) (stands : WayStands b.tables (store.homes old) w) (none : w.home ≡ None)
    (zero : walk_touched b (store.homes old) (store.spare old) kind (Along w) ≡ Zero) (room : roomy b 1 ≡ true) (z : MakesPage store old new b b' w.end (here zero_words) full_access b.tables.shares owner) (d : DrumWords) (fits : FitsPages b (store.homes old) d) where
  abbrev places : List HomePlace
  places = store.homes old

  abbrev u : FlatTables
  u = in_memory_over b places d

  abbrev frames : ℕ
  frames = store.spare old

  -- with the walk in memory
  module _ (k : ℕ) (is : index_of b.tables.maps s.fork ≡ Some k) (v : Walk) (found : walk (maps b.tables places d) (record { map = k; page = s.page }) ≡ Some v) (same : IsSameWay (maps b.tables places d) w v) where
    announced : Announced u frames s kind v
    announced = record {
      lives = ap is_some (index_same b.tables places d s.fork) ∙ lives;
      walks = walk_is b places kept pages d fits s k is ∙ found;
      ready = ap can_settle (ap (touch_walked (away_at u.places) u (scene_of u frames) kind) (walk_is b places kept pages d fits s k is ∙ found) ∙ along_same b places kept.rooted pages d fits kept.files.count frames w v stands same kind ∙ zero);
    }

    empty_now : flat.held_entry u.maps v.end ≡ Some Empty
    empty_now = (walk_found u fits.agree frames s kind v announced).meets.empty (same.home ∙ none)

    abbrev near_end : IsNearSlot b.tables places w.end
    near_end = stands.end

    over : in_memory_over b' (store.homes new) d ≡ home_taken u v.end z.home (here zero_words) full_access owner
    over = made_over store old new b b' kept pages pages' owner own w.end near_end zero_words full_access b.tables.shares z (λ x. refl) d fits v.end same.end Empty empty_now refl (λ j e. absurd (omega (arith, e))) (room_left b room)

    zero_here : FitsPages b' (store.homes new) d × (plain_over b' (store.homes new) d ≡ settled (plain_over b places d) (in_map s) kind owner)
    zero_here = (
      made_fits store old new b b' kept pages pages' owner own w.end near_end zero_words full_access b.tables.shares z (λ x. refl) d fits v.end same.end Empty empty_now refl (λ j e. absurd (omega (arith, e))) (room_left b room),
      ap (λ (t : FlatTables). plain_of t d) over
          ∙ ((zero_settled u fits.agree (flat_pages b places kept pages d fits) frames s kind v announced owner own z.home (home_below store old new b b' kept pages pages' owner own w.end near_end zero_words full_access b.tables.shares z (λ x. refl) d fits v.end same.end) (home_free store old new b b' kept pages pages' owner own w.end near_end zero_words full_access b.tables.shares z (λ x. refl) d fits v.end same.end) (store.spare new) (ap (λ n. n + 1) z.used.framed.spare ∙ z.made.spare) (same.home ∙ none)
          (agree_after store old new b b' kept pages pages' owner own w.end near_end zero_words full_access b.tables.shares z (λ x. refl) d fits v.end same.end Empty empty_now refl (λ j e. absurd (omega (arith, e))) (room_left b room))
          (pages_after store old new b b' kept pages pages' owner own w.end near_end zero_words full_access b.tables.shares z (λ x. refl) d fits v.end same.end Empty empty_now refl (λ j e. absurd (omega (arith, e))) (room_left b room))).told d (fits_places b.tables.maps places d fits.maps.drum)).1,
    )

  pub zero_told : FitsPages b' (store.homes new) d × (plain_over b' (store.homes new) d ≡ settled (plain_over b places d) (in_map s) kind owner)
  zero_told = let m = memory_way b places kept pages d fits s lives within w walks in zero_here m.number m.index m.way m.found m.same
