-- Whose homes are told that are away.
use Rattle.std.proofs.Common.{◌≡◌, ℕ, List, Bool, true, false, cond, Option, None, Some, refl, ap, subst}
use Rattle.std.specs.Prelude.{nat_lt}
use Rattle.std.specs.FinMap as fin
use Rattle.std.specs.Option.{option_map, option_map_or}
use Rattle.machine_names.specs.declared.names.Kind.{Kind}
use Rattle.machine_names.specs.declared.names.Kind.TheVariants.{Read, Write, Execute}
use Rattle.machine_names.specs.declared.names.Place.{Place}
use Rattle.machine_names.specs.declared.names.Place.TheVariants.{Fork, File}
use Rattle.machine_names.specs.declared.names.Slot.{Slot}
use Rattle.machine_names.specs.Orders.{file_page}
use Rattle.page_homes.specs.declared.homes.Home.{Home}
use Rattle.page_contracts.specs.declared.answers.Peeked.TheVariants as peeked
use Rattle.page_contracts.specs.declared.answers.Seen.TheVariants as seen
use Rattle.page_contracts.specs.declared.answers.Touch.TheVariants.{Ready, Zero, Absent, NeedFrame, Full}
use Rattle.page_contracts.specs.Pages.{IsOfFilePage, StandsInFile, absent_or}
use Rattle.page_contracts.specs.Stores.{HomePlace, StoreMeaning, free, away, here, away_at, away_home, place, word_in}
use Rattle.pager_walk.specs.declared.paged_entry.Looked.TheVariants.{Is, Refused}
use Rattle.pager_walk.specs.declared.paged_entry.PagedEntry.{PagedEntry}
use Rattle.pager_walk.specs.MapPages.{index_of, root_at}
use Rattle.pager_walk.specs.PagedMaps.{entry_in, look_at, look_map, look_word, seen_for}
use Rattle.paged_tables.specs.PageHomes.{homed, peeked_at, peeked_home, peeked_over}
use Rattle.paged_tables.specs.PagedSlots.{map_home_over, paged_slots}
use Rattle.paged_tables.specs.PagedTables.{Beside, AreKept}
use Rattle.paged_tables.specs.PagedTouches.{file_touched, roomy, scene_over, touched_over}
use Rattle.known_slots.proofs.PlacesUsed.{stands_in_file}

-- a page that is in no frame is that of the home that is told
absent_home : (p : HomePlace) (h home : Home) → absent_or (away_home p h.0) Ready ≡ Absent home → h ≡ home
absent_home free h home e = absurd (cc e)
absent_home away h home e = cc e
absent_home (here words) h home e = absurd (cc e)

peeked_away : (p : HomePlace) (h home : Home) (offset : ℕ) → peeked_at p h offset ≡ peeked.Absent home → h ≡ home
peeked_away free h home offset e = cc e
peeked_away away h home offset e = cc e
peeked_away (here words) h home offset e = absurd (cc e)

-- where a zero page is to be made no home is told
blank_not_absent : (r f : Bool) (home : Home) → cond r (cond f Zero NeedFrame) Full ≡ Absent home → ⊥
blank_not_absent true true home e = cc e
blank_not_absent true false home e = cc e
blank_not_absent false f home e = cc e

module _ {P S : Type 0} (store : StoreMeaning S) (part : P → S) (beside : P → Beside) (p : P) (kept : AreKept (beside p) (store.homes (part p))) where
  abbrev b : Beside
  b = beside p

  abbrev places : List HomePlace
  places = store.homes (part p)

  abbrev frames : ℕ
  frames = store.spare (part p)

  -- by a touch
  pub touch_away : (at : Place) (kind : Kind) (home : Home) → touched_over b places frames at kind ≡ Absent home → IsOfFilePage (paged_slots store part beside) p at home.0
  touch_away (Fork s) kind home is = tt
  touch_away (File f page) kind home is = by kind (fin.get b.files (file_page f.0 page)) refl is
    where
      by : (k : Kind) (o : Option Home) → fin.get b.files (file_page f.0 page) ≡ o → file_touched (away_at places) b (scene_over b places frames) k o ≡ Absent home → StandsInFile (paged_slots store part beside) p (file_page f.0 page) home.0
      by k (Some h) filed e = subst (λ (x : Home). StandsInFile (paged_slots store part beside) p (file_page f.0 page) x.0) (absent_home (place places h.0) h home e) (stands_in_file store part beside p kept (file_page f.0 page) h filed)
      by Read None filed e = absurd (cc e)
      by Write None filed e = absurd (blank_not_absent (roomy b 1) (nat_lt 0 frames) home e)
      by Execute None filed e = absurd (cc e)

  -- by a look at a word
  pub peek_away : (at : Place) (offset : ℕ) (home : Home) → peeked_over b places at offset ≡ peeked.Absent home → IsOfFilePage (paged_slots store part beside) p at home.0
  peek_away (Fork s) offset home is = tt
  peek_away (File f page) offset home is = by (fin.get b.files (file_page f.0 page)) refl is
    where
      by : (o : Option Home) → fin.get b.files (file_page f.0 page) ≡ o → peeked_home places offset (homed o) ≡ peeked.Absent home → StandsInFile (paged_slots store part beside) p (file_page f.0 page) home.0
      by None filed e = absurd (cc e)
      by (Some h) filed e = subst (λ (x : Home). StandsInFile (paged_slots store part beside) p (file_page f.0 page) x.0) (peeked_away (place places h.0) h home offset e) (stands_in_file store part beside p kept (file_page f.0 page) h filed)

  -- by a look at an entry
  pub entry_away : (s : Slot) (home : Home) → seen_for b.tables (look_at b.tables places s) ≡ seen.Absent home → map_home_over b s.fork ≡ Some home.0
  entry_away s home is = numbered (index_of b.tables.maps s.fork) is
    where
      decoded : (o : Option PagedEntry) → seen_for b.tables (option_map_or Is o Refused) ≡ seen.Absent home → ⊥
      decoded None e = cc e
      decoded (Some x) e = cc e

      root : (h : Home) (o : Option ℕ) → seen_for b.tables (look_word b.tables h o) ≡ seen.Absent home → h ≡ home
      root h None e = cc e
      root h (Some w) e = absurd (decoded (entry_in b.tables w) e)

      numbered : (o : Option ℕ) → seen_for b.tables (look_map b.tables places s.page o) ≡ seen.Absent home → option_map (λ k. (root_at b.tables.maps k).0) o ≡ Some home.0
      numbered None e = absurd (cc e)
      numbered (Some k) e = ap (λ (h : Home). Some h.0) (root (root_at b.tables.maps k) (word_in (place places (root_at b.tables.maps k).0) s.page) e)
