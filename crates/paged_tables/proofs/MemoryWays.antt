-- A walk that goes along a chain does so in memory.
use Rattle.std.proofs.Common.{◌≡◌, ℕ, ◌<◌, List, true, Option, None, Some, is_some, refl, sym, ◌∙◌, ap, subst}
use Rattle.machine_names.specs.declared.names.Kind.{Kind}
use Rattle.machine_names.specs.declared.names.Kind.TheVariants.{Read, Write, Execute}
use Rattle.machine_names.specs.declared.names.Slot.{Slot}
use Rattle.machine_names.specs.declared.names.TheConstants.{SPACE_PAGES}
use Rattle.page_contracts.specs.DrumWords.{DrumWords}
use Rattle.page_contracts.specs.Pages.{can_settle}
use Rattle.page_contracts.specs.Stores.{HomePlace, away_at}
use Rattle.pager_walk.specs.declared.chain_walk.Walked.{Walked}
use Rattle.pager_walk.specs.declared.chain_walk.Walked.TheVariants.{Along}
use Rattle.pager_walk.specs.MapPages.{index_of}
use Rattle.pager_walk.specs.Walks.{Way, WayStands, walk_at}
use Rattle.pager_walk.proofs.Looking.{ArePages}
use Rattle.flat_tables.specs.declared.held_entry.EntryAt.{EntryAt}
use Rattle.flat_tables.specs.Walks.{Walk, slot_of, walk}
use Rattle.fork_maps.specs.ChainWalks.{copy_for}
use Rattle.flat_tables.specs.SlotTouches.{scene_of, touch_walked}
use Rattle.flat_pages.proofs.Settled.{Announced}
use Rattle.paged_tables.specs.PagedTables.{Beside, AreKept, FitsPages, in_memory_over}
use Rattle.paged_tables.specs.PagedTouches.{walk_touched}
use Rattle.paged_tables.proofs.Homed.{walk_is}
use Rattle.paged_tables.proofs.Touched.{along_same}
use Rattle.paged_tables.proofs.WalksTold.{IsSameCopy, IsSameWalk, IsSameWay, index_same, maps, walk_told}

-- the walk in memory
pub record MemoryWay (b : Beside) (places : List HomePlace) (d : DrumWords) (s : Slot) (w : Way) : Type 0 where
  pub number : ℕ
  pub index : index_of b.tables.maps s.fork ≡ Some number
  pub way : Walk
  pub found : walk (maps b.tables places d) (record { map = number; page = s.page }) ≡ Some way
  pub same : IsSameWay (maps b.tables places d) w way

module _ (b : Beside) (places : List HomePlace) (kept : AreKept b places) (pages : ArePages places) (d : DrumWords) (fits : FitsPages b places d) (s : Slot) (lives : is_some (index_of b.tables.maps s.fork) ≡ true) (within : s.page < SPACE_PAGES)
    (w : Way) (walks : Along w ≡ walk_at b.tables places s) where
  pub memory_way : MemoryWay b places d s w
  memory_way = numbered (index_of b.tables.maps s.fork) refl lives
    where
      by : (k : ℕ) → index_of b.tables.maps s.fork ≡ Some k → (o : Option Walk) → walk (maps b.tables places d) (record { map = k; page = s.page }) ≡ o → IsSameWalk (maps b.tables places d) (Along w) o → MemoryWay b places d s w
      by k is None found same = absurd same
      by k is (Some v) found same = record { number = k; index = is; way = v; found = found; same = same }

      numbered : (o : Option ℕ) → index_of b.tables.maps s.fork ≡ o → is_some o ≡ true → MemoryWay b places d s w
      numbered None is l = absurd (cc l)
      numbered (Some k) is l =
          by k is (walk (maps b.tables places d) (record { map = k; page = s.page })) refl
          (subst (λ (x : Walked). IsSameWalk (maps b.tables places d) x (walk (maps b.tables places d) (record { map = k; page = s.page }))) (sym walks) (walk_told b.tables places d kept.rooted pages fits.maps s k is within))

  -- what its touch announces
  pub memory_announced : (m : MemoryWay b places d s w) (stands : WayStands b.tables places w) (frames : ℕ) (kind : Kind) → can_settle (walk_touched b places frames kind (Along w)) ≡ true → Announced (in_memory_over b places d) frames s kind m.way
  memory_announced m stands frames kind ready =
      let u = in_memory_over b places d in record {
        lives = ap is_some (index_same b.tables places d s.fork) ∙ lives;
        walks = walk_is b places kept pages d fits s m.number m.index ∙ m.found;
        ready = ap can_settle (ap (touch_walked (away_at u.places) u (scene_of u frames) kind) (walk_is b places kept pages d fits s m.number m.index ∙ m.found)
            ∙ along_same b places kept.rooted pages d fits kept.files.count frames w m.way stands m.same kind) ∙ ready;
      }

-- the first copy mark stands in one entry
pub record CopyEntry (b : Beside) (places : List HomePlace) (d : DrumWords) (kind : Kind) (v : Walk) (m : Slot) : Type 0 where
  pub entry : EntryAt
  pub some : copy_for kind v ≡ Some entry
  pub slot : slot_of (maps b.tables places d) entry ≡ Some m

pub copy_entry : (b : Beside) (places : List HomePlace) (d : DrumWords) (w : Way) (v : Walk) → IsSameWay (maps b.tables places d) w v → (kind : Kind) (m : Slot) → copy_for kind w ≡ Some m → CopyEntry b places d kind v m
copy_entry b places d w v same Read m e = absurd (cc e)
copy_entry b places d w v same Execute m e = absurd (cc e)
copy_entry b places d w v same Write m e = by w.copy v.copy refl e same.copy
  where
    by : (o : Option Slot) (x : Option EntryAt) → v.copy ≡ x → o ≡ Some m → IsSameCopy (maps b.tables places d) o x → CopyEntry b places d Write v m
    by None x k f c = absurd (cc f)
    by (Some s) None k f c = absurd c
    by (Some s) (Some x) k f c = record { entry = x; some = k; slot = c ∙ f }

-- or there is none
pub copy_none : (b : Beside) (places : List HomePlace) (d : DrumWords) (w : Way) (v : Walk) → IsSameWay (maps b.tables places d) w v → (kind : Kind) → copy_for kind w ≡ None → copy_for kind v ≡ None
copy_none b places d w v same Read e = refl
copy_none b places d w v same Execute e = refl
copy_none b places d w v same Write e = by w.copy v.copy refl e same.copy
  where
    by : (o : Option Slot) (x : Option EntryAt) → v.copy ≡ x → o ≡ None → IsSameCopy (maps b.tables places d) o x → v.copy ≡ None
    by None None k f c = k
    by None (Some x) k f c = absurd c
    by (Some s) x k f c = absurd (cc f)
