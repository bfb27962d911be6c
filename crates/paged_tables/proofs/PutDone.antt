-- An entry was set, and its page had another name, or it named none.
use Rattle.std.proofs.Common.{◌≡◌, ℕ, List, Option, Some, refl, sym, ◌∙◌, ap, subst}
use Rattle.std.specs.Prelude.{IsSome}
use Rattle.std.specs.Option.{option_and_then}
use Rattle.std.proofs.Math.Path.{fun_ext}
use Rattle.machine_names.specs.declared.names.Slot.{Slot}
use Rattle.page_contracts.specs.DrumWords.{DrumWords}
use Rattle.page_contracts.specs.Pages.{Scene, StaysInCore}
use Rattle.page_contracts.specs.Stores.{HomePlace, StoreMeaning, away_at, content}
use Rattle.page_contracts.proofs.Losing.{loses_used, used_left}
use Rattle.plain_pages.specs.References.{with_entry as entry_put}
use Rattle.share_table.specs.declared.pointer.Pointer.{Pointer}
use Rattle.share_table.specs.Pointers.{IsPointer, pointer_word}
use Rattle.share_table.specs.declared.shares.Share.{Share}
use Rattle.share_table.specs.Shares.{Shares}
use Rattle.pager_walk.specs.declared.paged_entry.Looked.TheVariants.{Is}
use Rattle.pager_walk.specs.declared.paged_entry.PagedEntry.{PagedEntry}
use Rattle.pager_walk.specs.MapPages.{fork_at, index_of, root_at}
use Rattle.pager_walk.specs.PagedMaps.{Tables, entry_for, entry_in, look_at, name_at, plain_entry}
use Rattle.pager_walk.specs.Walks.{IsNearSlot}
use Rattle.pager_walk.proofs.Changing.{entry_back}
use Rattle.pager_walk.proofs.Looking.{ArePages}
use Rattle.pager_walk.proofs.NumberedMaps.{index_fork}
use Rattle.flat_tables.specs.declared.held_entry.EntryAt.{EntryAt}
use Rattle.flat_tables.specs.HeldMaps as flat
use Rattle.flat_tables.specs.Walks.{slot_of}
use Rattle.flat_tables.specs.SlotTables.{Tables as FlatTables, AreTables, files_held}
use Rattle.flat_tables.specs.SlotTouches.{home_named}
use Rattle.flat_pages.proofs.EntrySetting.{same_core}
use Rattle.paged_tables.specs.MapsInMemory.{in_memory, maps_in_memory}
use Rattle.paged_tables.specs.NameCounts.{counts}
use Rattle.paged_tables.specs.PagedPlaces.{page_places}
use Rattle.paged_tables.specs.PagedTables.{Beside, AreKept, FitsPages, in_memory_over, plain_over}
use Rattle.paged_tables.specs.PagedTouches.{scene_over}
use Rattle.paged_tables.specs.PagedSlots.{filed_over}
use Rattle.paged_tables.specs.SetEntries.{PutsPointer, SetsSlot, UsesMapOf}
use Rattle.paged_tables.proofs.UsedPlaces.{uses_map}
use Rattle.paged_tables.proofs.EntryLooks.{sets_one}
use Rattle.paged_tables.proofs.EntryPut.{Held, held_at, memory_put, pages_put}
use Rattle.paged_tables.proofs.SlotTold.{slot_told}
use Rattle.paged_tables.proofs.StillScenes.{away_put}
use Rattle.paged_tables.proofs.WalksTold.{maps, slot_is}

module _ {S : Type 0} (store : StoreMeaning S) (old new : S) (b b' : Beside) (kept : AreKept b (store.homes old)) (kept' : AreKept b' (store.homes new)) (pages : ArePages (store.homes old)) (pages' : ArePages (store.homes new))
    (at : Slot) (near : IsNearSlot b.tables (store.homes old) at) (shares : Shares) (shared : List (Option Share)) (pointer : Pointer) (valid : IsPointer pointer) (p : PagedEntry) (stands : entry_for (record b.tables { shares = shares }) pointer ≡ Some p)
    (still : (w : ℕ) → IsSome (entry_in b.tables w) → entry_in (record b.tables { shares = shares }) w ≡ entry_in b.tables w) (z : PutsPointer store old new b b' shares shared at pointer) where
  abbrev places : List HomePlace
  places = store.homes old

  abbrev t' : Tables
  t' = record b.tables { shares = shares }

  abbrev word : ℕ
  word = pointer_word pointer

  abbrev root : ℕ
  root = (root_at b.tables.maps z.number).0

  stands_now : entry_in t' word ≡ Some p
  stands_now = entry_back t' pointer valid ∙ stands

  tables_are : b'.tables ≡ t'
  tables_are = ap (λ (x : Beside). x.tables) z.beside

  look_now : look_at b'.tables (store.homes new) at ≡ Is p
  look_now = (λ i. look_at (tables_are i) (z.homes i) at) ∙ (sets_one b places places kept pages at near z.number z.numbered (λ j g e. refl) word b.tables.names shares p stands_now).own

  own_fork : fork_at b.tables.maps z.number ≡ Some at.fork
  own_fork = index_fork b.tables.maps at.fork z.number z.numbered

  away_same : (k : ℕ) → away_at (store.homes new) k ≡ away_at places k
  away_same k = ap (λ ps. away_at ps k) z.homes ∙ away_put places root at.page word k

  scenes : scene_over b' (store.homes new) (store.spare new) ≡ scene_over b places (store.spare old)
  scenes =
      let gone : ◌≡◌ {A = ℕ → Option ℕ} (away_at (store.homes new)) (away_at places) = fun_ext away_same in
      ap (λ (x : Beside). scene_over x (store.homes new) (store.spare new)) z.beside
      ∙ (λ i. record {
        map_away = λ f. option_and_then (λ k. gone i (root_at b.tables.maps k).0) (index_of b.tables.maps f);
        page_away = λ n. option_and_then (gone i) (home_named b.tables.names n);
        free_frames = z.used.framed.spare i;
      })

  uses_maps : UsesMapOf store old new b' at.fork
  uses_maps = uses_map store old new b b' at.fork z.number z.numbered (ap (λ (x : Beside). x.tables.maps) z.beside) (used_left store old new root z.used)

  -- over the words of a drum that fits: the counts may be others
  module _ (d : DrumWords) (fits : FitsPages b places d) where
    abbrev u : FlatTables
    u = in_memory_over b places d

    abbrev e : EntryAt
    e = record { map = z.number; page = at.page }

    pub put_slot : slot_of (maps b.tables places d) e ≡ Some at
    put_slot = slot_is b.tables places d at z.number z.numbered

    pub put_held : Held b places d at e
    put_held = held_at b places kept pages d fits at near e put_slot

    abbrev pub after : FlatTables
    after = record u { shares = counts shares b.tables.names shared; maps = flat.with_entry u.maps e (in_memory p) }

    over : in_memory_over b' (store.homes new) d ≡ after
    over =
        let pages_are = ap (page_places b.tables.maps) z.homes ∙ pages_put b places places kept at near z.number z.numbered (λ j g e. refl) word in
        let maps_are = ap (λ ps. maps_in_memory t' (content ps d)) z.homes ∙ memory_put b places places kept at near z.number z.numbered (λ j g e. refl) word pages d fits (λ j g e. refl) e put_slot t' refl still p stands_now in
        ap (λ (x : Beside). in_memory_over x (store.homes new) d) z.beside ∙ (λ i. record after { places = pages_are i; maps = maps_are i })

    module _ (agree : AreTables after) where
      fits_now : FitsPages b' (store.homes new) d
      fits_now = record { maps = z.fits d fits.maps; agree = subst AreTables (sym over) agree }

      names_are : b'.tables.names ≡ b.tables.names
      names_are = ap (λ (x : Beside). x.tables.names) z.beside

      pub put_told : FitsPages b' (store.homes new) d × (plain_over b' (store.homes new) d ≡ entry_put (plain_over b places d) at (plain_entry b.tables.names p))
      put_told = (
        fits_now,
        slot_told b b' places (store.homes new) kept kept' pages pages' d fits fits_now at e (in_memory put_held.entry) p put_slot put_held.held (ap (λ (t : FlatTables). t.maps) over)
            (λ k n h. ap (λ ns. name_at ns k) (sym names_are) ∙ h) (λ k n h. ap (λ (t : FlatTables). content t.places d k) over) (ap (λ (t : FlatTables). t.serials) over) (ap (λ (t : FlatTables). t.limit) over)
            (λ c x ne h. ap (λ ns. flat.entry_of ns x) names_are) (ap (λ ns. flat.entry_of ns (in_memory p)) names_are) (ap (λ (x : Beside). files_held x.tables.names x.files) z.beside),
      )

  pub put_done : ((d : DrumWords) (fits : FitsPages b places d) → AreTables (after d fits)) → SetsSlot store old new b b' at p
  put_done agree = record {
    told = λ d fits. put_told d fits (agree d fits);
    look = look_now;
    maps = ap (λ (x : Beside). x.tables.maps) z.beside;
    files = ap (λ (x : Beside). x.files) z.beside;
    filed = ap filed_over z.beside;
    serials = ap (λ (x : Beside). x.serials) z.beside;
    living = ap (λ (x : Beside). x.living) z.beside;
    limit = ap (λ (x : Beside). x.limit) z.beside;
    core = subst (λ (x : Scene). StaysInCore (scene_over b places (store.spare old)) x 0) (sym scenes) (same_core (scene_over b places (store.spare old)));
    lost = loses_used store old new root z.used;
    uses = uses_maps;
  }
