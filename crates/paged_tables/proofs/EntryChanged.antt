-- An entry that was set is set anew as is asked.
use Rattle.std.proofs.Common.{◌≡◌, ℕ, ◌<◌, List, true, Option, None, Some, is_some, refl, sym, ◌∙◌, ap, subst}
use Rattle.std.specs.Prelude.{nat_lt}
use Rattle.std.specs.Option.{option_map, option_map_or, unwrap_or}
use Rattle.std.specs.FinMap as fin
use Rattle.machine_names.specs.declared.names.Access.{Access}
use Rattle.machine_names.specs.declared.names.FileNo.{FileNo}
use Rattle.machine_names.specs.declared.names.PageName.{PageName}
use Rattle.machine_names.specs.declared.names.Slot.{Slot}
use Rattle.machine_names.specs.declared.names.TheConstants.{SPACE_PAGES}
use Rattle.machine_names.specs.Orders.{FilePage, file_page}
use Rattle.page_homes.specs.declared.homes.Home.{Home}
use Rattle.page_contracts.specs.DrumWords.{DrumWords}
use Rattle.page_contracts.specs.Stores.{HomePlace, StoreMeaning, traffic}
use Rattle.page_contracts.proofs.Losing.{loses_on}
use Rattle.plain_pages.specs.declared.map.MapEntry.{MapEntry}
use Rattle.plain_pages.specs.declared.map.MapEntry.TheVariants as map_entry
use Rattle.plain_pages.specs.declared.map.NewEntry.{NewEntry}
use Rattle.plain_pages.specs.declared.map.NewEntry.TheVariants as new_entry
use Rattle.plain_pages.specs.PlainPages.{NumberedPages}
use Rattle.plain_pages.specs.Maps.{entry_at, narrow}
use Rattle.plain_pages.specs.NewEntries.{changed, entry_to}
use Rattle.plain_pages.specs.References.{with_entry as entry_put}
use Rattle.plain_pages.specs.Room.{page_in, uses}
use Rattle.plain_pages.proofs.Kept.{entry_again}
use Rattle.pager_walk.specs.declared.paged_entry.Looked.TheVariants.{Is}
use Rattle.pager_walk.specs.declared.paged_entry.PagedEntry.{PagedEntry}
use Rattle.pager_walk.specs.declared.paged_entry.PagedEntry.TheVariants as paged
use Rattle.pager_walk.specs.PagedMaps.{TellsEntry, look_at, name_at, name_of, plain_entry}
use Rattle.pager_walk.proofs.Looking.{ArePages, looked}
use Rattle.flat_tables.specs.HeldMaps.{nobody}
use Rattle.flat_pages.proofs.Agreement.{tables_whole, uses_home}
use Rattle.flat_pages.proofs.EmptyMaps.{core_on}
use Rattle.flat_tables.proofs.FiledHomes.{get_filed}
use Rattle.paged_tables.specs.PagedTables.{Beside, AreKept, FitsPages, in_memory_over, plain_over}
use Rattle.paged_tables.specs.SetEntries.{ChangesEntry, SetsSlot, UsesMapOf, narrow_paged}
use Rattle.paged_tables.proofs.MapsSame.{forks_same, lives_same}
use Rattle.paged_tables.proofs.UsedPlaces.{uses_again}
use Rattle.paged_tables.proofs.Homed.{sized}
use Rattle.paged_tables.proofs.MapsTold.{maps_told}

changed_at : (p : NumberedPages) (s : Slot) (what : NewEntry) (x : MapEntry) → entry_at p.maps s ≡ Some x → changed p s what ≡ entry_put p s (entry_to p what x)
unfolding changed
changed_at p s what x h = ap (λ (o : Option MapEntry). option_map_or (λ y. entry_put p s (entry_to p what y)) o p) h

-- the plain entry of a slot that was looked at
pub entry_seen : (b : Beside) (places : List HomePlace) (kept : AreKept b places) (pages : ArePages places) (d : DrumWords) (fits : FitsPages b places d) (at : Slot) → at.page < SPACE_PAGES → (q : PagedEntry) → look_at b.tables places at ≡ Is q
    → entry_at (plain_over b places d).maps at ≡ Some (plain_entry b.tables.names q)
entry_seen b places kept pages d fits at below q looks =
    ap (λ m. entry_at m at) (maps_told b.tables places d) ∙ (subst (λ l. TellsEntry b.tables places d at l) looks (looked b.tables places d kept.rooted pages fits.maps at below)).1

module _ {S : Type 0} (store : StoreMeaning S) (old new : S) (b b' : Beside) (kept : AreKept b (store.homes old)) (pages : ArePages (store.homes old)) (at : Slot) (below : at.page < SPACE_PAGES) (q : PagedEntry) (looks : look_at b.tables (store.homes old) at ≡ Is q)
    (what : NewEntry) (p : PagedEntry) (sets : SetsSlot store old new b b' at p) where
  pub changes : ((d : DrumWords) → plain_entry b.tables.names p ≡ entry_to (plain_over b (store.homes old) d) what (plain_entry b.tables.names q)) → ChangesEntry store old new b b' at what
  changes same = record {
    told = λ d fits.
        (let r = sets.told d fits in (
          r.0,
          r.1 ∙ ap (entry_put (plain_over b (store.homes old) d) at) (same d)
              ∙ sym (changed_at (plain_over b (store.homes old) d) at what (plain_entry b.tables.names q) (entry_seen b (store.homes old) kept pages d fits at below q looks)),
        ));
    core = sets.core;
    filed = sets.filed;
    lost = sets.lost;
    uses = sets.uses;
    lives = lives_same b b' sets.maps;
    forks = forks_same b b' sets.maps;
    serials = sets.serials;
    maps = sets.maps;
    most = sets.limit;
  }

-- a narrowed entry stands for a narrowed entry
pub narrow_is : (names : List (Option PageName)) (a : Access) (q : PagedEntry) → plain_entry names (narrow_paged a q) ≡ narrow a (plain_entry names q)
narrow_is names a paged.Empty = refl
narrow_is names a (paged.Page h c) = refl
narrow_is names a (paged.Follows serial page c) = refl

-- the page that a file names
pub page_is : (b : Beside) (places : List HomePlace) (d : DrumWords) (f : FileNo) (page : ℕ) (a : Access) (home : Home) (e : MapEntry) → fin.get b.files (file_page f.0 page) ≡ Some home → plain_entry b.tables.names (paged.Page home a) ≡ entry_to (plain_over b places d) (new_entry.FilePage f page a) e
page_is b places d f page a home e there =
    sym (ap (λ (o : Option PageName). option_map_or (λ n. map_entry.Names n a) o e) (get_filed b.tables.names b.files (file_page f.0 page) ∙ ap (option_map (name_of b.tables.names)) there))

-- an entry that is emptied, and then set to a page that a file names, is set
module _ {S : Type 0} (store : StoreMeaning S) (old mid new : S) (b b1 b' : Beside) (kept : AreKept b (store.homes old)) (kept1 : AreKept b1 (store.homes mid)) (pages : ArePages (store.homes old)) (pages1 : ArePages (store.homes mid)) (at : Slot) (below : at.page < SPACE_PAGES)
    (q : PagedEntry) (looks : look_at b.tables (store.homes old) at ≡ Is q) (f : FilePage ℕ) (home : Home) (there : fin.get b.files f ≡ Some home) (a : Access) (emptied : SetsSlot store old mid b b1 at paged.Empty) (sets : SetsSlot store mid new b1 b' at (paged.Page home a)) where
  there1 : fin.get b1.files f ≡ Some home
  there1 = ap (λ m. fin.get m f) emptied.files ∙ there

  same_name : name_of b1.tables.names home ≡ name_of b.tables.names home
  same_name =
      let z : Some (name_of b1.tables.names home) ≡ Some (name_of b.tables.names home) =
      ap (option_map (name_of b1.tables.names)) (sym there1) ∙ sym (get_filed b1.tables.names b1.files f) ∙ ap (λ (g : FilePage ℕ → Option PageName). g f) emptied.filed ∙ get_filed b.tables.names b.files f ∙ ap (option_map (name_of b.tables.names)) there in
      cc z

  -- the name that the page has
  record Title : Type 0 where
    name : PageName
    is : name_at b1.tables.names home.0 ≡ Some name

  title : Title
  title = by (name_at b1.tables.names home.0) refl (kept1.filed f home there1)
    where
      by : (o : Option PageName) → name_at b1.tables.names home.0 ≡ o → is_some o ≡ true → Title
      by None e s = absurd (cc s)
      by (Some n) e s = record { name = n; is = e }

  told_on : (d : DrumWords) → FitsPages b (store.homes old) d → FitsPages b' (store.homes new) d × (plain_over b' (store.homes new) d ≡ entry_put (plain_over b (store.homes old) d) at (plain_entry b.tables.names (paged.Page home a)))
  told_on d fits =
      let first = emptied.told d fits in
      let second = sets.told d first.0 in
      let p : NumberedPages = plain_over b (store.homes old) d in
      let e : MapEntry = plain_entry b.tables.names (paged.Page home a) in
      let u1 = in_memory_over b1 (store.homes mid) d in
      let named : (n : PageName) → page_in e ≡ Some n → nat_lt 0 (uses (entry_put p at map_entry.Empty) n) ≡ true = λ n k.
      (let same : title.name ≡ n = (let z : Some title.name ≡ Some n = ap (λ (o : Option PageName). Some (unwrap_or o nobody)) (sym title.is) ∙ ap Some same_name ∙ k in cc z) in
      ap (λ (r : NumberedPages). nat_lt 0 (uses r n)) (sym first.1) ∙ ap (nat_lt 0) (uses_home u1 first.0.agree d (sized b1 (store.homes mid) kept1 pages1 d first.0) home.0 n (title.is ∙ ap Some same)) ∙ sym (first.0.agree.shared home.0) ∙ ap is_some title.is) in (
        second.0,
        second.1
            ∙ (λ i. entry_put (first.1 i) at (map_entry.Names (same_name i) a))
            ∙ entry_again p (tables_whole (in_memory_over b (store.homes old) d) fits.agree d (sized b (store.homes old) kept pages d fits)) at (plain_entry b.tables.names q) map_entry.Empty e (entry_seen b (store.homes old) kept pages d fits at below q looks) refl named,
      )

  uses_on : UsesMapOf store old new b' at.fork
  uses_on = uses_again store old mid new b1 b' at.fork sets.maps emptied.uses sets.uses

  pub set_on : SetsSlot store old new b b' at (paged.Page home a)
  set_on = record {
    told = told_on;
    look = sets.look;
    maps = sets.maps ∙ emptied.maps;
    files = sets.files ∙ emptied.files;
    filed = sets.filed ∙ emptied.filed;
    serials = sets.serials ∙ emptied.serials;
    living = sets.living ∙ emptied.living;
    limit = sets.limit ∙ emptied.limit;
    core = core_on emptied.core sets.core;
    lost = loses_on (traffic store old) (traffic store mid) (traffic store new) emptied.lost sets.lost;
    uses = uses_on;
  }
