-- What is told of pages of which a file's pages went, or of which a page of a file was set.
use Rattle.std.proofs.Common.{◌≡◌, ◌⊎◌, inl, inr, ℕ, ◌≤◌, Bool, Option, None, Some, is_some, refl, ◌∙◌, ap, arith}
use Rattle.std.specs.FinMap as fin
use Rattle.std.specs.Option.{option_map, unwrap_or}
use Rattle.std.proofs.lemmas.Bool.{cases_lt}
use Rattle.machine_names.specs.declared.names.FileNo.{FileNo}
use Rattle.machine_names.specs.declared.names.PageName.{PageName}
use Rattle.machine_names.specs.declared.names.Slot.{Slot}
use Rattle.machine_names.specs.declared.names.TheConstants.{FILE_PAGES}
use Rattle.machine_names.specs.Orders.{FilePage, file_page}
use Rattle.page_homes.specs.declared.homes.Home.{Home}
use Rattle.page_contracts.specs.Changes.{FileDropped, FilePageSet}
use Rattle.page_contracts.specs.DrumWords.{DrumWords}
use Rattle.page_contracts.specs.Pages.{DropsFile, FileNames, FilesOne, IsOfFile}
use Rattle.page_contracts.specs.Stores.{IsSound, StoreMeaning, free, place}
use Rattle.plain_pages.specs.FilePages.{without_file}
use Rattle.flat_pages.specs.FileSteps.{FileHas}
use Rattle.flat_tables.specs.Serials.{serial_of}
use Rattle.flat_pages.proofs.Agreement.{tables_whole}
use Rattle.flat_pages.proofs.FileEnds.{fewer_without}
use Rattle.flat_tables.proofs.FiledHomes.{get_filed}
use Rattle.pager_walk.specs.PagedMaps.{name_at, name_of, nobody}
use Rattle.paged_tables.specs.FiledSteps.{EmptiesFiled, PageStays, SetsFiled, SetsFilePage}
use Rattle.paged_tables.specs.PagedSlots.{paged_slots}
use Rattle.paged_tables.specs.PagedTables.{Beside, AreKept, FitsPages, in_memory_over, plain_over}
use Rattle.paged_tables.proofs.FilingSteps.{some_name}
use Rattle.paged_tables.proofs.Homed.{sized}
use Rattle.paged_tables.proofs.MapsSame.{forks_same, lives_same}
use Rattle.slot_paged.proofs.HousedPages.{named_is}
use Rattle.known_slots.proofs.PlacesKept.{maps_same, pages_stay, sets_file}

module _ {S : Type 0} (store : StoreMeaning S) (file : ℕ) where
  module _ (old new : S) (b b' : Beside) (kept : AreKept b (store.homes old)) (sound : IsSound store old) (k : EmptiesFiled store old new b b' file FILE_PAGES) where
    -- all of them
    pub emptied_all : (page : ℕ) → fin.get b'.files (file_page file page) ≡ None
    emptied_all page = elim (cases_lt page FILE_PAGES) [
      | inl l ↦ k.gone page l
      | inr past ↦ k.rest page past ∙ beyond page past (fin.get b.files (file_page file page)) refl
    ]
      where
        beyond : (page : ℕ) → FILE_PAGES ≤ page → (o : Option Home) → fin.get b.files (file_page file page) ≡ o → o ≡ None
        beyond page past None is = refl
        beyond page past (Some h) is = absurd (let r = kept.files.within (file_page file page) h is in omega (arith, r.1, past))

    pub told_dropped : (d : DrumWords) → FitsPages b (store.homes old) d → FitsPages b' (store.homes new) d × (plain_over b' (store.homes new) d ≡ without_file (plain_over b (store.homes old) d) file)
    told_dropped d fits =
        let r = k.told d fits in (
          r.0,
          fewer_without (plain_over b (store.homes old) d) (plain_over b' (store.homes new) d) file (tables_whole (in_memory_over b (store.homes old) d) fits.agree d (sized b (store.homes old) kept sound.pages d fits)) r.1
              (λ page. get_filed b'.tables.names b'.files (file_page file page) ∙ ap (option_map (name_of b'.tables.names)) (emptied_all page)),
        )

-- what files name once a page of one was set
pub files_one : {P S : Type 0} (store : StoreMeaning S) (part : P → S) (beside : P → Beside) (p q : P) (f : FilePage ℕ) (o : Option Home) → SetsFiled store (part p) (part q) (beside p) (beside q) f o → (named : Bool) → is_some o ≡ named
    → FilesOne (paged_slots store part beside) f named p q
files_one store part beside p q f o k named is = record {
  set = ap is_some (get_filed (beside q).tables.names (beside q).files f ∙ ap (option_map (name_of (beside q).tables.names)) k.here) ∙ same o ∙ is;
  others = k.filed;
}
  where
    same : (o : Option Home) → is_some (option_map (name_of (beside q).tables.names) o) ≡ is_some o
    same None = refl
    same (Some h) = refl

-- and once all of them went
module _ {P S : Type 0} (store : StoreMeaning S) (part : P → S) (beside : P → Beside) (p q : P) (kept : AreKept (beside p) (store.homes (part p))) (kept' : AreKept (beside q) (store.homes (part q))) (sound : IsSound store (part p)) (file : ℕ)
    (k : EmptiesFiled store (part p) (part q) (beside p) (beside q) file FILE_PAGES) where
  abbrev b : Beside
  b = beside p

  abbrev b' : Beside
  b' = beside q

  -- a page whose home the file names is named by it
  filed_page : (home : ℕ) (n : PageName) → name_at b.tables.names home ≡ Some n → FileHas b.files file home → FileNames (paged_slots store part beside) p file n
  filed_page home n named m = record {
    page = m.page;
    is = get_filed b.tables.names b.files (file_page file m.page) ∙ ap (option_map (name_of b.tables.names)) m.there ∙ ap (λ (o : Option PageName). Some (unwrap_or o nobody)) named;
  }

  file_name : (home : ℕ) → FileHas b.files file home → (n : PageName) × (name_at b.tables.names home ≡ Some n)
  file_name home m = some_name (name_at b.tables.names home) (kept.filed (file_page file m.page) (record { 0 = home }) m.there)

  of_file : (home : ℕ) → (place (store.homes (part q)) home ≡ place (store.homes (part p)) home) ⊎ ((place (store.homes (part q)) home ≡ free) × IsOfFile (paged_slots store part beside) p file home)
  of_file home = by (k.homes home)
    where
      by : PageStays b (store.homes (part p)) b' (store.homes (part q)) home (FileHas b.files file home) → (place (store.homes (part q)) home ≡ place (store.homes (part p)) home) ⊎ ((place (store.homes (part q)) home ≡ free) × IsOfFile (paged_slots store part beside) p file home)
      by (inl same) = inl same.0
      by (inr given) = (let n = file_name home given.2 in inr (given.0, (n.0, named_is b (store.homes (part p)) kept home n.0 n.1, filed_page home n.0 n.1 given.2)))

  pub drops_file : DropsFile (paged_slots store part beside) file p q
  drops_file = record {
    homes = of_file;
    pages = pages_stay store part beside p q kept kept' k.maps (FileHas b.files file) (FileNames (paged_slots store part beside) p file) filed_page (λ home some. k.homes home);
    maps = maps_same store part beside p q kept kept' k.maps;
    away = k.away;
    frames = λ none. (let same = k.frames (λ home m. (let n = file_name home m in none n.0 (filed_page home n.0 n.1 m))) in omega (arith, same));
    gone = λ page. get_filed b'.tables.names b'.files (file_page file page) ∙ ap (option_map (name_of b'.tables.names)) (emptied_all store file (part p) (part q) b b' kept sound k page);
    filed = k.filed;
  }

-- what is left once all pages of a file went
pub file_dropped : {P S : Type 0} (store : StoreMeaning S) (part : P → S) (beside : P → Beside) (p q : P) → AreKept (beside p) (store.homes (part p)) → AreKept (beside q) (store.homes (part q)) → IsSound store (part p) → (file : FileNo)
    → EmptiesFiled store (part p) (part q) (beside p) (beside q) file.0 FILE_PAGES → FileDropped (paged_slots store part beside) file p q
file_dropped store part beside p q kept kept' sound file k = record {
  told = told_dropped store file.0 (part p) (part q) (beside p) (beside q) kept sound k;
  scene = k.core;
  loses = k.lost;
  uses = k.used;
  drops = drops_file store part beside p q kept kept' sound file.0 k;
  lives = lives_same (beside p) (beside q) k.maps;
  forks = forks_same (beside p) (beside q) k.maps;
  serials = ap serial_of k.serials;
  most = k.limit;
}

-- and once a page of one was set
pub file_set : {P S : Type 0} (store : StoreMeaning S) (part : P → S) (beside : P → Beside) (p q : P) → AreKept (beside p) (store.homes (part p)) → AreKept (beside q) (store.homes (part q)) → (file : FileNo) (page : ℕ) (from : Option Slot)
    → SetsFilePage store (part p) (part q) (beside p) (beside q) (file_page file.0 page) from → FilePageSet (paged_slots store part beside) file page from p q
file_set store part beside p q kept kept' file page from z = record {
  told = z.told;
  scene = z.sets.core;
  filed = files_one store part beside p q (file_page file.0 page) z.home z.sets (is_some from) z.named;
  sets = sets_file store part beside p q kept kept' z.sets.maps (file_page file.0 page) z.sets.homes;
  loses = z.sets.lost;
  uses = z.sets.used;
  lives = lives_same (beside p) (beside q) z.sets.maps;
  forks = forks_same (beside p) (beside q) z.sets.maps;
  serials = ap serial_of z.sets.serials;
  most = z.sets.limit;
}
