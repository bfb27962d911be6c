-- An entry of a file's page, and files whose pages change one after another.
use Rattle.std.proofs.Common.{◌≡◌, ◌≢◌, inl, inr, ℕ, ◌+◌, ◌≤◌, List, Bool, true, false, cond, not, Option, None, Some, refl, sym, ◌∙◌, ap, subst, arith, is_some}
use Rattle.std.specs.Prelude.{nat_eq, nat_lt, ◌⊎◌}
use Rattle.std.specs.Option.{option_map, unwrap_or}
use Rattle.std.specs.Ordering.{eq_by_cmp, nat_cmp}
use Rattle.std.specs.Cmp.{nat_cmp_total}
use Rattle.std.specs.FinMap as fin
use Rattle.std.proofs.lemmas.Bool.{cases_eq, cases_lt}
use Rattle.std.proofs.lemmas.Bool.Decides.{nat_tests, eqb_tells}
use Rattle.machine_names.specs.declared.names.PageName.{PageName}
use Rattle.machine_names.specs.declared.names.Access.{Access}
use Rattle.machine_names.specs.declared.names.Slot.{Slot}
use Rattle.machine_names.specs.declared.names.TheConstants.{FILE_PAGES}
use Rattle.machine_names.specs.Orders.{FilePage, file_page}
use Rattle.machine_names.specs.declared.names.ForkName.{ForkName}
use Rattle.page_files.specs.Pages.{PagesOf}
use Rattle.page_homes.specs.declared.homes.Home.{Home}
use Rattle.page_contracts.specs.DrumWords.{DrumWords}
use Rattle.page_contracts.specs.Stores.{StoreMeaning, IsSound, FitsHomes, traffic}
use Rattle.page_contracts.proofs.Losing.{keeps_frames, loses_nothing, loses_on, none_on}
use Rattle.plain_pages.specs.PlainPages.{NumberedPages}
use Rattle.plain_pages.specs.Room.{page_in, uses}
use Rattle.plain_pages.specs.References.{with_entry as entry_put}
use Rattle.plain_pages.specs.FilePages.{with_file, without_file, other_files}
use Rattle.plain_pages.specs.WholePages.{AreWhole}
use Rattle.plain_pages.specs.declared.map.MapEntry.{MapEntry}
use Rattle.plain_pages.specs.declared.map.MapEntry.TheVariants as entry
use Rattle.plain_pages.proofs.Kept.{AreStill, entry_again, still_same}
use Rattle.plain_pages.proofs.FilesKept.{filed_again, filed_files, filed_maps, filed_still, uses_filed, set_elsewhere, same_files, without_files, without_maps, without_still}
use Rattle.flat_tables.specs.declared.held_entry.EntryAt.{EntryAt}
use Rattle.flat_tables.specs.declared.held_entry.HeldEntry.{HeldEntry}
use Rattle.flat_tables.specs.declared.held_entry.HeldEntry.TheVariants.{Empty, Page}
use Rattle.flat_tables.specs.declared.held_map.HeldMap.{HeldMap}
use Rattle.flat_tables.specs.declared.map_tables.MapTables.{MapTables}
use Rattle.flat_tables.specs.HeldMaps.{fork_at, held_entry, with_entry, name_at, name_of, nobody, entry_of}
use Rattle.flat_tables.specs.SlotTables.{Tables, plain_of, files_held, AreTables}
use Rattle.flat_pages.specs.SlotMeaning.{AreTold}
use Rattle.flat_tables.specs.SlotSteps.{NamesHome, SetsEntry}
use Rattle.flat_pages.specs.FileSteps.{AreFewerFiled, EmptiesFile, FileHas, HasHome, IsFiled, SetsFile}
use Rattle.flat_tables.specs.Walks.{slot_of}
use Rattle.flat_tables.specs.TableSteps.{tables_of}
use Rattle.flat_tables.proofs.FiledHomes.{filed_apart, get_filed}
use Rattle.flat_pages.proofs.Agreement.{filed_named, tables_whole, uses_home}
use Rattle.flat_tables.proofs.HeldEntries.{entry_same, entry_twice, fork_set}
use Rattle.flat_tables.proofs.LivingMaps.{entry_held}
use Rattle.flat_pages.proofs.Settling.{sized_of}
use Rattle.flat_pages.proofs.EntrySetting.{same_core}
use Rattle.flat_pages.proofs.EmptyMaps.{core_on, less_used, names_itself, names_on, stays_on}

-- the pages as they are
pub fewer_itself : (p : NumberedPages) (file : ℕ) → AreWhole p → AreFewerFiled p p file
fewer_itself p file w = record { pages = names_itself p w; others = λ f ne. refl; maps = refl }

-- fewer of fewer
pub fewer_on : (p q r : NumberedPages) (file : ℕ) → AreFewerFiled p q file → AreFewerFiled q r file → AreFewerFiled p r file
fewer_on p q r file k l = record { pages = names_on p q r k.pages l.pages; others = λ f ne. l.others f ne ∙ k.others f ne; maps = l.maps ∙ k.maps }

-- a page of the file that goes
pub fewer_filed : (p : NumberedPages) → AreWhole p → (file page : ℕ) → AreFewerFiled p (with_file p (file_page file page) None) file
fewer_filed p w file page =
    let f : FilePage ℕ = file_page file page in
    let k = filed_still nat_cmp_total fin.nat_cmp-IsAntisymmetric p f None w in
    record {
      pages = record {
        objects = k.objects;
        named = λ n h. less_used (uses (with_file p f None) n) (uses p n) (omega (arith, uses_filed nat_cmp_total fin.nat_cmp-IsAntisymmetric p f None n)) h;
        page_serials = k.page_serials;
        console_serial = k.console_serial;
        limit = k.limit;
      };
      others = λ g ne. ap (λ m. fin.get m g) (filed_files nat_cmp_total fin.nat_cmp-IsAntisymmetric p f None) ∙ set_elsewhere nat_cmp_total fin.nat_cmp-IsAntisymmetric p f g None (λ e. ne (ap (λ (x : FilePage ℕ). x.file) e));
      maps = filed_maps nat_cmp_total fin.nat_cmp-IsAntisymmetric p f None;
    }

module _ {S : Type 0} (store : StoreMeaning S) (file : ℕ) where
  -- none of its pages
  pub empties_none : (old : S) (tables : MapTables) → AreTold (tables_of (store.homes old) tables) → EmptiesFile store old old tables tables file 0
  empties_none old tables told = record {
    told = λ d fits. (fits, fewer_itself (plain_of (tables_of (store.homes old) tables) d) file (told.whole d fits));
    gone = λ page l. absurd (omega (arith, l));
    rest = λ page l. refl;
    filed = λ f ne. refl;
    maps = refl;
    serials = refl;
    living = refl;
    limit = refl;
    homes = λ k. inl (refl, refl);
    frames = λ none. refl;
    core = same_core _;
    lost = loses_nothing (traffic store old);
    used = keeps_frames (traffic store old);
  }

  -- one more
  pub empties_more : (old now new : S) (tables then_tables tables' : MapTables) (page : ℕ) → AreTold (tables_of (store.homes now) then_tables) → EmptiesFile store old now tables then_tables file page
      → SetsFile store now new then_tables tables' (file_page file page) None → EmptiesFile store old new tables tables' file (page + 1)
  empties_more old now new tables then_tables tables' page told so_far sets = record {
    told = λ d fits.
        (let before = so_far.told d fits in
        let step = sets.told d before.0 in
        let p : NumberedPages = plain_of (tables_of (store.homes now) then_tables) d in (
          step.0,
          fewer_on _ p _ file before.1 (subst (λ (q : NumberedPages). AreFewerFiled p q file) (sym step.1) (fewer_filed p (told.whole d before.0) file page)),
        ));
    gone = λ j l. elim (cases_eq j page) [
      | inl same ↦ ap (λ k. fin.get tables'.files (file_page file k)) same ∙ sets.here
      | inr ne ↦ sets.others (file_page file j) (λ e. ne (ap (λ (x : FilePage ℕ). x.page) e)) ∙ so_far.gone j (omega (arith, l, ne))
    ];
    rest = λ j l. sets.others (file_page file j) (λ e. (let same : j ≡ page = ap (λ (x : FilePage ℕ). x.page) e in omega (arith, same, l))) ∙ so_far.rest j (omega (arith, l));
    filed = λ f ne. sets.filed f (λ e. ne (ap (λ (x : FilePage ℕ). x.file) e)) ∙ so_far.filed f ne;
    maps = sets.maps ∙ so_far.maps;
    serials = sets.serials ∙ so_far.serials;
    living = sets.living ∙ so_far.living;
    limit = sets.limit ∙ so_far.limit;
    homes = λ k. stays_on (so_far.homes k) (sets.homes k) (named_first k);
    frames = λ none. sets.frames (unfiled none (fin.get then_tables.files (file_page file page)) refl) ∙ so_far.frames none;
    core = core_on so_far.core sets.core;
    lost = loses_on (traffic store old) (traffic store now) (traffic store new) so_far.lost sets.lost;
    used = none_on (traffic store old) (traffic store now) (traffic store new) so_far.used sets.used;
  }
    where
      named_first : (k : ℕ) → IsFiled then_tables.files (file_page file page) k → FileHas tables.files file k
      named_first k filed = record { page = page; there = sym (so_far.rest page (omega arith)) ∙ filed }

      unfiled : ((k : ℕ) → FileHas tables.files file k → ⊥) → (o : Option Home) → fin.get then_tables.files (file_page file page) ≡ o → fin.get then_tables.files (file_page file page) ≡ None
      unfiled none None is = is
      unfiled none (Some h) is = absurd (none h.0 (named_first h.0 is))

-- pages of which those of a file went one after another are those without the file
pub fewer_without : (p q : NumberedPages) (file : ℕ) → AreWhole p → AreFewerFiled p q file → ((page : ℕ) → fin.get q.files (file_page file page) ≡ None) → q ≡ without_file p file
fewer_without p q file w fewer gone =
    still_same p q (without_file p file) kept (without_still nat_cmp_total fin.nat_cmp-IsAntisymmetric p file w)
    (fewer.maps ∙ sym (without_maps nat_cmp_total fin.nat_cmp-IsAntisymmetric p file))
    (same_files nat_cmp_total fin.nat_cmp-IsAntisymmetric q.files (other_files p file) (λ f. by f (eqb_tells f.file file)) ∙ sym (without_files nat_cmp_total fin.nat_cmp-IsAntisymmetric p file))
  where
    kept : AreStill p q
    kept = record { objects = fewer.pages.objects; page_serials = fewer.pages.page_serials; console_serial = fewer.pages.console_serial; limit = fewer.pages.limit }

    test : FilePage ℕ → Bool
    test f = not (eq_by_cmp nat_cmp f.file file)

    others : (f : FilePage ℕ) → fin.get (other_files p file) f ≡ cond (test f) (fin.get p.files f) None
    others f = fin.get-retain_keys p.files test f (λ x tied. ap test (sym (filed_apart f x tied)))

    by : (f : FilePage ℕ) → ((nat_eq f.file file ≡ true) × (f.file ≡ file)) ⊎ ((nat_eq f.file file ≡ false) × (f.file ≢ file)) → fin.get q.files f ≡ fin.get (other_files p file) f
    by f (inl e) =
        let tied : eq_by_cmp nat_cmp f.file file ≡ true = same_number f.file file e.1 in
        ap (λ n. fin.get q.files (file_page n f.page)) e.1 ∙ gone f.page ∙ sym (others f ∙ ap (λ b. cond (not b) (fin.get p.files f) None) tied)
      where
        same_number : (m n : ℕ) → m ≡ n → eq_by_cmp nat_cmp m n ≡ true
        same_number m n e = grind (arith, nat_tests, e)
    by f (inr e) =
        let apart : eq_by_cmp nat_cmp f.file file ≡ false = other_number f.file file e.1 in
        fewer.others f e.1 ∙ sym (others f ∙ ap (λ b. cond (not b) (fin.get p.files f) None) apart)
      where
        other_number : (m n : ℕ) → m ≢ n → eq_by_cmp nat_cmp m n ≡ false
        other_number m n ne = grind (arith, nat_tests, ne)

-- all pages of a file went
module _ {S : Type 0} (store : StoreMeaning S) (file : ℕ) (old new : S) (tables tables' : MapTables) (a : AreTables (tables_of (store.homes old) tables)) where
  pub emptied_all : EmptiesFile store old new tables tables' file FILE_PAGES → (page : ℕ) → fin.get tables'.files (file_page file page) ≡ None
  emptied_all k page = elim (cases_lt page FILE_PAGES) [
    | inl l ↦ k.gone page l
    | inr past ↦ k.rest page past ∙ beyond page past (fin.get tables.files (file_page file page)) refl
  ]
    where
      beyond : (page : ℕ) → FILE_PAGES ≤ page → (o : Option Home) → fin.get tables.files (file_page file page) ≡ o → o ≡ None
      beyond page past None is = refl
      beyond page past (Some h) is = absurd (let b = a.filed (file_page file page) h is in omega (arith, b.1, past))

  pub told_dropped : AreTold (tables_of (store.homes old) tables) → (k : EmptiesFile store old new tables tables' file FILE_PAGES) → (d : DrumWords) → FitsHomes (store.homes old) d
      → FitsHomes (store.homes new) d × (plain_of (tables_of (store.homes new) tables') d ≡ without_file (plain_of (tables_of (store.homes old) tables) d) file)
  told_dropped told k d fits = (let r = k.told d fits in (
    r.0,
    fewer_without (plain_of (tables_of (store.homes old) tables) d) (plain_of (tables_of (store.homes new) tables') d) file (told.whole d fits) r.1
        (λ page. get_filed tables'.names.items tables'.files (file_page file page) ∙ ap (option_map (name_of tables'.names.items)) (emptied_all k page)),
  ))

-- a home that files name keeps the name of its page, where files name what they named
name_still : (names names' : List (Option PageName)) (files : PagesOf Home) (at : FilePage ℕ) (h : Home) → fin.get files at ≡ Some h → files_held names' files ≡ files_held names files → name_of names' h ≡ name_of names h
name_still names names' files at h there same =
    let z : Some (name_of names' h) ≡ Some (name_of names h) = ap (option_map (name_of names')) (sym there) ∙ sym (get_filed names' files at) ∙ ap (λ m. fin.get m at) same ∙ get_filed names files at ∙ ap (option_map (name_of names)) there in
    cc z

-- an entry that is emptied, and then set to a page that a file names, is set
module _ {S : Type 0} (store : StoreMeaning S) (old now new : S) (tables then_tables tables' : MapTables) (at : EntryAt) (h : Home) (b : Access) (sound : IsSound store old) (sound_now : IsSound store now)
    (a : AreTables (tables_of (store.homes old) tables)) (a_now : AreTables (tables_of (store.homes now) then_tables)) (filed : HasHome tables.files h)
    (emptied : SetsEntry store old now tables then_tables at Empty) (sets : SetsEntry store now new then_tables tables' at (Page h b)) (q : HeldEntry) (there : held_entry tables.maps.held.items at ≡ Some q) where
  abbrev t : Tables
  t = tables_of (store.homes old) tables

  abbrev mid : Tables
  mid = tables_of (store.homes now) then_tables

  abbrev last : Tables
  last = tables_of (store.homes new) tables'

  same_name : name_of mid.names h ≡ name_of t.names h
  same_name = name_still t.names mid.names t.files filed.at h filed.there (ap (files_held mid.names) (sym emptied.files) ∙ emptied.filed)

  its_name : (n : PageName) × (name_at mid.names h.0 ≡ Some n)
  its_name = filed_named mid a_now filed.at h (ap (λ m. fin.get m filed.at) emptied.files ∙ filed.there)

  told_on : (d : DrumWords) (s : Slot) → slot_of t.maps at ≡ Some s → FitsHomes t.places d → FitsHomes last.places d × (plain_of last d ≡ entry_put (plain_of t d) s (entry_of t.names (Page h b)))
  told_on d s is fits =
      let first = emptied.told d s is fits in
      let slot_still = ap (option_map (λ (f : ForkName). record { fork = f; page = at.page })) (ap (λ (ms : List HeldMap). fork_at ms at.map) emptied.maps ∙ fork_set t.maps at Empty at.map) ∙ is in
      let second = sets.told d s slot_still first.0 in
      let p : NumberedPages = plain_of t d in
      let e : MapEntry = entry_of t.names (Page h b) in
      let n = its_name in
      let named : (m : PageName) → page_in e ≡ Some m → nat_lt 0 (uses (entry_put p s entry.Empty) m) ≡ true = λ m k.
      (let same : n.0 ≡ m = (let z : Some n.0 ≡ Some m = ap (λ (o : Option PageName). Some (unwrap_or o nobody)) (sym n.1) ∙ ap Some same_name ∙ k in cc z) in
      ap (λ (r : NumberedPages). nat_lt 0 (uses r m)) (sym first.1) ∙ ap (nat_lt 0) (uses_home mid a_now d (sized_of mid.places d first.0 sound_now.pages) h.0 m (n.1 ∙ ap Some same)) ∙ sym (a_now.shared h.0) ∙ ap is_some n.1) in (
        second.0,
        second.1 ∙ (λ i. entry_put (first.1 i) s (entry.Names (same_name i) b))
            ∙ entry_again p (tables_whole t a d (sized_of t.places d fits sound.pages)) s (entry_of t.names q) entry.Empty e (entry_held t.names t.maps a.held.once at s is ∙ ap (option_map (entry_of t.names)) there) refl named,
      )

  nothing_named : (k : ℕ) → NamesHome mid.maps at k → ⊥
  nothing_named k n = (let z : Some Empty ≡ Some (Page (record { 0 = k }) n.access) = sym (ap (λ (ms : List HeldMap). held_entry ms at) emptied.maps ∙ entry_same t.maps at Empty q there) ∙ n.is in cc z)

  pub sets_on : SetsEntry store old new tables tables' at (Page h b)
  sets_on = record {
    told = told_on;
    maps = sets.maps ∙ ap (λ (ms : List HeldMap). with_entry ms at (Page h b)) emptied.maps ∙ entry_twice t.maps at Empty (Page h b);
    files = sets.files ∙ emptied.files;
    filed = sets.filed ∙ emptied.filed;
    serials = sets.serials ∙ emptied.serials;
    living = sets.living ∙ emptied.living;
    limit = sets.limit ∙ emptied.limit;
    homes = λ k. stays_on (emptied.homes k) (sets.homes k) (λ now. absurd (nothing_named k now));
    untouched = λ none. sets.untouched nothing_named ∙ emptied.untouched none;
    core = core_on emptied.core sets.core;
    lost = loses_on (traffic store old) (traffic store now) (traffic store new) emptied.lost sets.lost;
    used = none_on (traffic store old) (traffic store now) (traffic store new) emptied.used sets.used;
  }

-- a page of a file that was dropped, and then set, is set
module _ {S : Type 0} (store : StoreMeaning S) (old now new : S) (tables then_tables tables' : MapTables) (f : FilePage ℕ) (h : Home) (sound : IsSound store old) (sound_now : IsSound store now)
    (a : AreTables (tables_of (store.homes old) tables)) (a_now : AreTables (tables_of (store.homes now) then_tables)) (name : PageName) (named : name_at then_tables.names.items h.0 ≡ Some name)
    (dropped : SetsFile store old now tables then_tables f None) (sets : SetsFile store now new then_tables tables' f (Some h)) where
  abbrev u : Tables
  u = tables_of (store.homes old) tables

  abbrev between : Tables
  between = tables_of (store.homes now) then_tables

  abbrev after : Tables
  after = tables_of (store.homes new) tables'

  old_name : name_at u.names h.0 ≡ Some name
  old_name = elim (dropped.homes h.0) [
    | inl stays ↦ sym stays.1 ∙ named
    | inr given ↦ absurd (let z : None ≡ Some name = sym given.1 ∙ named in cc z)
  ]

  told_filed : (d : DrumWords) → FitsHomes u.places d → FitsHomes after.places d × (plain_of after d ≡ with_file (plain_of u d) f (Some (name_of u.names h)))
  told_filed d fits =
      let first = dropped.told d fits in
      let second = sets.told d first.0 in
      let p : NumberedPages = plain_of u d in
      let new_name : name_of between.names h ≡ name = ap (λ (o : Option PageName). unwrap_or o nobody) named in
      let was_name : name_of u.names h ≡ name = ap (λ (o : Option PageName). unwrap_or o nobody) old_name in
      let there : nat_lt 0 (uses (with_file p f None) name) ≡ true =
      ap (λ (r : NumberedPages). nat_lt 0 (uses r name)) (sym first.1) ∙ ap (nat_lt 0) (uses_home between a_now d (sized_of between.places d first.0 sound_now.pages) h.0 name named) ∙ sym (a_now.shared h.0) ∙ ap is_some named in (
        second.0,
        second.1 ∙ (λ i. with_file (first.1 i) f (Some (new_name i)))
            ∙ filed_again nat_cmp_total fin.nat_cmp-IsAntisymmetric p (tables_whole u a d (sized_of u.places d fits sound.pages)) f name there
            ∙ ap (λ n. with_file p f (Some n)) (sym was_name),
      )

  pub files_on : SetsFile store old new tables tables' f (Some h)
  files_on = record {
    told = told_filed;
    here = sets.here;
    others = λ g ne. sets.others g ne ∙ dropped.others g ne;
    filed = λ g ne. sets.filed g ne ∙ dropped.filed g ne;
    maps = sets.maps ∙ dropped.maps;
    serials = sets.serials ∙ dropped.serials;
    living = sets.living ∙ dropped.living;
    limit = sets.limit ∙ dropped.limit;
    homes = λ k. stays_on (dropped.homes k) (sets.homes k) (λ now. absurd (let z : None ≡ Some (record { 0 = k }) = sym dropped.here ∙ now in cc z));
    frames = λ none. sets.frames dropped.here ∙ dropped.frames none;
    core = core_on dropped.core sets.core;
    lost = loses_on (traffic store old) (traffic store now) (traffic store new) dropped.lost sets.lost;
    used = none_on (traffic store old) (traffic store now) (traffic store new) dropped.used sets.used;
  }
