-- A page of a file that is set: the tables, what the pages are then, and what is in frames.
use Rattle.std.proofs.Common.{◌≡◌, ◌≢◌, inl, inr, ℕ, suc, ◌+◌, ◌-◌, ◌<◌, ◌≤◌, List, [], ◌∷◌, Option, None, Some, true, false, refl, sym, ◌∙◌, ap, subst, arith, length, is_some}
use Rattle.std.specs.Prelude.{nat_lt, slice_set}
use Rattle.std.specs.Option.{option_map, option_map_or}
use Rattle.std.specs.Cmp.{nat_cmp_total}
use Rattle.std.specs.FinMap as fin
use Rattle.std.proofs.lemmas.Bool.{cases_eq, cases_lt}
use Rattle.std.proofs.lemmas.List.{get_or_past, length-set}
use Rattle.machine_names.specs.declared.names.ForkName.{ForkName}
use Rattle.machine_names.specs.declared.names.PageName.{PageName}
use Rattle.machine_names.specs.declared.names.Access.{Access}
use Rattle.machine_names.specs.declared.names.TheConstants.{MOST_FILES, FILE_PAGES}
use Rattle.machine_names.specs.Orders.{FilePage}
use Rattle.page_homes.specs.declared.homes.Home.{Home}
use Rattle.page_contracts.specs.DrumWords.{DrumWords}
use Rattle.page_contracts.specs.Pages.{Scene, StaysInCore}
use Rattle.page_contracts.specs.Stores.{StoreMeaning, IsSound, IsFreed, Loses, RenewsNone, FitsHomes, free, place, content, traffic}
use Rattle.page_contracts.proofs.Losing.{freed_none, keeps_frames, loses_freed, loses_nothing}
use Rattle.plain_pages.specs.FilePages.{files_with, with_file}
use Rattle.plain_pages.proofs.Kept.{still_same}
use Rattle.plain_pages.proofs.FilesKept.{filed_still, filed_maps, filed_files}
use Rattle.flat_tables.specs.declared.held_entry.EntryAt.{EntryAt}
use Rattle.flat_tables.specs.declared.held_entry.HeldEntry.{HeldEntry}
use Rattle.flat_tables.specs.declared.held_entry.HeldEntry.TheVariants.{Empty, Page}
use Rattle.flat_tables.specs.declared.held_map.HeldMap.{HeldMap}
use Rattle.flat_tables.specs.declared.map_tables.MapTables.{MapTables}
use Rattle.flat_tables.specs.HeldMaps.{fork_at, held_entry, name_at, name_of, entry_of, entries_of, maps_from, maps_held, points_at, entries_total}
use Rattle.flat_tables.specs.SlotTables.{Tables, plain_of, files_held, is_at, filed_total, share_of, AreTables}
use Rattle.flat_tables.specs.SlotTouches.{scene_of}
use Rattle.flat_pages.specs.SlotMeaning.{AreTold}
use Rattle.flat_tables.specs.TableSteps.{tables_of, joined_shares, entry_joined, file_joined, file_left, file_freed}
use Rattle.flat_tables.specs.SlotSteps.{HomeStays, SetsEntry}
use Rattle.flat_pages.specs.FileSteps.{IsFiled, SetsFile}
use Rattle.flat_tables.proofs.AgreedTables.{agreed, named_in}
use Rattle.flat_tables.proofs.HeldEntries.{total_with, total_le}
use Rattle.flat_tables.proofs.FiledHomes.{at_here, at_itself, at_other, filed_more, filed_less, filed_within, filed_without, filed_some, files_still, get_filed, held_insert, held_remove, homes_with, with_here, with_elsewhere, without_none}
use Rattle.flat_pages.proofs.FileCounts.{joined_is, parted_is}
use Rattle.flat_pages.proofs.Agreement.{tables_whole}
use Rattle.flat_tables.proofs.Taking.{held_set, living_set, positive_same}
use Rattle.flat_pages.proofs.Told.{map_same, entry_still}
use Rattle.flat_pages.proofs.Settling.{sized_of, content_other, fits_set}
use Rattle.flat_pages.proofs.Telling.{tables_told}
use Rattle.flat_pages.proofs.Leaving.{pages_still, name_kept, named_of, file_freed_tables}
use Rattle.flat_pages.proofs.GivenUp.{gone_not, freed_stays, freed_core}
use Rattle.flat_pages.proofs.EntrySetting.{sets_entry, same_core}

-- the page of a home is named once more
module _ (t : Tables) (a : AreTables t) (h : Home) (named : is_some (name_at t.names h.0) ≡ true) where
  pub join_below : h.0 < length t.shares
  join_below = elim (cases_lt h.0 (length t.names)) [
    | inl l ↦ omega (arith, l, a.named, a.counted)
    | inr past ↦ absurd (let z : false ≡ true = sym (ap is_some (get_or_past t.names h.0 None past)) ∙ named in cc z)
  ]

  joined : (k : ℕ) → share_of (joined_shares t.shares h) k ≡ share_of t.shares k + is_at k h
  joined = joined_is t.shares h join_below

  joined_shared : (k : ℕ) → is_some (name_at t.names k) ≡ nat_lt 0 (share_of (joined_shares t.shares h) k)
  joined_shared k = a.shared k ∙ positive_same (share_of t.shares k) (share_of (joined_shares t.shares h) k) (λ z. omega (arith, joined k, z)) (λ z. elim (cases_eq h.0 k) [
    | inl e ↦ absurd (none_is (share_of t.shares k) (sym (a.shared k) ∙ ap (λ j. is_some (name_at t.names j)) (sym e) ∙ named) z)
    | inr ne ↦ omega (arith, joined k, z, at_other k h ne)
  ]) where
    none_is : (n : ℕ) → nat_lt 0 n ≡ true → n ≡ 0 → ⊥
    none_is n some z = (let y : false ≡ true = sym (ap (nat_lt 0) z) ∙ some in cc y)

  -- by an entry
  module _ (at : EntryAt) (b : Access) (there : held_entry t.maps at ≡ Some Empty) (lives : fork_at t.maps at.map ≢ None) where
    pub entry_joined_tables : AreTables (entry_joined t at h b)
    entry_joined_tables =
        agreed (entry_joined t at h b) (named_in t a)
        (record {
          held = held_set t.maps a.held at Empty (Page h b) there (λ l c e. absurd (cc e)) (λ e. absurd (lives e));
          counted = length-set t.shares h.0 (share_of t.shares h.0 + 1) ∙ a.counted;
          shares = λ k. omega (arith, joined k, a.shares k, total_with t.maps at (Page h b) (points_at k) Empty there);
          filed = a.filed;
          shared = joined_shared;
        })
        (a.living ∙ sym (living_set t.maps a.held at Empty (Page h b) there (λ l c e. absurd (cc e)) (λ e. absurd (lives e)))) a.room

  -- by a file
  module _ (f : FilePage ℕ) (bounds : (f.file < MOST_FILES) × (f.page < FILE_PAGES)) (none : fin.get t.files f ≡ None) where
    pub file_joined_tables : AreTables (file_joined t f h)
    file_joined_tables =
        agreed (file_joined t f h) (named_in t a)
        (record {
          held = a.held;
          counted = length-set t.shares h.0 (share_of t.shares h.0 + 1) ∙ a.counted;
          shares = λ k. omega (arith, joined k, a.shares k, filed_more t.files f h k none);
          filed = filed_within t.files f h bounds a.filed;
          shared = joined_shared;
        }) a.living a.room

-- a page that a file names keeps another name
module _ (t : Tables) (a : AreTables t) (f : FilePage ℕ) (h : Home) (there : fin.get t.files f ≡ Some h) where
  pub filed_share : 1 ≤ share_of t.shares h.0
  filed_share = omega (arith, filed_some t.files f h there, a.shares h.0)

  parted : (k : ℕ) → share_of (slice_set t.shares h.0 (share_of t.shares h.0 - 1)) k + is_at k h ≡ share_of t.shares k
  parted = parted_is t.shares h filed_share

  pub file_left_tables : share_of t.shares h.0 ≢ 1 → AreTables (file_left t f h)
  file_left_tables stays =
      agreed (file_left t f h) (named_in t a)
      (record {
        held = a.held;
        counted = length-set t.shares h.0 (share_of t.shares h.0 - 1) ∙ a.counted;
        shares = λ k. omega (arith, parted k, a.shares k, filed_less t.files f h k there);
        filed = filed_without t.files f a.filed;
        shared = λ k. a.shared k ∙ positive_same (share_of t.shares k) (share_of (slice_set t.shares h.0 (share_of t.shares h.0 - 1)) k) (back k) (λ z. omega (arith, parted k, z));
      }) a.living a.room
    where
      back : (k : ℕ) → share_of (slice_set t.shares h.0 (share_of t.shares h.0 - 1)) k ≡ 0 → share_of t.shares k ≡ 0
      back k z = elim (cases_eq h.0 k) [
        | inl e ↦ absurd (stays (omega (arith, parted k, z, at_here k h e, ap (share_of t.shares) e)))
        | inr ne ↦ omega (arith, parted k, z, at_other k h ne)
      ]

-- maps whose entries stand for what they stood for
pub maps_alike : (names names' : List (Option PageName)) (maps : List HeldMap) → ((b : EntryAt) (x : HeldEntry) → held_entry maps b ≡ Some x → entry_of names' x ≡ entry_of names x) → maps_held names' maps ≡ maps_held names maps
unfolding maps_held
maps_alike names names' [] same = refl
maps_alike names names' (m ∷ maps) same =
    let es : entries_of names' m ≡ entries_of names m = map_same (entry_of names') (entry_of names) m.entries (λ page x h. same (record { map = 0; page = page }) x h) in
    let rest : maps_from names' maps ≡ maps_from names maps = maps_alike names names' maps (λ b x h. same (record { map = suc b.map; page = b.page }) x h) in
    λ i. option_map_or (λ (f : ForkName). fin.insert (rest i) f (es i)) m.fork (rest i)

module _ {S : Type 0} (store : StoreMeaning S) (old new : S) (sound_old : IsSound store old) (sound_new : IsSound store new) (tables tables' : MapTables) (f : FilePage ℕ) where
  abbrev t : Tables
  t = tables_of (store.homes old) tables

  abbrev t' : Tables
  t' = tables_of (store.homes new) tables'

  held_with : (o : Option Home) (d : DrumWords) → files_held t.names (homes_with t.files f o) ≡ files_with (plain_of t d) f (option_map (name_of t.names) o)
  held_with None d = held_remove t.names t.files f
  held_with (Some h) d = held_insert t.names t.files f h

  -- what names and words are left are those that were
  sets_file : (o : Option Home) → AreTables t → AreTables t' → t'.maps ≡ t.maps → t'.serials ≡ t.serials → t'.living ≡ t.living → t'.limit ≡ t.limit
      → ((k : ℕ) (n : PageName) → name_at t'.names k ≡ Some n → name_at t.names k ≡ Some n)
      → ((d : DrumWords) (k : ℕ) (n : PageName) → name_at t'.names k ≡ Some n → content t'.places d k ≡ content t.places d k)
      → ((b : EntryAt) (x : HeldEntry) → held_entry t.maps b ≡ Some x → entry_of t'.names x ≡ entry_of t.names x)
      → t'.files ≡ homes_with t.files f o → files_held t'.names t'.files ≡ files_held t.names t'.files
      → ((d : DrumWords) → FitsHomes t.places d → FitsHomes t'.places d)
      → ((k : ℕ) → HomeStays t t' k (IsFiled t.files f k))
      → (fin.get t.files f ≡ None → store.spare new ≡ store.spare old)
      → StaysInCore (scene_of t (store.spare old)) (scene_of t' (store.spare new)) 0
      → Loses (traffic store old) (traffic store new)
      → RenewsNone (traffic store old) (traffic store new)
      → SetsFile store old new tables tables' f o
  sets_file o a a' maps serials living limit names words entries files alike fits homes frames core lost used = record {
    told = λ d fit. (
      fits d fit,
      (let w = tables_whole t a d (sized_of t.places d fit sound_old.pages) in
          still_same (plain_of t d) (plain_of t' d) (with_file (plain_of t d) f (option_map (name_of t.names) o))
          (pages_still t t' a a' d (sized_of t.places d fit sound_old.pages) (sized_of t'.places d (fits d fit) sound_new.pages) names (words d) serials limit)
          (filed_still nat_cmp_total fin.nat_cmp-IsAntisymmetric (plain_of t d) f (option_map (name_of t.names) o) w)
          (ap (maps_held t'.names) maps ∙ maps_alike t.names t'.names t.maps entries ∙ sym (filed_maps nat_cmp_total fin.nat_cmp-IsAntisymmetric (plain_of t d) f (option_map (name_of t.names) o)))
          (alike ∙ ap (files_held t.names) files ∙ held_with o d ∙ sym (filed_files nat_cmp_total fin.nat_cmp-IsAntisymmetric (plain_of t d) f (option_map (name_of t.names) o)))),
    );
    here = ap (λ m. fin.get m f) files ∙ with_here t.files f o;
    others = λ g ne. ap (λ m. fin.get m g) files ∙ with_elsewhere t.files f g o ne;
    filed = λ g ne. ap (λ m. fin.get m g) (alike ∙ ap (files_held t.names) files) ∙ get_filed t.names (homes_with t.files f o) g ∙ ap (option_map (name_of t.names)) (with_elsewhere t.files f g o ne) ∙ sym (get_filed t.names t.files g);
    maps = maps;
    serials = serials;
    living = living;
    limit = limit;
    homes = homes;
    frames = frames;
    core = core;
    lost = lost;
    used = used;
  }

  -- no page comes or goes
  module _ (same_store : new ≡ old) (u : Tables) (is : t' ≡ u) (names : u.names ≡ t.names) (places : u.places ≡ t.places) where
    names_are : t'.names ≡ t.names
    names_are = ap (λ (x : Tables). x.names) is ∙ names

    places_are : t'.places ≡ t.places
    places_are = ap (λ (x : Tables). x.places) is ∙ places

    scenes : scene_of t' (store.spare new) ≡ scene_of t (store.spare old)
    scenes = λ i. scene_of (record t { places = places_are i; names = names_are i }) (store.spare (same_store i))

    same_names_file : (o : Option Home) → AreTables t → AreTables u → u.maps ≡ t.maps → u.serials ≡ t.serials → u.living ≡ t.living → u.limit ≡ t.limit → u.files ≡ homes_with t.files f o → AreTables t' × AreTold t' × SetsFile store old new tables tables' f o
    same_names_file o a agrees maps serials living limit files =
        let a' : AreTables t' = subst AreTables (sym is) agrees in (
          a',
          tables_told t' a' sound_new.pages,
          sets_file o a a' (ap (λ (x : Tables). x.maps) is ∙ maps) (ap (λ (x : Tables). x.serials) is ∙ serials) (ap (λ (x : Tables). x.living) is ∙ living) (ap (λ (x : Tables). x.limit) is ∙ limit)
              (λ k n h. ap (λ ns. name_at ns k) (sym names_are) ∙ h)
              (λ d k n h. ap (λ ps. content ps d k) places_are)
              (λ b x h. ap (λ ns. entry_of ns x) names_are)
              (ap (λ (x : Tables). x.files) is ∙ files)
              (ap (λ ns. files_held ns t'.files) names_are)
              (λ d fit. subst (λ ps. FitsHomes ps d) (sym places_are) fit)
              (λ k. inl (ap (λ ps. place ps k) places_are, ap (λ ns. name_at ns k) names_are))
              (λ none. ap store.spare same_store)
              (subst (λ (x : Scene). StaysInCore (scene_of t (store.spare old)) x 0) (sym scenes) (same_core (scene_of t (store.spare old))))
              (subst (λ (x : S). Loses (traffic store old) (traffic store x)) (sym same_store) (loses_nothing (traffic store old)))
              (subst (λ (x : S). RenewsNone (traffic store old) (traffic store x)) (sym same_store) (keeps_frames (traffic store old))),
        )

  pub file_joined_step : AreTables t → new ≡ old → (h : Home) → is_some (name_at t.names h.0) ≡ true → (f.file < MOST_FILES) × (f.page < FILE_PAGES) → fin.get t.files f ≡ None → t' ≡ file_joined t f h → AreTables t' × AreTold t' × SetsFile store old new tables tables' f (Some h)
  file_joined_step a same h named bounds none is = same_names_file same (file_joined t f h) is refl refl (Some h) a (file_joined_tables t a h named f bounds none) refl refl refl refl refl

  pub file_left_step : AreTables t → new ≡ old → (h : Home) → fin.get t.files f ≡ Some h → share_of t.shares h.0 ≢ 1 → t' ≡ file_left t f h → AreTables t' × AreTold t' × SetsFile store old new tables tables' f None
  file_left_step a same h there stays is = same_names_file same (file_left t f h) is refl refl None a (file_left_tables t a f h there stays) refl refl refl refl refl

  -- a file that has no such page
  pub file_none_step : AreTables t → new ≡ old → fin.get t.files f ≡ None → t' ≡ t → SetsFile store old new tables tables' f None
  file_none_step a same none is = (same_names_file same t is refl refl None a a refl refl refl refl (without_none t.files f none)).2

  -- the page that the file alone named is given up
  pub file_freed_step : AreTables t → (h : Home) → fin.get t.files f ≡ Some h → share_of t.shares h.0 ≡ 1 → IsFreed store h.0 old new → t' ≡ file_freed t f h → AreTables t' × AreTold t' × SetsFile store old new tables tables' f None
  file_freed_step a h there one given_up is =
      let u : Tables = file_freed t f h in
      let a' : AreTables t' = subst AreTables (sym is) (file_freed_tables t a h one f there) in (
        a',
        tables_told t' a' sound_new.pages,
        sets_file None a a' (ap (λ (x : Tables). x.maps) is) (ap (λ (x : Tables). x.serials) is) (ap (λ (x : Tables). x.living) is) (ap (λ (x : Tables). x.limit) is)
            (λ k n e. named_of t a h one k n (ap (λ (x : Tables). name_at x.names k) (sym is) ∙ e))
            (λ d k n e. ap (λ (x : Tables). content x.places d k) is ∙ content_other t.places d h.0 k free (gone_not t a h one k n (ap (λ (x : Tables). name_at x.names k) (sym is) ∙ e)))
            (λ b x held. ap (λ (y : Tables). entry_of y.names x) is ∙ entry_still t.names u.names h.0 x (name_kept t a h one) (omega (arith, total_le (points_at h.0) t.maps b x refl held, no_entry)))
            (ap (λ (x : Tables). x.files) is)
            ((λ i. files_held (is i).names (is i).files) ∙ files_still t.names u.names u.files h.0 (omega (arith, none_left)) (name_kept t a h one) ∙ ap (files_held t.names) (ap (λ (x : Tables). x.files) (sym is)))
            (λ d fit. subst (λ (x : Tables). FitsHomes x.places d) (sym is) (fits_set t.places d h.0 free fit))
            (λ k. subst (λ (x : Tables). HomeStays t x k (IsFiled t.files f k)) (sym is) (freed_stays t a h one (IsFiled t.files f) there k))
            (λ none. absurd (let z : Some h ≡ None = sym there ∙ none in cc z))
            (subst (λ (x : Tables). StaysInCore (scene_of t (store.spare old)) (scene_of x (store.spare new)) 0) (sym is) (freed_core store old new t a h one given_up))
            (loses_freed store old new h.0 given_up) (freed_none store old new h.0 given_up),
      )
    where
      no_entry : entries_total (points_at h.0) t.maps ≡ 0
      no_entry = omega (arith, a.shares h.0, one, filed_some t.files f h there)

      none_left : filed_total h.0 (fin.remove t.files f) ≡ 0
      none_left = omega (arith, a.shares h.0, one, filed_less t.files f h h.0 there, at_itself h)

-- an entry of no page becomes one of a page that has another name
module _ {S : Type 0} (store : StoreMeaning S) (old new : S) (sound_old : IsSound store old) (sound_new : IsSound store new) (tables tables' : MapTables) (at : EntryAt) (h : Home) (b : Access) where
  abbrev v : Tables
  v = tables_of (store.homes old) tables

  abbrev v' : Tables
  v' = tables_of (store.homes new) tables'

  pub entry_joined_step : AreTables v → new ≡ old → held_entry v.maps at ≡ Some Empty → fork_at v.maps at.map ≢ None → is_some (name_at v.names h.0) ≡ true → v' ≡ entry_joined v at h b → AreTables v' × AreTold v' × SetsEntry store old new tables tables' at (Page h b)
  entry_joined_step a same there lives named is =
      let a' : AreTables v' = subst AreTables (sym is) (entry_joined_tables v a h named at b there lives) in
      let names_are : v'.names ≡ v.names = ap (λ (x : Tables). x.names) is in
      let places_are : v'.places ≡ v.places = ap (λ (x : Tables). x.places) is in
      let files_are : v'.files ≡ v.files = ap (λ (x : Tables). x.files) is in
      let scenes : scene_of v' (store.spare new) ≡ scene_of v (store.spare old) = λ i. scene_of (record v { places = places_are i; names = names_are i }) (store.spare (same i)) in (
        a',
        tables_told v' a' sound_new.pages,
        sets_entry store old new sound_old sound_new tables tables' at Empty (Page h b) a a' there (ap (λ (x : Tables). x.maps) is) files_are (λ i. files_held (names_are i) (files_are i)) (ap (λ (x : Tables). x.serials) is) (ap (λ (x : Tables). x.living) is) (ap (λ (x : Tables). x.limit) is)
            (λ k n e. ap (λ ns. name_at ns k) (sym names_are) ∙ e)
            (λ d k n e. ap (λ ps. content ps d k) places_are)
            (λ c x ne e. ap (λ ns. entry_of ns x) names_are)
            (ap (λ ns. entry_of ns (Page h b)) names_are)
            (λ d fit. subst (λ ps. FitsHomes ps d) (sym places_are) fit)
            (λ k. inl (ap (λ ps. place ps k) places_are, ap (λ ns. name_at ns k) names_are))
            (λ none. same)
            (subst (λ (x : Scene). StaysInCore (scene_of v (store.spare old)) x 0) (sym scenes) (same_core (scene_of v (store.spare old))))
            (subst (λ (x : S). Loses (traffic store old) (traffic store x)) (sym same) (loses_nothing (traffic store old)))
            (subst (λ (x : S). RenewsNone (traffic store old) (traffic store x)) (sym same) (keeps_frames (traffic store old))),
      )
