-- A page of a file that is set: each step does what is said of it.
use Rattle.std.proofs.Common.{◌≡◌, ◌≢◌, inl, inr, ℕ, ◌<◌, ◌≤◌, List, true, false, cond, Option, None, Some, is_some, length, refl, sym, ◌∙◌, ap, subst, arith}
use Rattle.std.specs.Prelude.{slice_set, nat_lt}
use Rattle.std.specs.FinMap as fin
use Rattle.std.specs.Cmp.{Equal-is, nat_cmp_total}
use Rattle.std.specs.Ordering.{eq_by_cmp, nat_cmp}
use Rattle.std.specs.Option.{option_and_then, option_map, unwrap_or}
use Rattle.std.proofs.Math.Path.{fun_ext}
use Rattle.std.proofs.lemmas.Bool.{cases_eq, cases_lt}
use Rattle.std.proofs.lemmas.List.{get_or-set_same, get_or-set_other, get_or_past, length-set}
use Rattle.machine_names.specs.declared.names.ForkName.{ForkName}
use Rattle.machine_names.specs.declared.names.PageName.{PageName}
use Rattle.machine_names.specs.Orders.{FilePage, file_page_cmp}
use Rattle.page_homes.specs.declared.homes.Home.{Home}
use Rattle.page_contracts.specs.DrumWords.{DrumWords}
use Rattle.page_contracts.specs.Pages.{Scene, StaysInCore}
use Rattle.page_contracts.specs.Stores.{HomePlace, IsFreed, IsSound, StoreMeaning, away_at, away_home, free, place, traffic}
use Rattle.page_contracts.proofs.Losing.{freed_none, keeps_frames, loses_freed, loses_nothing, loses_on, none_on}
use Rattle.plain_pages.specs.PlainPages.{NumberedPages}
use Rattle.plain_pages.specs.FilePages.{with_file}
use Rattle.plain_pages.specs.Room.{uses}
use Rattle.plain_pages.proofs.FilesKept.{filed_again}
use Rattle.share_table.specs.declared.shares.Share.{Share}
use Rattle.share_table.specs.Shares.{page_at}
use Rattle.flat_pages.specs.FileSteps.{IsFiled}
use Rattle.flat_tables.specs.SlotTables.{files_held, filed_total}
use Rattle.flat_tables.specs.SlotTouches.{home_named}
use Rattle.flat_pages.proofs.Agreement.{tables_whole, uses_home}
use Rattle.flat_pages.proofs.EmptyMaps.{core_on, stays_on}
use Rattle.flat_pages.proofs.EntrySetting.{same_core}
use Rattle.flat_tables.proofs.FiledHomes.{at_itself, filed_apart, filed_less, filed_order, filed_some, files_still, get_filed, homes_with, with_elsewhere, with_here, without_none}
use Rattle.flat_pages.proofs.Telling.{named_home}
use Rattle.flat_pages.proofs.Touching.{home_is}
use Rattle.pager_walk.specs.MapPages.{index_of, root_at}
use Rattle.pager_walk.specs.PagedMaps.{map_away, name_at, name_of, nobody}
use Rattle.pager_walk.proofs.NumberedMaps.{index_fork}
use Rattle.paged_tables.specs.FiledSteps.{PageStays, SetsFiled, SharesPage, had, got}
use Rattle.paged_tables.specs.FiledTables.{filed_freed, filed_joined, filed_left, with_share}
use Rattle.paged_tables.specs.NameCounts.{share_at}
use Rattle.paged_tables.specs.PagedTables.{Beside, AreKept, FitsPages, in_memory_over, plain_over}
use Rattle.paged_tables.specs.PagedTouches.{names_at, scene_over}
use Rattle.flat_pages.proofs.FileCounts.{InRange}
use Rattle.paged_tables.proofs.FiledKept.{joined_kept, share_kept}
use Rattle.paged_tables.proofs.FiledShares.{name_below}
use Rattle.paged_tables.proofs.FilingGone.{gone_told}
use Rattle.paged_tables.proofs.FilingTold.{filed_plain, joined_told, left_told, share_told}
use Rattle.paged_tables.proofs.Homed.{sized}
use Rattle.paged_tables.proofs.Naming.{less_here, less_other, less_was}
use Rattle.paged_tables.proofs.Touched.{named_apart}

module _ {S : Type 0} (store : StoreMeaning S) (old : S) (b : Beside) (kept : AreKept b (store.homes old)) (sound : IsSound store old) (f : FilePage ℕ) where
  -- no page comes or goes
  still : (b' : Beside) (o : Option Home) → ((d : DrumWords) → FitsPages b (store.homes old) d → FitsPages b' (store.homes old) d × (plain_over b' (store.homes old) d ≡ with_file (plain_over b (store.homes old) d) f (option_map (name_of b.tables.names) o)))
      → b'.files ≡ homes_with b.files f o → b'.tables.maps ≡ b.tables.maps → b'.tables.names ≡ b.tables.names → b'.serials ≡ b.serials → b'.living ≡ b.living → b'.limit ≡ b.limit → SetsFiled store old old b b' f o
  still b' o told files maps names serials living limit = record {
    told = told;
    here = ap (λ m. fin.get m f) files ∙ with_here b.files f o;
    others = λ g ne. ap (λ m. fin.get m g) files ∙ with_elsewhere b.files f g o ne;
    filed = λ g ne. (λ i. fin.get (files_held (names i) (files i)) g) ∙ get_filed b.tables.names (homes_with b.files f o) g ∙ ap (option_map (name_of b.tables.names)) (with_elsewhere b.files f g o ne) ∙ sym (get_filed b.tables.names b.files g);
    maps = maps;
    serials = serials;
    living = living;
    limit = limit;
    homes = λ k. inl (refl, ap (λ ns. name_at ns k) names);
    frames = λ none. refl;
    away = aways;
    core = subst (λ (x : Scene). StaysInCore (scene_over b (store.homes old) (store.spare old)) x 0) (sym scenes) (same_core (scene_over b (store.homes old) (store.spare old)));
    lost = loses_nothing (traffic store old);
    used = keeps_frames (traffic store old);
  }
    where
      aways : map_away b'.tables (store.homes old) ≡ map_away b.tables (store.homes old)
      aways = λ i f. option_and_then (λ k. away_at (store.homes old) (root_at (maps i) k).0) (index_of (maps i) f)

      scenes : scene_over b' (store.homes old) (store.spare old) ≡ scene_over b (store.homes old) (store.spare old)
      scenes = λ i. record { map_away = aways i; page_away = λ n. option_and_then (away_at (store.homes old)) (home_named (names i) n); free_frames = store.spare old }

  -- what is told where files name what they named
  same_told : (o : Option Home) → b.files ≡ homes_with b.files f o → (d : DrumWords) → FitsPages b (store.homes old) d → plain_over b (store.homes old) d ≡ with_file (plain_over b (store.homes old) d) f (option_map (name_of b.tables.names) o)
  same_told o files d fits =
      let u = in_memory_over b (store.homes old) d in
      let s = sized b (store.homes old) kept sound.pages d fits in
      filed_plain u u fits.agree fits.agree f o d s s refl refl refl (λ k n e. e) (λ k n e. refl) (λ e x there. refl) files refl

  -- a file that has no such page
  pub none_step : fin.get b.files f ≡ None → SetsFiled store old old b b f None
  none_step none = still b None (λ d fits. (fits, same_told None (without_none b.files f none) d fits)) (without_none b.files f none) refl refl refl refl refl

  -- one that has this page there
  pub same_step : (h : Home) → fin.get b.files f ≡ Some h → SetsFiled store old old b b f (Some h)
  same_step h there = still b (Some h) (λ d fits. (fits, same_told (Some h) inserted d fits)) inserted refl refl refl refl refl
    where
      inserted : b.files ≡ fin.insert b.files f h
      inserted = fin.same_map filed_order filed_apart b.files (fin.insert b.files f h) (λ g. sym (fin.get-insert filed_order b.files f h g ∙ by g (eq_by_cmp (file_page_cmp nat_cmp) g f) refl))
        where
          by : (g : FilePage ℕ) (c : _) → eq_by_cmp (file_page_cmp nat_cmp) g f ≡ c → cond c (Some h) (fin.get b.files g) ≡ fin.get b.files g
          by g true tied = sym (ap (fin.get b.files) (filed_apart g f ((Equal-is (file_page_cmp nat_cmp g f)).0 tied)) ∙ there)
          by g false tied = refl

  -- the page keeps another name
  pub left_step : (h : Home) → fin.get b.files f ≡ Some h → 2 ≤ names_at b h.0 → SetsFiled store old old b (filed_left b f h) f None
  left_step h there two = still (filed_left b f h) None (λ d fits. left_told b (store.homes old) kept sound.pages d fits f h there two) refl refl refl refl refl refl

  -- a file names a page that has a share
  pub joined_step : (h : Home) (s : Share) → share_at b.shared h.0 ≡ Some s → fin.get b.files f ≡ None → InRange f → SetsFiled store old old b (filed_joined b f h) f (Some h)
  joined_step h s is none bounds = still (filed_joined b f h) (Some h) (λ d fits. joined_told b (store.homes old) kept sound.pages d fits f h s is none bounds) refl refl refl refl refl refl

  -- a page that gets its share first
  pub shared_first : (h : Home) (s : Share) → share_at b.shared h.0 ≡ None → page_at b.tables.shares s.0 ≡ None → s.0 < b.tables.shares.room → is_some (name_at b.tables.names h.0) ≡ true → (b' : Beside) (o : Option Home)
      → SetsFiled store old old (with_share b h s) b' f o → SetsFiled store old old b b' f o
  shared_first h s none fresh inside named b' o k = record {
    told = λ d fits.
        (let first = share_told b (store.homes old) kept sound.pages d fits h s none fresh inside named in
        let then = k.told d first.0 in
        (then.0, then.1 ∙ ap (λ (p : NumberedPages). with_file p f (option_map (name_of b.tables.names) o)) first.1));
    here = k.here;
    others = k.others;
    filed = k.filed;
    maps = k.maps;
    serials = k.serials;
    living = k.living;
    limit = k.limit;
    homes = k.homes;
    frames = k.frames;
    away = k.away;
    core = k.core;
    lost = k.lost;
    used = k.used;
  }

  -- the page had no other name: its home is given up
  module _ (new : S) (h : Home) (there : fin.get b.files f ≡ Some h) (one : names_at b h.0 ≡ 1) (given : IsFreed store h.0 old new) where
    abbrev gone : Beside
    gone = filed_freed b f h

    some : is_some (name_at b.tables.names h.0) ≡ true
    some = kept.filed f h there

    below : h.0 < length b.tables.names
    below = name_below b.tables.names h.0 some

    abbrev places' : List HomePlace
    places' = slice_set (store.homes old) h.0 free

    free_there : place places' h.0 ≡ free
    free_there = elim (cases_lt h.0 (length (store.homes old))) [
      | inl l ↦ get_or-set_same (store.homes old) h.0 free free l
      | inr past ↦ get_or_past places' h.0 free (omega (arith, past, length-set (store.homes old) h.0 free))
    ]

    none_left : filed_total h.0 (fin.remove b.files f) ≡ 0
    none_left = omega (arith, filed_less b.files f h h.0 there, at_itself h, kept.files.count h.0, kept.files.few h.0, one, filed_some b.files f h there)

    away_kept : (k : ℕ) → k ≢ h.0 → away_at places' k ≡ away_at (store.homes old) k
    away_kept k ne = ap (λ p. away_home p k) (get_or-set_other (store.homes old) h.0 k free free ne)

    aways : map_away b.tables places' ≡ map_away b.tables (store.homes old)
    aways = fun_ext (λ g. by g (index_of b.tables.maps g) refl)
      where
        by : (g : ForkName) (o : Option ℕ) → index_of b.tables.maps g ≡ o → option_and_then (λ k. away_at places' (root_at b.tables.maps k).0) o ≡ option_and_then (λ k. away_at (store.homes old) (root_at b.tables.maps k).0) o
        by g None is = refl
        by g (Some k) is = away_kept (root_at b.tables.maps k).0 (named_apart b (store.homes old) kept.rooted h.0 some k g (index_fork b.tables.maps g k is))

    gone_core : StaysInCore (scene_over b (store.homes old) (store.spare old)) (scene_over gone places' (store.spare new)) 0
    gone_core = record {
      maps = λ g near. ap (λ (m : ForkName → Option ℕ). m g) aways ∙ near;
      pages = λ n near. by n near (home_named gone.tables.names n) refl;
      frames = omega (arith, given.spare);
    }
      where
        by : (n : PageName) → option_and_then (away_at (store.homes old)) (home_named b.tables.names n) ≡ None → (o : Option ℕ) → home_named gone.tables.names n ≡ o → option_and_then (away_at places') (home_named gone.tables.names n) ≡ None
        by n near None is = ap (option_and_then (away_at places')) is
        by n near (Some k) is =
            let named = named_home gone.tables.names n k is in
            let before = less_was b.tables.names b.serials b.taken kept.named h.0 below k n named in
            let home : home_named b.tables.names n ≡ Some k = home_is b.tables.names k n before (λ j e. kept.named.once j k n e before) in
            let ne : k ≢ h.0 = λ same. (let z : None ≡ Some n = sym (less_here b.tables.names b.serials b.taken kept.named h.0 below) ∙ ap (name_at gone.tables.names) (sym same) ∙ named in cc z) in
            ap (option_and_then (away_at places')) is ∙ away_kept k ne ∙ sym (ap (option_and_then (away_at (store.homes old))) home) ∙ near

    pub gone_step : SetsFiled store old new b gone f None
    gone_step = record {
      told = λ d fits. subst (λ (ps : List HomePlace). FitsPages gone ps d × (plain_over gone ps d ≡ with_file (plain_over b (store.homes old) d) f None)) (sym given.homes) (gone_told b (store.homes old) kept sound.pages d fits f h there one);
      here = with_here b.files f None;
      others = λ g ne. with_elsewhere b.files f g None ne;
      filed = λ g ne.
          ap (λ m. fin.get m g) (files_still b.tables.names gone.tables.names gone.files h.0 none_left (λ k other. less_other b.tables.names b.serials b.taken kept.named h.0 below k other))
          ∙ get_filed b.tables.names gone.files g ∙ ap (option_map (name_of b.tables.names)) (with_elsewhere b.files f g None ne) ∙ sym (get_filed b.tables.names b.files g);
      maps = refl;
      serials = refl;
      living = refl;
      limit = refl;
      homes = λ k. subst (λ (ps : List HomePlace). PageStays b (store.homes old) gone ps k (IsFiled b.files f k)) (sym given.homes) (elim (cases_eq k h.0) [
        | inl own ↦ inr (ap (place places') own ∙ free_there, ap (name_at gone.tables.names) own ∙ less_here b.tables.names b.serials b.taken kept.named h.0 below, subst (IsFiled b.files f) (sym own) there)
        | inr ne ↦ inl (get_or-set_other (store.homes old) h.0 k free free ne, less_other b.tables.names b.serials b.taken kept.named h.0 below k ne)
      ]);
      frames = λ none. absurd (let z : Some h ≡ None = sym there ∙ none in cc z);
      away = ap (map_away b.tables) given.homes ∙ aways;
      core = subst (λ (ps : List HomePlace). StaysInCore (scene_over b (store.homes old) (store.spare old)) (scene_over gone ps (store.spare new)) 0) (sym given.homes) gone_core;
      lost = loses_freed store old new h.0 given;
      used = freed_none store old new h.0 given;
    }

-- a file names a page that has a share, or gets one
module _ {S : Type 0} (store : StoreMeaning S) (old : S) (b : Beside) (kept : AreKept b (store.homes old)) (sound : IsSound store old) (f : FilePage ℕ) (h : Home) (named : is_some (name_at b.tables.names h.0) ≡ true) (none : fin.get b.files f ≡ None) (bounds : InRange f) where
  pub joined_after : (b1 b' : Beside) → SharesPage b b1 h → b' ≡ filed_joined b1 f h → AreKept b' (store.homes old) × SetsFiled store old old b b' f (Some h)
  joined_after b1 b' (had s is same) to =
      let so : b' ≡ filed_joined b f h = to ∙ ap (λ (x : Beside). filed_joined x f h) same in
      subst (λ (x : Beside). AreKept x (store.homes old) × SetsFiled store old old b x f (Some h)) (sym so) (joined_kept b (store.homes old) kept f h s is none bounds, joined_step store old b kept sound f h s is none bounds)
  joined_after b1 b' (got s unshared fresh inside same) to =
      let so : b' ≡ filed_joined (with_share b h s) f h = to ∙ ap (λ (x : Beside). filed_joined x f h) same in
      let given : AreKept (with_share b h s) (store.homes old) = share_kept b (store.homes old) kept h s unshared fresh inside named in
      let has : share_at (with_share b h s).shared h.0 ≡ Some s = get_or-set_same b.shared h.0 (Some s) None (omega (arith, kept.shared.homes, name_below b.tables.names h.0 named)) in
      subst (λ (x : Beside). AreKept x (store.homes old) × SetsFiled store old old b x f (Some h)) (sym so) (
        joined_kept (with_share b h s) (store.homes old) given f h s has none bounds,
        shared_first store old b kept sound f h s unshared fresh inside named (filed_joined (with_share b h s) f h) (Some h) (joined_step store old (with_share b h s) given sound f h s has none bounds),
      )

-- a page of a file that was dropped, and then set, is set
module _ {S : Type 0} (store : StoreMeaning S) (old mid new : S) (b b1 b' : Beside) (f : FilePage ℕ) (h : Home) (kept : AreKept b (store.homes old)) (sound : IsSound store old) (kept_mid : AreKept b1 (store.homes mid)) (sound_mid : IsSound store mid)
    (name : PageName) (named : name_at b1.tables.names h.0 ≡ Some name) (dropped : SetsFiled store old mid b b1 f None) (sets : SetsFiled store mid new b1 b' f (Some h)) where
  old_name : name_at b.tables.names h.0 ≡ Some name
  old_name = elim (dropped.homes h.0) [
    | inl stays ↦ sym stays.1 ∙ named
    | inr given ↦ absurd (let z : None ≡ Some name = sym given.1 ∙ named in cc z)
  ]

  told_filed : (d : DrumWords) → FitsPages b (store.homes old) d → FitsPages b' (store.homes new) d × (plain_over b' (store.homes new) d ≡ with_file (plain_over b (store.homes old) d) f (Some (name_of b.tables.names h)))
  told_filed d fits =
      let first = dropped.told d fits in
      let second = sets.told d first.0 in
      let p : NumberedPages = plain_over b (store.homes old) d in
      let u = in_memory_over b1 (store.homes mid) d in
      let new_name : name_of b1.tables.names h ≡ name = ap (λ (o : Option PageName). unwrap_or o nobody) named in
      let was_name : name_of b.tables.names h ≡ name = ap (λ (o : Option PageName). unwrap_or o nobody) old_name in
      let there : nat_lt 0 (uses (with_file p f None) name) ≡ true =
      ap (λ (r : NumberedPages). nat_lt 0 (uses r name)) (sym first.1) ∙ ap (nat_lt 0) (uses_home u first.0.agree d (sized b1 (store.homes mid) kept_mid sound_mid.pages d first.0) h.0 name named) ∙ sym (first.0.agree.shared h.0) ∙ ap is_some named in (
        second.0,
        second.1 ∙ (λ i. with_file (first.1 i) f (Some (new_name i)))
            ∙ filed_again nat_cmp_total fin.nat_cmp-IsAntisymmetric p (tables_whole (in_memory_over b (store.homes old) d) fits.agree d (sized b (store.homes old) kept sound.pages d fits)) f name there
            ∙ ap (λ n. with_file p f (Some n)) (sym was_name),
      )

  pub files_on : SetsFiled store old new b b' f (Some h)
  files_on = record {
    told = told_filed;
    here = sets.here;
    others = λ g ne. sets.others g ne ∙ dropped.others g ne;
    filed = λ g ne. sets.filed g ne ∙ dropped.filed g ne;
    maps = sets.maps ∙ dropped.maps;
    serials = sets.serials ∙ dropped.serials;
    living = sets.living ∙ dropped.living;
    limit = sets.limit ∙ dropped.limit;
    homes = λ k. stays_on (dropped.homes k) (sets.homes k) (λ now. absurd (let z : None ≡ Some (record { 0 = k }) = sym dropped.here ∙ now in cc z));
    frames = λ none. sets.frames dropped.here ∙ dropped.frames none;
    away = sets.away ∙ dropped.away;
    core = core_on dropped.core sets.core;
    lost = loses_on (traffic store old) (traffic store mid) (traffic store new) dropped.lost sets.lost;
    used = none_on (traffic store old) (traffic store mid) (traffic store new) dropped.used sets.used;
  }

-- a page that the file didn't name there keeps its name
pub name_stays : (b b1 : Beside) (places places1 : List HomePlace) (f : FilePage ℕ) (h : Home) → PageStays b places b1 places1 h.0 (IsFiled b.files f h.0) → (fin.get b.files f ≡ Some h → ⊥) → name_at b1.tables.names h.0 ≡ name_at b.tables.names h.0
name_stays b b1 places places1 f h (inl same) other = same.1
name_stays b b1 places places1 f h (inr given) other = absurd (other given.2)

pub some_name : (o : Option PageName) → is_some o ≡ true → (n : PageName) × (o ≡ Some n)
some_name None e = absurd (cc e)
some_name (Some n) e = (n, refl)
