-- What calls and commands change of pages leaves both alike: an entry that is set, a page of a file, a file or a fork that goes, and a map that
-- is added.
use Rattle.std.proofs.Common.{◌≡◌, ◌≢◌, ◌<◌, ℕ, zero, suc, Bool, true, false, cond, List, [], ◌∷◌, map as each, Option, None, Some, ◌⊎◌, inl, inr, refl, sym, ◌∙◌, ap, subst}
use Rattle.std.specs.Prelude.{is_some, not, nat_lt, replicate, slice_get, slice_index}
use Rattle.std.specs.List.{range_with_len}
use Rattle.std.specs.Option.{option_map, option_map_or, option_and_then, unwrap_or}
use Rattle.std.specs.Ordering.{eq_by_cmp}
use Rattle.std.specs.Cmp.{IsTotalOrder}
use Rattle.std.specs.Cmp.Lexicographic.{nat_list_cmp_total}
use Rattle.std.specs.FinMap as map
use Rattle.std.proofs.lemmas.Bool.{cases_Bool}
use Rattle.machine_names.specs.Bounds.{IsTerminal}
use Rattle.machine_names.specs.Orders.{FilePage, file_page_cmp, name_cmp}
use Rattle.machine_names.specs.PageWords.{zero_words}
use Rattle.machine_names.specs.declared.names.ForkName.{ForkName}
use Rattle.machine_names.specs.declared.names.PageName.{PageName}
use Rattle.machine_names.specs.declared.names.Slot.{Slot}
use Rattle.machine_names.specs.declared.names.Tty.{Tty}
use Rattle.machine_names.specs.declared.names.TheConstants.{SPACE_PAGES, TERMINALS}
use Rattle.machine_names.proofs.OrderLemmas.{name_cmp_apart}
use Rattle.plain_pages.specs.declared.map.MapEntry.{MapEntry}
use Rattle.plain_pages.specs.declared.map.MapEntry.TheVariants.{Empty, Names, Follows}
use Rattle.plain_pages.specs.declared.map.NewMap.{NewMap}
use Rattle.plain_pages.specs.declared.map.NewMap.TheVariants.{Empty as EmptyMap, FollowAll}
use Rattle.plain_pages.specs.FilePages.{files_with, with_file, without_file}
use Rattle.plain_pages.specs.Maps.{entry_at, full_access, set_entry}
use Rattle.plain_pages.specs.NewMaps.{empty_map, following_map, new_map, with_map}
use Rattle.plain_pages.specs.PlainPages.{Map, Maps, NamedPages}
use Rattle.plain_pages.specs.Room.{page_in, uses}
use Rattle.plain_pages.specs.References.{with_changed, with_entry}
use Rattle.plain_pages.specs.WholePages.{AreWhole}
use Rattle.plain_pages.proofs.Chains.{entry_other, entry_set, keys_set, slot_tells}
use Rattle.plain_pages.proofs.FilesKept.{files_apart, filed_files, filed_maps, filed_still, filed_whole, set_elsewhere, set_here, without_maps as maps_of_files, without_still, without_whole}
use Rattle.plain_pages.proofs.Kept.{AreStill, entry_kept, entry_maps, entry_whole, fork_kept, fork_maps, fork_whole, still}
use Rattle.plain_pages.proofs.Whole.{map_whole}
use Rattle.plain_model.proofs.ForkMaps.{cases_name, get_put, get_put_other}
use Rattle.plain_model.proofs.Keyed.{left_page}
use Rattle.plain_model.proofs.MapsGone.{get_left, gone_leaves}
use Rattle.plain_model.specs.ForkCalls.{without_maps}
use Rattle.plain_laws.proofs.Killed.{AreFewer}
use Rattle.plain_alone.proofs.OwnForks.{GoSame}
use Rattle.plain_alone.specs.Alike.{NamesAlike}
use Rattle.plain_alone.specs.Renamed.{renamed, renamed_entry}
use Rattle.plain_alone.proofs.PagesMade.{there_too}
use Rattle.plain_alone.proofs.Referring.{BothAlike}

page_renamed : (list : List ℕ) (e : MapEntry) → page_in (renamed_entry list e) ≡ option_map (renamed list) (page_in e)
page_renamed list Empty = refl
page_renamed list (Names n a) = refl
page_renamed list (Follows serial page a) = refl

-- the entries of a new map are renamed to themselves
same_entries : (list : List ℕ) (n i : ℕ) → option_map (renamed_entry list) (slice_get (replicate n Empty) i) ≡ slice_get (replicate n Empty) i
same_entries list zero i = refl
same_entries list (suc n) zero = refl
same_entries list (suc n) (suc i) = same_entries list n i

same_follows : (list : List ℕ) (serial : ℕ) (pages : List ℕ) (i : ℕ) → option_map (renamed_entry list) (slice_get (each (λ page. Follows serial page full_access) pages) i) ≡ slice_get (each (λ page. Follows serial page full_access) pages) i
same_follows list serial [] i = refl
same_follows list serial (page ∷ pages) zero = refl
same_follows list serial (page ∷ pages) (suc i) = same_follows list serial pages i

new_same : (list : List ℕ) (entries : NewMap) (i : ℕ) → option_map (renamed_entry list) (slice_get (new_map entries) i) ≡ slice_get (new_map entries) i
unfolding empty_map following_map
new_same list EmptyMap i = same_entries list SPACE_PAGES i
new_same list (FollowAll f) i = same_follows list f.serial (range_with_len 0 SPACE_PAGES) i

-- pages without some maps are those before, but for what nobody names any more
still_left : (p : NamedPages) (goes : ForkName → Bool) → AreFewer p (without_maps p goes) → AreStill p (without_maps p goes)
still_left p goes fewer = record {
  objects = fewer.objects;
  page_serials = ap (λ (r : NamedPages). r.page_serials) (gone_leaves p goes);
  console_serial = ap (λ (r : NamedPages). r.console_serial) (gone_leaves p goes);
  limit = ap (λ (r : NamedPages). r.limit) (gone_leaves p goes);
}

module _ (t : Tty) (terminal : IsTerminal t) (used : List ℕ → Bool) (list : List ℕ) (p q : NamedPages) (b : BothAlike t terminal used list p q) where
  abbrev Both : NamedPages → NamedPages → Type 0
  Both r u = BothAlike t terminal used list r u

  -- pages whose maps or files changed, and which keep the words of all that is still named
  module _ (r u : NamedPages) (kept : AreStill p r) (also : AreStill q u) (whole : AreWhole r) (alone : AreWhole u)
      (entries : (s : Slot) → s.fork.tty.0 ≡ t.0 → entry_at r.maps s ≡ option_map (renamed_entry list) (entry_at u.maps s))
      (maps : (f : ForkName) → f.tty.0 ≡ t.0 → map.contains_key r.maps f ≡ map.contains_key u.maps f)
      (no_maps : (f : ForkName) → f.tty.0 ≢ t.0 → map.contains_key u.maps f ≡ false)
      (files : (f : FilePage (List ℕ)) → used f.file ≡ true → map.get r.files f ≡ option_map (renamed list) (map.get u.files f))
      (no_files : (f : FilePage (List ℕ)) → used f.file ≡ false → map.get u.files f ≡ None) where
    still_names : NamesAlike t used list r u
    still_names = let n = b.alike.names in record {
      entries = entries;
      maps = maps;
      no_maps = no_maps;
      files = files;
      no_files = no_files;
      serial = ap (λ (l : List ℕ). slice_index l t.0) kept.page_serials ∙ n.serial ∙ sym (ap (λ (l : List ℕ). slice_index l t.0) also.page_serials);
      console = also.console_serial ∙ n.console;
      rising = n.rising;
      below = subst (λ c. Rattle.std.proofs.Common.All (λ k. Rattle.std.specs.Prelude.◌<◌ k c) (0 ∷ list)) (sym kept.console_serial) n.below;
      limit = kept.limit ∙ n.limit ∙ sym also.limit;
    }

    -- a page that is there still has its words
    kept_words : (x y : NamedPages) → AreStill x y → (n : PageName) → map.contains_key y.objects n ≡ true → map.get y.objects n ≡ map.get x.objects n
    kept_words x y k n there = by (nat_lt 0 (uses y n)) (k.objects n)
      where
        by : (c : Bool) → map.get y.objects n ≡ cond c (map.get x.objects n) None → map.get y.objects n ≡ map.get x.objects n
        by true is = is
        by false is = absurd (let no : false ≡ true = sym (ap is_some is) ∙ there in cc no)

    still_alike : Both r u
    still_alike = record {
      alike = record {
        names = still_names;
        words = λ n there. (
            let mine = kept_words q u also n there in
            let old : map.contains_key q.objects n ≡ true = sym (ap is_some mine) ∙ there in
            ap (λ (o : Option (List ℕ)). unwrap_or o zero_words) (kept_words p r kept (renamed list n) (there_too t used list r u still_names whole alone n there)) ∙ b.alike.words n old ∙ sym (ap (λ (o : Option (List ℕ)). unwrap_or o zero_words) mine));
      };
      whole = whole;
      alone = alone;
    }

  -- ---- an entry

  module _ (s : Slot) (here : s.fork.tty.0 ≡ t.0) where
    pub entry_alike : (d : MapEntry) → entry_at q.maps s ≡ Some d → (y : MapEntry) → ((n : PageName) → page_in y ≡ Some n → map.contains_key q.objects n ≡ true) → Both (with_entry p s (renamed_entry list y)) (with_entry q s y)
    entry_alike d is y there = still_alike (with_entry p s (renamed_entry list y)) (with_entry q s y) (still p (with_entry p s (renamed_entry list y)) kept) (still q (with_entry q s y) also) whole alone entries maps no_maps files no_files
      where
        e : MapEntry
        e = renamed_entry list d

        mine : entry_at p.maps s ≡ Some (renamed_entry list d)
        mine = b.alike.names.entries s here ∙ ap (option_map (renamed_entry list)) is

        kept : Rattle.plain_pages.proofs.Kept.AreKept p (with_entry p s (renamed_entry list y))
        kept = entry_kept p b.whole s (renamed_entry list d) (renamed_entry list y) mine

        also : Rattle.plain_pages.proofs.Kept.AreKept q (with_entry q s y)
        also = entry_kept q b.alone s d y is

        there_renamed : (o : Option PageName) → ((n : PageName) → o ≡ Some n → map.contains_key q.objects n ≡ true) → (m : PageName) → option_map (renamed list) o ≡ Some m → map.contains_key p.objects m ≡ true
        there_renamed None h m k = absurd (cc k)
        there_renamed (Some n) h m k = let same : renamed list n ≡ m = cc k in subst (λ (x : PageName). map.contains_key p.objects x ≡ true) same (there_too t used list p q b.alike.names b.whole b.alone n (h n refl))

        whole : AreWhole (with_entry p s (renamed_entry list y))
        whole = entry_whole p b.whole s (renamed_entry list d) (renamed_entry list y) mine (λ m k. there_renamed (page_in y) there m (sym (page_renamed list y) ∙ k))

        alone : AreWhole (with_entry q s y)
        alone = entry_whole q b.alone s d y is there

        maps_p : (with_entry p s (renamed_entry list y)).maps ≡ set_entry p.maps s (renamed_entry list y)
        maps_p = entry_maps p b.whole s (renamed_entry list d) (renamed_entry list y) mine

        maps_q : (with_entry q s y).maps ≡ set_entry q.maps s y
        maps_q = entry_maps q b.alone s d y is

        entries : (x : Slot) → x.fork.tty.0 ≡ t.0 → entry_at (with_entry p s (renamed_entry list y)).maps x ≡ option_map (renamed_entry list) (entry_at (with_entry q s y).maps x)
        entries x own = ap (λ (m : Maps). entry_at m x) maps_p ∙ by (slot_tells x s) ∙ sym (ap (λ (m : Maps). option_map (renamed_entry list) (entry_at m x)) maps_q)
          where
            by : (x ≡ s) ⊎ (x ≢ s) → entry_at (set_entry p.maps s (renamed_entry list y)) x ≡ option_map (renamed_entry list) (entry_at (set_entry q.maps s y) x)
            by (inl same) = ap (entry_at (set_entry p.maps s (renamed_entry list y))) same ∙ entry_set p.maps s (renamed_entry list d) (renamed_entry list y) mine ∙ sym (ap (option_map (renamed_entry list)) (ap (entry_at (set_entry q.maps s y)) same ∙ entry_set q.maps s d y is))
            by (inr other) = entry_other p.maps s (renamed_entry list d) (renamed_entry list y) mine x other ∙ b.alike.names.entries x own ∙ sym (ap (option_map (renamed_entry list)) (entry_other q.maps s d y is x other))

        maps : (f : ForkName) → f.tty.0 ≡ t.0 → map.contains_key (with_entry p s (renamed_entry list y)).maps f ≡ map.contains_key (with_entry q s y).maps f
        maps f own = ap (λ (m : Maps). map.contains_key m f) maps_p ∙ keys_set p.maps s (renamed_entry list d) (renamed_entry list y) mine f ∙ b.alike.names.maps f own ∙ sym (ap (λ (m : Maps). map.contains_key m f) maps_q ∙ keys_set q.maps s d y is f)

        no_maps : (f : ForkName) → f.tty.0 ≢ t.0 → map.contains_key (with_entry q s y).maps f ≡ false
        no_maps f other = ap (λ (m : Maps). map.contains_key m f) maps_q ∙ keys_set q.maps s d y is f ∙ b.alike.names.no_maps f other

        files : (f : FilePage (List ℕ)) → used f.file ≡ true → map.get (with_entry p s (renamed_entry list y)).files f ≡ option_map (renamed list) (map.get (with_entry q s y).files f)
        files f its = ap (λ m. map.get m f) kept.files ∙ b.alike.names.files f its ∙ sym (ap (λ m. option_map (renamed list) (map.get m f)) also.files)

        no_files : (f : FilePage (List ℕ)) → used f.file ≡ false → map.get (with_entry q s y).files f ≡ None
        no_files f other = ap (λ m. map.get m f) also.files ∙ b.alike.names.no_files f other

    -- AN ENTRY THAT IS CHANGED, where there is one
    pub changed_entry_alike : (change other : MapEntry → MapEntry) → ((e : MapEntry) → change (renamed_entry list e) ≡ renamed_entry list (other e)) → ((e : MapEntry) (n : PageName) → entry_at q.maps s ≡ Some e → page_in (other e) ≡ Some n → map.contains_key q.objects n ≡ true)
        → Both (with_changed p s change) (with_changed q s other)
    changed_entry_alike change other same there = subst (λ o. Both (option_map_or (λ e. with_entry p s (change e)) o p) (with_changed q s other)) (sym (b.alike.names.entries s here)) (by (entry_at q.maps s) refl)
      where
        by : (o : Option MapEntry) → entry_at q.maps s ≡ o → Both (option_map_or (λ e. with_entry p s (change e)) (option_map (renamed_entry list) o) p) (option_map_or (λ e. with_entry q s (other e)) o q)
        by None is = b
        by (Some d) is = subst (λ (e : MapEntry). Both (with_entry p s e) (with_entry q s (other d))) (sym (same d)) (entry_alike d is (other d) (λ n k. there d n is k))

  -- ---- a file

  -- A PAGE OF A FILE that is used becomes another, or none
  pub filed_alike : (f : FilePage (List ℕ)) → used f.file ≡ true → (n : Option PageName) → ((m : PageName) → n ≡ Some m → map.contains_key q.objects m ≡ true) → Both (with_file p f (option_map (renamed list) n)) (with_file q f n)
  filed_alike f its n there = still_alike (with_file p f (option_map (renamed list) n)) (with_file q f n)
      (filed_still nat_list_cmp_total name_cmp_apart p f (option_map (renamed list) n) b.whole) (filed_still nat_list_cmp_total name_cmp_apart q f n b.alone)
      (filed_whole nat_list_cmp_total name_cmp_apart p f (option_map (renamed list) n) b.whole (there_renamed n there)) (filed_whole nat_list_cmp_total name_cmp_apart q f n b.alone there)
      (λ s own. ap (λ (m : Maps). entry_at m s) maps_p ∙ b.alike.names.entries s own ∙ sym (ap (λ (m : Maps). option_map (renamed_entry list) (entry_at m s)) maps_q))
      (λ g own. ap (λ (m : Maps). map.contains_key m g) maps_p ∙ b.alike.names.maps g own ∙ sym (ap (λ (m : Maps). map.contains_key m g) maps_q))
      (λ g other. ap (λ (m : Maps). map.contains_key m g) maps_q ∙ b.alike.names.no_maps g other)
      files no_files
    where
      there_renamed : (o : Option PageName) → ((n : PageName) → o ≡ Some n → map.contains_key q.objects n ≡ true) → (m : PageName) → option_map (renamed list) o ≡ Some m → map.contains_key p.objects m ≡ true
      there_renamed None h m k = absurd (cc k)
      there_renamed (Some n) h m k = let same : renamed list n ≡ m = cc k in subst (λ (x : PageName). map.contains_key p.objects x ≡ true) same (there_too t used list p q b.alike.names b.whole b.alone n (h n refl))

      maps_p : (with_file p f (option_map (renamed list) n)).maps ≡ p.maps
      maps_p = filed_maps nat_list_cmp_total name_cmp_apart p f (option_map (renamed list) n)

      maps_q : (with_file q f n).maps ≡ q.maps
      maps_q = filed_maps nat_list_cmp_total name_cmp_apart q f n

      files_p : (with_file p f (option_map (renamed list) n)).files ≡ files_with p f (option_map (renamed list) n)
      files_p = filed_files nat_list_cmp_total name_cmp_apart p f (option_map (renamed list) n)

      files_q : (with_file q f n).files ≡ files_with q f n
      files_q = filed_files nat_list_cmp_total name_cmp_apart q f n

      same_or_not : (g : FilePage (List ℕ)) → (g ≡ f) ⊎ (g ≢ f)
      same_or_not g = elim (cases_Bool (eq_by_cmp (file_page_cmp name_cmp) g f)) [
        | inl e ↦ inl ((files_apart nat_list_cmp_total name_cmp_apart g f true e).0 refl)
        | inr e ↦ inr ((files_apart nat_list_cmp_total name_cmp_apart g f false e).1 refl)
      ]

      files : (g : FilePage (List ℕ)) → used g.file ≡ true → map.get (with_file p f (option_map (renamed list) n)).files g ≡ option_map (renamed list) (map.get (with_file q f n).files g)
      files g mine = ap (λ m. map.get m g) files_p ∙ by (same_or_not g) ∙ sym (ap (λ m. option_map (renamed list) (map.get m g)) files_q)
        where
          by : (g ≡ f) ⊎ (g ≢ f) → map.get (files_with p f (option_map (renamed list) n)) g ≡ option_map (renamed list) (map.get (files_with q f n) g)
          by (inl same) = ap (map.get (files_with p f (option_map (renamed list) n))) same ∙ set_here nat_list_cmp_total name_cmp_apart p f (option_map (renamed list) n) ∙ sym (ap (option_map (renamed list)) (ap (map.get (files_with q f n)) same ∙ set_here nat_list_cmp_total name_cmp_apart q f n))
          by (inr other) = set_elsewhere nat_list_cmp_total name_cmp_apart p f g (option_map (renamed list) n) other ∙ b.alike.names.files g mine ∙ sym (ap (option_map (renamed list)) (set_elsewhere nat_list_cmp_total name_cmp_apart q f g n other))

      no_files : (g : FilePage (List ℕ)) → used g.file ≡ false → map.get (with_file q f n).files g ≡ None
      no_files g other = ap (λ m. map.get m g) files_q ∙ set_elsewhere nat_list_cmp_total name_cmp_apart q f g n (λ e. (let no : true ≡ false = sym its ∙ ap (λ (h : FilePage (List ℕ)). used h.file) (sym e) ∙ other in cc no)) ∙ b.alike.names.no_files g other

  -- A FILE THAT GOES
  pub unfiled_alike : (name : List ℕ) → used name ≡ true → Both (without_file p name) (without_file q name)
  unfiled_alike name its = still_alike (without_file p name) (without_file q name)
      (without_still nat_list_cmp_total name_cmp_apart p name b.whole) (without_still nat_list_cmp_total name_cmp_apart q name b.alone)
      (without_whole nat_list_cmp_total name_cmp_apart p name b.whole) (without_whole nat_list_cmp_total name_cmp_apart q name b.alone)
      (λ s own. ap (λ (m : Maps). entry_at m s) maps_p ∙ b.alike.names.entries s own ∙ sym (ap (λ (m : Maps). option_map (renamed_entry list) (entry_at m s)) maps_q))
      (λ g own. ap (λ (m : Maps). map.contains_key m g) maps_p ∙ b.alike.names.maps g own ∙ sym (ap (λ (m : Maps). map.contains_key m g) maps_q))
      (λ g other. ap (λ (m : Maps). map.contains_key m g) maps_q ∙ b.alike.names.no_maps g other)
      (λ g mine. left_page nat_list_cmp_total name_cmp_apart p name g ∙ ap (λ o. cond (not (eq_by_cmp name_cmp g.file name)) o None) (b.alike.names.files g mine) ∙ passed (not (eq_by_cmp name_cmp g.file name)) (map.get q.files g) ∙ sym (ap (option_map (renamed list)) (left_page nat_list_cmp_total name_cmp_apart q name g)))
      (λ g other. left_page nat_list_cmp_total name_cmp_apart q name g ∙ ap (λ o. cond (not (eq_by_cmp name_cmp g.file name)) o None) (b.alike.names.no_files g other) ∙ none (not (eq_by_cmp name_cmp g.file name)))
    where
      maps_p : (without_file p name).maps ≡ p.maps
      maps_p = maps_of_files nat_list_cmp_total name_cmp_apart p name

      maps_q : (without_file q name).maps ≡ q.maps
      maps_q = maps_of_files nat_list_cmp_total name_cmp_apart q name

      passed : (c : Bool) (o : Option PageName) → cond c (option_map (renamed list) o) None ≡ option_map (renamed list) (cond c o None)
      passed true o = refl
      passed false o = refl

      nothing : Option PageName
      nothing = None

      none : (c : Bool) → cond c nothing None ≡ None
      none true = refl
      none false = refl

  -- ---- maps

  -- SOME FORKS OF THE JOB GO, with their maps
  module _ (goes also : ForkName → Bool) (same : GoSame t goes also) (fewer : AreFewer p (without_maps p goes)) (fewer_too : AreFewer q (without_maps q also)) where
    pub gone_alike : Both (without_maps p goes) (without_maps q also)
    gone_alike = still_alike (without_maps p goes) (without_maps q also) (still_left p goes fewer) (still_left q also fewer_too) fewer.whole fewer_too.whole entries maps no_maps
        (λ f its. ap (λ x. map.get x f) fewer.files ∙ b.alike.names.files f its ∙ sym (ap (λ x. option_map (renamed list) (map.get x f)) fewer_too.files)) (λ f other. ap (λ x. map.get x f) fewer_too.files ∙ b.alike.names.no_files f other)
      where
        left_p : (f : ForkName) → map.get (without_maps p goes).maps f ≡ cond (not (goes f)) (map.get p.maps f) None
        left_p f = ap (λ (r : NamedPages). map.get r.maps f) (gone_leaves p goes) ∙ get_left p.maps goes f

        left_q : (f : ForkName) → map.get (without_maps q also).maps f ≡ cond (not (also f)) (map.get q.maps f) None
        left_q f = ap (λ (r : NamedPages). map.get r.maps f) (gone_leaves q also) ∙ get_left q.maps also f

        -- alone the same are left
        left_mine : (f : ForkName) → f.tty.0 ≡ t.0 → map.get (without_maps q also).maps f ≡ cond (not (goes f)) (map.get q.maps f) None
        left_mine f mine = left_q f ∙ ap (λ c. cond (not c) (map.get q.maps f) None) (same.mine f mine)

        entries : (s : Slot) → s.fork.tty.0 ≡ t.0 → entry_at (without_maps p goes).maps s ≡ option_map (renamed_entry list) (entry_at (without_maps q also).maps s)
        entries s mine =
            ap (option_and_then (λ x. slice_get x s.page)) (left_p s.fork) ∙ by (not (goes s.fork))
            ∙ sym (ap (λ (o : Option Map). option_map (renamed_entry list) (option_and_then (λ x. slice_get x s.page) o)) (left_mine s.fork mine))
          where
            by : (c : Bool) → option_and_then (λ (x : Map). slice_get x s.page) (cond c (map.get p.maps s.fork) None) ≡ option_map (renamed_entry list) (option_and_then (λ (x : Map). slice_get x s.page) (cond c (map.get q.maps s.fork) None))
            by true = b.alike.names.entries s mine
            by false = refl

        maps : (f : ForkName) → f.tty.0 ≡ t.0 → map.contains_key (without_maps p goes).maps f ≡ map.contains_key (without_maps q also).maps f
        maps f mine = ap is_some (left_p f) ∙ by (not (goes f)) ∙ sym (ap is_some (left_mine f mine))
          where
            by : (c : Bool) → is_some (cond c (map.get p.maps f) None) ≡ is_some (cond c (map.get q.maps f) None)
            by true = b.alike.names.maps f mine
            by false = refl

        no_maps : (f : ForkName) → f.tty.0 ≢ t.0 → map.contains_key (without_maps q also).maps f ≡ false
        no_maps f other = ap is_some (left_q f) ∙ by (not (also f))
          where
            by : (c : Bool) → is_some (cond c (map.get q.maps f) None) ≡ false
            by true = b.alike.names.no_maps f other
            by false = refl

  module _ (k : ForkName) (own : k.tty.0 ≡ t.0) where
    -- A FORK MORE, with its map
    pub added_alike : map.get p.maps k ≡ None → map.get q.maps k ≡ None → (entries : NewMap) → Both (with_map p k entries) (with_map q k entries)
    added_alike none also entries = record { alike = record { names = names; words = b.alike.words }; whole = map_whole p b.whole k none entries on; alone = map_whole q b.alone k also entries on }
      where
        on : k.tty.0 < TERMINALS
        on = subst (λ n. n < TERMINALS) (sym own) terminal

        new_entries : (s : Slot) → s.fork.tty.0 ≡ t.0 → entry_at (map.insert p.maps k (new_map entries)) s ≡ option_map (renamed_entry list) (entry_at (map.insert q.maps k (new_map entries)) s)
        new_entries s mine = by (cases_name s.fork k)
          where
            by : (s.fork ≡ k) ⊎ (s.fork ≡ k → ⊥) → entry_at (map.insert p.maps k (new_map entries)) s ≡ option_map (renamed_entry list) (entry_at (map.insert q.maps k (new_map entries)) s)
            by (inl same) = ap (λ (o : Option Map). option_and_then (λ x. slice_get x s.page) o) (get_put p.maps k s.fork (new_map entries) same) ∙ sym (new_same list entries s.page) ∙ sym (ap (λ (o : Option Map). option_map (renamed_entry list) (option_and_then (λ x. slice_get x s.page) o)) (get_put q.maps k s.fork (new_map entries) same))
            by (inr other) = ap (λ (o : Option Map). option_and_then (λ x. slice_get x s.page) o) (get_put_other p.maps k s.fork (new_map entries) other) ∙ b.alike.names.entries s mine ∙ sym (ap (λ (o : Option Map). option_map (renamed_entry list) (option_and_then (λ x. slice_get x s.page) o)) (get_put_other q.maps k s.fork (new_map entries) other))

        maps : (f : ForkName) → f.tty.0 ≡ t.0 → map.contains_key (map.insert p.maps k (new_map entries)) f ≡ map.contains_key (map.insert q.maps k (new_map entries)) f
        maps f mine = by (cases_name f k)
          where
            by : (f ≡ k) ⊎ (f ≡ k → ⊥) → map.contains_key (map.insert p.maps k (new_map entries)) f ≡ map.contains_key (map.insert q.maps k (new_map entries)) f
            by (inl same) = ap is_some (get_put p.maps k f (new_map entries) same) ∙ sym (ap is_some (get_put q.maps k f (new_map entries) same))
            by (inr other) = ap is_some (get_put_other p.maps k f (new_map entries) other) ∙ b.alike.names.maps f mine ∙ sym (ap is_some (get_put_other q.maps k f (new_map entries) other))

        names : NamesAlike t used list (with_map p k entries) (with_map q k entries)
        names = let n = b.alike.names in record {
          entries = new_entries;
          maps = maps;
          no_maps = λ f other. ap is_some (get_put_other q.maps k f (new_map entries) (λ e. other (ap (λ (x : ForkName). x.tty.0) e ∙ own))) ∙ n.no_maps f other;
          files = n.files;
          no_files = n.no_files;
          serial = n.serial;
          console = n.console;
          rising = n.rising;
          below = n.below;
          limit = n.limit;
        }
