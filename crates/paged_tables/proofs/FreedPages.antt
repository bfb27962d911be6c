-- The page of a home goes that one entry alone names.
use Rattle.std.proofs.Common.{◌≡◌, ◌≢◌, inl, inr, ℕ, ◌-◌, ◌<◌, ◌≤◌, List, Bool, true, false, cond, Option, None, Some, is_some, length, map, refl, sym, ◌∙◌, ap, subst, arith}
use Rattle.std.specs.Prelude.{slice_index, slice_index_or, slice_set, ◌&&◌, ◌==◌}
use Rattle.std.specs.Cmp.{nat_cmp_total}
use Rattle.std.specs.FinMap as fin
use Rattle.std.specs.Option.{option_map, option_map_or}
use Rattle.std.proofs.lemmas.Bool.{cases_eq}
use Rattle.std.proofs.lemmas.List.{get_or-set_same, get_or-set_other, length-set, length-map}
use Rattle.std.proofs.lemmas.List.Sums.{sum_by-set}
use Rattle.machine_names.proofs.Keys.{get_gone, get_gone_other}
use Rattle.machine_names.specs.declared.names.PageName.{PageName}
use Rattle.page_homes.specs.declared.homes.Home.{Home}
use Rattle.page_contracts.specs.Stores.{HomePlace, free, is_free, is_taken, place}
use Rattle.share_table.specs.declared.shares.Share.{Share}
use Rattle.share_table.specs.declared.shares.SharedPage.{SharedPage}
use Rattle.share_table.specs.Shares.{Shares, left_by, one_fewer, page_at, with_page, without}
use Rattle.pager_walk.specs.MapPages.{root_at}
use Rattle.pager_walk.specs.PagedMaps.{AreRooted, name_at}
use Rattle.pager_walk.proofs.Looking.{taken_map, taken_within}
use Rattle.flat_tables.specs.SlotTables.{share_of}
use Rattle.paged_tables.specs.LeftShares.{left_by_one}
use Rattle.paged_tables.specs.NameCounts.{count_of, counts, share_at}
use Rattle.paged_tables.specs.PagedTables.{AreFiled, AreKept, AreShared, Beside}
use Rattle.paged_tables.specs.PagedTouches.{has_one_name, names_at}
use Rattle.paged_tables.specs.SetEntries.{page_freed}
use Rattle.paged_tables.proofs.Counted.{counts_at, counts_length}
use Rattle.paged_tables.proofs.FiledPages.{filed_named}
use Rattle.paged_tables.proofs.Naming.{named_less}
use Rattle.paged_tables.proofs.PagesMade.{taken_one}
use Rattle.paged_tables.proofs.RenamedDone.{one_unfiled}
use Rattle.paged_tables.proofs.RenamedPages.{named_within, one_named}
use Rattle.paged_tables.proofs.Sharing.{SharesHome, own_share, same_numbers, set_none, shares_home}

-- what the share of a home is once its one name goes
module _ (shares : Shares) (names : List (Option PageName)) (shared : List (Option Share)) (a : AreShared shares names shared) (h : ℕ) where
  abbrev Homes' : Shares → Type 0
  Homes' x = AreShared x (slice_set names h None) (slice_set shared h None)

  less_named : (k : ℕ) (t : Share) → k ≢ h → share_at shared k ≡ Some t → is_some (name_at (slice_set names h None) k) ≡ true
  less_named k t ne e = ap is_some (get_or-set_other names h k None None ne) ∙ a.named k t e

  -- the home has none
  none_less : share_at shared h ≡ None → Homes' shares
  none_less none =
      let same = set_none shared h none in
      subst (AreShared shares (slice_set names h None)) (sym same) (record {
        stands = a.stands;
        back = a.back;
        named = λ k t e. less_named k t (λ is. (let z : None ≡ Some t = sym none ∙ ap (share_at shared) (sym is) ∙ e in cc z)) e;
        homes = a.homes ∙ sym (length-set names h None);
        room = a.room ∙ sym (length-set names h None);
        below = a.below;
        count = a.count;
      })

  module _ (s : Share) (is : share_at shared h ≡ Some s) (below : h < length shared) where
    x : SharesHome shares h s
    x = shares_home shares names shared a h s is

    gone : page_at (without shares s.0) s.0 ≡ None
    gone = get_gone nat_cmp_total fin.nat_cmp-IsAntisymmetric shares.pages s.0 s.0 refl

    pub kept_page : (k : ℕ) → k ≢ s.0 → page_at (without shares s.0) k ≡ page_at shares k
    kept_page k ne = get_gone_other nat_cmp_total fin.nat_cmp-IsAntisymmetric shares.pages s.0 k ne

    share_there : (k : ℕ) (t : Share) → share_at (slice_set shared h None) k ≡ Some t → (k ≢ h) × (share_at shared k ≡ Some t)
    share_there k t e = elim (cases_eq k h) [
      | inl same ↦ absurd (let z : None ≡ Some t = sym (get_or-set_same shared h None None below) ∙ ap (share_at (slice_set shared h None)) (sym same) ∙ e in cc z)
      | inr other ↦ (other, sym (get_or-set_other shared h k None None other) ∙ e)
    ]

    pub page_there : (t : ℕ) (p : SharedPage) → page_at (without shares s.0) t ≡ Some p → (t ≢ s.0) × (page_at shares t ≡ Some p)
    page_there t p e = elim (cases_eq t s.0) [
      | inl same ↦ absurd (let z : None ≡ Some p = sym gone ∙ ap (page_at (without shares s.0)) (sym same) ∙ e in cc z)
      | inr other ↦ (other, sym (kept_page t other) ∙ e)
    ]

    home_other : (t : ℕ) (p : SharedPage) → t ≢ s.0 → page_at shares t ≡ Some p → p.home.0 ≢ h
    home_other t p ne e same = ne (let z : Some (record { 0 = t }) ≡ Some s = sym (a.back t p e) ∙ ap (share_at shared) same ∙ is in let one : ◌≡◌ {A = Share} (record { 0 = t }) s = cc z in ap (λ (y : Share). y.0) one)

    share_less : Homes' (without shares s.0)
    share_less = record {
      stands = λ k t e. let y = share_there k t e in ap (option_map (λ (p : SharedPage). p.home)) (kept_page t.0 (own_share shares names shared a h s is 0 k t y.0 y.1)) ∙ a.stands k t y.1;
      back = λ t p e. let y = page_there t p e in get_or-set_other shared h p.home.0 None None (home_other t p y.0 y.1) ∙ a.back t p y.1;
      named = λ k t e. let y = share_there k t e in less_named k t y.0 y.1;
      homes = length-set shared h None ∙ a.homes ∙ sym (length-set names h None);
      room = a.room ∙ sym (length-set names h None);
      below = λ t p e. let y = page_there t p e in a.below t p y.1;
      count =
          (let n = fin.len-remove nat_cmp_total shares.pages s.0 ∙ ap (λ (o : Option SharedPage). cond (is_some o) (fin.len shares.pages - 1) (fin.len shares.pages)) x.is in
          let c = sum_by-set (λ (o : Option Share). cond (is_some o) 1 0) shared h None None below in
          let was : ◌≡◌ {A = ℕ} (cond (is_some (share_at shared h)) 1 0) 1 = ap (λ (o : Option Share). cond (is_some o) 1 0) is in
          omega (arith, n, c, was, a.count));
    }

    -- the other homes have their counts
    others_counted : (k : ℕ) → k ≢ h → count_of (without shares s.0) (name_at names k) (share_at shared k) ≡ count_of shares (name_at names k) (share_at shared k)
    others_counted k ne = by (name_at names k) (share_at shared k) refl
      where
        by : (o : Option PageName) (t : Option Share) → share_at shared k ≡ t → count_of (without shares s.0) o t ≡ count_of shares o t
        by None t e = refl
        by (Some m) None e = refl
        by (Some m) (Some t) e = ap (λ (p : Option SharedPage). option_map_or (λ (q : SharedPage). q.count) p 0) (kept_page t.0 (own_share shares names shared a h s is 0 k t ne e))

module _ (b : Beside) (places : List HomePlace) (kept : AreKept b places) (home : Home) (one : has_one_name b home.0 ≡ true) where
  some : is_some (name_at b.tables.names home.0) ≡ true
  some = one_named b home.0 one

  pub freed_below : home.0 < length b.tables.names
  freed_below = named_within b.tables.names home.0 some

  pub freed_taken : is_taken (place places home.0) ≡ true
  freed_taken = sym (taken_map places home.0) ∙ kept.rooted.named home.0 some

  pub freed_some : 1 ≤ b.taken
  freed_some = (named_less b.tables.names b.serials b.taken kept.named home.0 freed_below some).1

  abbrev after : Beside
  after = page_freed b home

  abbrev pub left : Shares
  left = left_by_one b.tables.shares (share_at b.shared home.0)

  first : (c d : Bool) → (c && d) ≡ true → c ≡ true
  first true d e = refl
  first false d e = absurd (cc e)

  -- the share goes, if there is one
  pub freed_share : (s : Share) → share_at b.shared home.0 ≡ Some s → left ≡ without b.tables.shares s.0
  freed_share s is =
      let x = shares_home b.tables.shares b.tables.names b.shared kept.shared home.0 s is in
      let count : (x.page.count == 1) ≡ true = sym (ap (λ n. n == 1) (ap (count_of b.tables.shares (name_at b.tables.names home.0)) is ∙ of x (name_at b.tables.names home.0) some)) ∙ first (names_at b home.0 == 1) (share_of b.filed home.0 == 0) one in
      ap (left_by_one b.tables.shares) is ∙ ap (left_by b.tables.shares s.0) x.is ∙ ap (λ c. cond c (without b.tables.shares s.0) (with_page b.tables.shares s.0 (record x.page { count = one_fewer x.page.count }))) count
    where
      of : (x : SharesHome b.tables.shares home.0 s) (o : Option PageName) → is_some o ≡ true → count_of b.tables.shares o (Some s) ≡ x.page.count
      of x None e = absurd (cc e)
      of x (Some n) e = ap (λ (p : Option SharedPage). option_map_or (λ (q : SharedPage). q.count) p 0) x.is

  pub within_shared : home.0 < length b.shared
  within_shared = omega (arith, freed_below, kept.shared.homes)

  freed_shared : AreShared left (slice_set b.tables.names home.0 None) (slice_set b.shared home.0 None)
  freed_shared = by (share_at b.shared home.0) refl
    where
      by : (o : Option Share) → share_at b.shared home.0 ≡ o → AreShared left (slice_set b.tables.names home.0 None) (slice_set b.shared home.0 None)
      by None e = subst (λ (x : Shares). AreShared x (slice_set b.tables.names home.0 None) (slice_set b.shared home.0 None)) (sym (ap (left_by_one b.tables.shares) e)) (none_less b.tables.shares b.tables.names b.shared kept.shared home.0 e)
      by (Some s) e = subst (λ (x : Shares). AreShared x (slice_set b.tables.names home.0 None) (slice_set b.shared home.0 None)) (sym (freed_share s e)) (share_less b.tables.shares b.tables.names b.shared kept.shared home.0 s e within_shared)

  share_other : (k : ℕ) → k ≢ home.0 → count_of left (name_at b.tables.names k) (share_at b.shared k) ≡ count_of b.tables.shares (name_at b.tables.names k) (share_at b.shared k)
  share_other k ne = by (share_at b.shared home.0) refl
    where
      by : (o : Option Share) → share_at b.shared home.0 ≡ o → count_of left (name_at b.tables.names k) (share_at b.shared k) ≡ count_of b.tables.shares (name_at b.tables.names k) (share_at b.shared k)
      by None e = ap (λ (x : Shares). count_of x (name_at b.tables.names k) (share_at b.shared k)) (ap (left_by_one b.tables.shares) e)
      by (Some s) e = ap (λ (x : Shares). count_of x (name_at b.tables.names k) (share_at b.shared k)) (freed_share s e) ∙ others_counted b.tables.shares b.tables.names b.shared kept.shared home.0 s e within_shared k ne

  count_other : (k : ℕ) → k ≢ home.0 → count_of left (name_at after.tables.names k) (share_at after.shared k) ≡ count_of b.tables.shares (name_at b.tables.names k) (share_at b.shared k)
  count_other k ne = (λ i. count_of left (get_or-set_other b.tables.names home.0 k None None ne i) (get_or-set_other b.shared home.0 k None None ne i)) ∙ share_other k ne

  name_gone : name_at after.tables.names home.0 ≡ None
  name_gone = get_or-set_same b.tables.names home.0 None None freed_below

  pub freed_counts : counts left after.tables.names after.shared ≡ slice_set (counts b.tables.shares b.tables.names b.shared) home.0 0
  freed_counts =
      same_numbers (counts left after.tables.names after.shared) (slice_set (counts b.tables.shares b.tables.names b.shared) home.0 0)
      (counts_length left after.tables.names after.shared ∙ length-set b.tables.names home.0 None ∙ sym (length-set (counts b.tables.shares b.tables.names b.shared) home.0 0 ∙ counts_length b.tables.shares b.tables.names b.shared)) (λ k.
      counts_at left after.tables.names after.shared k ∙ elim (cases_eq k home.0) [
        | inl same ↦ ap (λ j. count_of left (name_at after.tables.names j) (share_at after.shared j)) same ∙ ap (λ o. count_of left o (share_at after.shared home.0)) name_gone
            ∙ sym (ap (slice_index (slice_set (counts b.tables.shares b.tables.names b.shared) home.0 0)) same ∙ get_or-set_same (counts b.tables.shares b.tables.names b.shared) home.0 0 0 (omega (arith, freed_below, counts_length b.tables.shares b.tables.names b.shared)))
        | inr other ↦ count_other k other ∙ sym (counts_at b.tables.shares b.tables.names b.shared k) ∙ sym (get_or-set_other (counts b.tables.shares b.tables.names b.shared) home.0 k 0 0 other)
      ])

  freed_files : AreFiled after
  freed_files = record {
    within = kept.files.within;
    homes = kept.files.homes ∙ sym (length-set b.tables.names home.0 None);
    count = kept.files.count;
    few = λ k. elim (cases_eq k home.0) [
      | inl same ↦ omega (arith, ap (share_of b.filed) same, one_unfiled b home.0 one)
      | inr other ↦ omega (arith, kept.files.few k, count_other k other)
    ];
  }

  abbrev pub places' : List HomePlace
  places' = slice_set places home.0 free

  root_apart : (k : ℕ) → name_at b.tables.names k ≡ None → k ≢ home.0
  root_apart k none same = let z : false ≡ true = sym (ap is_some none) ∙ ap (λ j. is_some (name_at b.tables.names j)) same ∙ some in cc z

  still_taken : (k : ℕ) → k ≢ home.0 → slice_index_or (map is_taken places') k false ≡ slice_index_or (map is_taken places) k false
  still_taken k ne = taken_map places' k ∙ ap is_taken (get_or-set_other places home.0 k free free ne) ∙ sym (taken_map places k)

  pub freed_rooted : AreRooted after.tables (map is_taken places')
  freed_rooted = record {
    numbered = kept.rooted.numbered;
    there = λ k f e. still_taken (root_at b.tables.maps k).0 (root_apart (root_at b.tables.maps k).0 (kept.rooted.unnamed k f e)) ∙ kept.rooted.there k f e;
    apart = kept.rooted.apart;
    unnamed = λ k f e. let none = kept.rooted.unnamed k f e in get_or-set_other b.tables.names home.0 (root_at b.tables.maps k).0 None None (root_apart (root_at b.tables.maps k).0 none) ∙ none;
    named = λ h e. elim (cases_eq h home.0) [
      | inl same ↦ absurd (let z : false ≡ true = sym (ap (λ j. is_some (name_at after.tables.names j)) same ∙ ap is_some name_gone) ∙ e in cc z)
      | inr other ↦ still_taken h other ∙ kept.rooted.named h (sym (ap is_some (get_or-set_other b.tables.names home.0 h None None other)) ∙ e)
    ];
    few = omega (arith, kept.rooted.few, length-map places' is_taken, length-map places is_taken, length-set places home.0 free, length-set b.tables.names home.0 None);
  }

  home_within : home.0 < length places
  home_within = taken_within places home.0 freed_taken

  pub freed_kept : AreKept after places'
  freed_kept = record {
    rooted = freed_rooted;
    filed = filed_named after freed_files;
    named = (named_less b.tables.names b.serials b.taken kept.named home.0 freed_below some).0;
    shared = freed_shared;
    files = freed_files;
    sized = length-set b.tables.names home.0 None ∙ kept.sized;
    living = kept.living;
    homes = omega (arith, length-set places home.0 free, kept.homes);
    free =
        (let s = sum_by-set (λ (p : HomePlace). cond (is_free p) 1 0) places home.0 free free home_within in
        let old = taken_one (place places home.0) freed_taken in
        omega (arith, s, old, freed_some, kept.free));
    few = kept.few;
  }
