-- What is kept beside a store agrees with it once a page of a file is set, whatever the drum.
use Rattle.std.proofs.Common.{◌≡◌, ◌≢◌, inl, inr, ℕ, ◌+◌, ◌-◌, ◌^◌, ◌<◌, ◌≤◌, List, [], ◌∷◌, true, false, cond, Option, None, Some, is_some, length, map, refl, sym, ◌∙◌, ap, subst, arith}
use Rattle.std.specs.Prelude.{count_by, slice_index_or, slice_set}
use Rattle.std.specs.FinMap as fin
use Rattle.std.specs.Ordering.{nat_cmp, eq_by_cmp}
use Rattle.std.proofs.lemmas.Bool.{cases_eq}
use Rattle.std.proofs.lemmas.Bool.Decides.{nat_tests}
use Rattle.std.proofs.lemmas.List.{get_or-set_same, get_or-set_other, length-map, length-set}
use Rattle.std.proofs.lemmas.List.Sums.{sum_by-cons, sum_by-set}
use Rattle.machine_names.specs.declared.names.ForkName.{ForkName}
use Rattle.machine_names.specs.Orders.{FilePage, file_page_cmp}
use Rattle.page_homes.specs.declared.homes.Home.{Home}
use Rattle.page_contracts.specs.Stores.{HomePlace, free, away, here, is_free, is_taken, place}
use Rattle.share_table.specs.declared.shares.Share.{Share}
use Rattle.share_table.specs.Shares.{Shares, one_fewer, one_more, page_at}
use Rattle.flat_tables.specs.SlotTables.{filed_total, share_of}
use Rattle.flat_pages.proofs.FileCounts.{joined_is, parted_is}
use Rattle.flat_tables.proofs.FiledHomes.{at_itself, at_other, filed_less, filed_more, filed_order, filed_some, filed_within, filed_without}
use Rattle.pager_walk.specs.MapPages.{fork_at, root_at}
use Rattle.pager_walk.specs.PagedMaps.{AreRooted, name_at}
use Rattle.pager_walk.proofs.Looking.{taken_map, taken_within}
use Rattle.paged_tables.specs.FiledTables.{filed_freed, filed_joined, filed_left, with_share}
use Rattle.paged_tables.specs.NameCounts.{count_of, counts, share_at}
use Rattle.paged_tables.specs.PagedTables.{AreFiled, AreKept, AreShared, Beside}
use Rattle.paged_tables.specs.PagedTouches.{names_at}
use Rattle.paged_tables.proofs.Counted.{counts_at}
use Rattle.flat_pages.proofs.FileCounts.{InRange, filed_few}
use Rattle.paged_tables.proofs.FiledShares.{gone_counts, gone_shared, joined_one, left_two, more_counts, more_shared, name_below}
use Rattle.paged_tables.proofs.Naming.{named_less}
use Rattle.paged_tables.proofs.Sharing.{count_here, count_other, recounted, shared_recounted}

fewer_most : (n : ℕ) → n ≤ one_fewer n + 1
fewer_most n = grind (arith, nat_tests)

more_least : (m n : ℕ) → m ≤ n → m < 2 ^ 31 → m + 1 ≤ one_more n
more_least m n l k = grind (arith, nat_tests, l, k)

-- a home is that of few pages of files
pub filed_small : (b : Beside) (places : List HomePlace) → AreKept b places → (k : ℕ) → share_of b.filed k < 2 ^ 31
filed_small b places kept k = omega (arith, kept.files.count k, filed_few b.files kept.files.within k)

-- a home that has no share leaves room for one
pub room_there : (xs : List (Option Share)) (h : ℕ) → h < length xs → share_at xs h ≡ None → count_by is_some xs < length xs
room_there xs h l none =
    let s = sum_by-set (λ (o : Option Share). cond (is_some o) 1 0) xs h (Some (record { 0 = 0 })) None l in
    let was : ◌≡◌ {A = ℕ} (cond (is_some (share_at xs h)) 1 0) 0 = ap (λ o. cond (is_some o) 1 0) none in
    omega (arith, s, was, most (slice_set xs h (Some (record { 0 = 0 }))), length-set xs h (Some (record { 0 = 0 })))
  where
    most : (ys : List (Option Share)) → count_by is_some ys ≤ length ys
    most [] = omega arith
    most (y ∷ ys) = (let rest = most ys in let first = one (is_some y) in omega (arith, rest, first, sum_by-cons (λ (o : Option Share). cond (is_some o) 1 0) y ys))
      where
        one : (c : _) → cond c 1 0 ≤ 1
        one true = omega arith
        one false = omega arith

-- where no name goes, maps have their homes
rooted_so : (b : Beside) (places : List HomePlace) → AreKept b places → (shares : Shares) → AreRooted (record b.tables { shares = shares }) (map is_taken places)
rooted_so b places kept shares = record { numbered = kept.rooted.numbered; there = kept.rooted.there; apart = kept.rooted.apart; unnamed = kept.rooted.unnamed; named = kept.rooted.named; few = kept.rooted.few }

-- the page of a home gets a share
module _ (b : Beside) (places : List HomePlace) (kept : AreKept b places) (h : Home) (s : Share) (none : share_at b.shared h.0 ≡ None) (fresh : page_at b.tables.shares s.0 ≡ None) (inside : s.0 < b.tables.shares.room) (named : is_some (name_at b.tables.names h.0) ≡ true) where
  pub share_kept : AreKept (with_share b h s) places
  share_kept =
      let same = more_counts b.tables.shares b.tables.names b.shared kept.shared h.0 s none fresh inside named in
      record {
        rooted = rooted_so b places kept (with_share b h s).tables.shares;
        filed = kept.filed;
        named = kept.named;
        shared = more_shared b.tables.shares b.tables.names b.shared kept.shared h.0 s none fresh inside named;
        files = record {
          within = kept.files.within;
          homes = kept.files.homes;
          count = kept.files.count;
          few = λ k.
              (let there : names_at (with_share b h s) k ≡ names_at b k = sym (counts_at (with_share b h s).tables.shares b.tables.names (with_share b h s).shared k) ∙ ap (λ xs. share_of xs k) same ∙ counts_at b.tables.shares b.tables.names b.shared k in
              omega (arith, there, kept.files.few k));
        };
        sized = kept.sized;
        living = kept.living;
        homes = kept.homes;
        free = kept.free;
        few = kept.few;
      }

module _ (b : Beside) (places : List HomePlace) (kept : AreKept b places) (f : FilePage ℕ) (h : Home) where
  -- the page of the home is counted once more or less, and files name this
  recounted_kept : (s : Share) (is : share_at b.shared h.0 ≡ Some s) (n : ℕ) (shares : Shares) → shares ≡ recounted b.tables.shares b.tables.names b.shared kept.shared h.0 s is n
      → (b' : Beside) → b' ≡ record b { tables = record b.tables { shares = shares }; filed = b'.filed; files = b'.files }
      → AreFiled b' → ((g : FilePage ℕ) (k : Home) → fin.get b'.files g ≡ Some k → is_some (name_at b.tables.names k.0) ≡ true) → AreKept b' places
  recounted_kept s is n shares same b' is_so files named =
      let shared : AreShared shares b.tables.names b.shared = subst (λ (x : Shares). AreShared x b.tables.names b.shared) (sym same) (shared_recounted b.tables.shares b.tables.names b.shared kept.shared h.0 s is n) in
      let all : AreKept (record b { tables = record b.tables { shares = shares }; filed = b'.filed; files = b'.files }) places = record {
        rooted = rooted_so b places kept shares;
        filed = named;
        named = kept.named;
        shared = shared;
        files = subst AreFiled is_so files;
        sized = kept.sized;
        living = kept.living;
        homes = kept.homes;
        free = kept.free;
        few = kept.few;
      } in
      subst (λ (x : Beside). AreKept x places) (sym is_so) all

  was_there : (g : FilePage ℕ) (k : Home) → fin.get (fin.remove b.files f) g ≡ Some k → fin.get b.files g ≡ Some k
  was_there g k is = by (eq_by_cmp (file_page_cmp nat_cmp) g f) (sym (fin.get-remove filed_order b.files f g) ∙ is)
    where
      by : (c : _) → cond c None (fin.get b.files g) ≡ Some k → fin.get b.files g ≡ Some k
      by true e = absurd (cc e)
      by false e = e

  module _ (there : fin.get b.files f ≡ Some h) where
    pub filed_least : 1 ≤ share_of b.filed h.0
    filed_least = omega (arith, filed_some b.files f h there, kept.files.count h.0)

    pub filed_below : h.0 < length b.filed
    filed_below = omega (arith, kept.files.homes, name_below b.tables.names h.0 (kept.filed f h there))

    -- the page keeps another name
    module _ (two : 2 ≤ names_at b h.0) where
      left_files : (s : Share) (is : share_at b.shared h.0 ≡ Some s) (shares : Shares) → shares ≡ recounted b.tables.shares b.tables.names b.shared kept.shared h.0 s is (one_fewer (names_at b h.0))
          → AreFiled (record b { tables = record b.tables { shares = shares }; filed = slice_set b.filed h.0 (share_of b.filed h.0 - 1); files = fin.remove b.files f })
      left_files s is shares same = record {
        within = filed_without b.files f kept.files.within;
        homes = length-set b.filed h.0 (share_of b.filed h.0 - 1) ∙ kept.files.homes;
        count = λ k. omega (arith, parted_is b.filed h filed_least k, kept.files.count k, filed_less b.files f h k there);
        few = λ k. subst (λ (x : Shares). share_of (slice_set b.filed h.0 (share_of b.filed h.0 - 1)) k ≤ count_of x (name_at b.tables.names k) (share_at b.shared k)) (sym same) (elim (cases_eq k h.0) [
          | inl own ↦ subst (λ (j : ℕ). share_of (slice_set b.filed h.0 (share_of b.filed h.0 - 1)) j ≤ count_of (recounted b.tables.shares b.tables.names b.shared kept.shared h.0 s is (one_fewer (names_at b h.0))) (name_at b.tables.names j) (share_at b.shared j)) (sym own)
              (omega (arith, parted_is b.filed h filed_least h.0, at_itself h, kept.files.few h.0, fewer_most (names_at b h.0), count_here b.tables.shares b.tables.names b.shared kept.shared h.0 s is (one_fewer (names_at b h.0))))
          | inr other ↦ omega (arith, parted_is b.filed h filed_least k, kept.files.few k, count_other b.tables.shares b.tables.names b.shared kept.shared h.0 s is (one_fewer (names_at b h.0)) k other)
        ]);
      }

      pub left_kept : AreKept (filed_left b f h) places
      left_kept =
          let t = left_two b.tables.shares b.tables.names b.shared kept.shared h.0 two in
          recounted_kept t.share t.is (one_fewer (names_at b h.0)) (filed_left b f h).tables.shares t.left (filed_left b f h) refl (left_files t.share t.is (filed_left b f h).tables.shares t.left)
          (λ g k is. kept.filed g k (was_there g k is))

    -- the page has no other name
    module _ (one : names_at b h.0 ≡ 1) where
      abbrev gone : Beside
      gone = filed_freed b f h

      some : is_some (name_at b.tables.names h.0) ≡ true
      some = kept.filed f h there

      below : h.0 < length b.tables.names
      below = name_below b.tables.names h.0 some

      taken : is_taken (place places h.0) ≡ true
      taken = sym (taken_map places h.0) ∙ kept.rooted.named h.0 some

      inside : h.0 < length places
      inside = taken_within places h.0 taken

      filed_one : share_of b.filed h.0 ≡ 1
      filed_one = omega (arith, filed_least, kept.files.few h.0, one)

      none_left : filed_total h.0 (fin.remove b.files f) ≡ 0
      none_left = omega (arith, filed_one, kept.files.count h.0, filed_less b.files f h h.0 there, at_itself h)

      name_here : name_at gone.tables.names h.0 ≡ None
      name_here = get_or-set_same b.tables.names h.0 None None below

      name_other : (k : ℕ) → k ≢ h.0 → name_at gone.tables.names k ≡ name_at b.tables.names k
      name_other k ne = get_or-set_other b.tables.names h.0 k None None ne

      root_apart : (k : ℕ) (g : ForkName) → fork_at b.tables.maps k ≡ Some g → (root_at b.tables.maps k).0 ≢ h.0
      root_apart k g is same = let z : false ≡ true = sym (ap is_some (kept.rooted.unnamed k g is)) ∙ ap (λ j. is_some (name_at b.tables.names j)) same ∙ some in cc z

      taken_other : (k : ℕ) → k ≢ h.0 → slice_index_or (map is_taken (slice_set places h.0 free)) k false ≡ slice_index_or (map is_taken places) k false
      taken_other k ne = taken_map (slice_set places h.0 free) k ∙ ap is_taken (get_or-set_other places h.0 k free free ne) ∙ sym (taken_map places k)

      not_free : (p : HomePlace) → is_taken p ≡ true → ◌≡◌ {A = ℕ} (cond (is_free p) 1 0) 0
      not_free free e = absurd (cc e)
      not_free away e = refl
      not_free (here words) e = refl

      filed_apart : (g : FilePage ℕ) (k : Home) → fin.get (fin.remove b.files f) g ≡ Some k → k.0 ≢ h.0
      filed_apart g k is same = omega (arith, filed_some (fin.remove b.files f) g k is, ap (λ j. filed_total j (fin.remove b.files f)) same, none_left)

      count_kept : (k : ℕ) → k ≢ h.0 → count_of gone.tables.shares (name_at gone.tables.names k) (share_at gone.shared k) ≡ names_at b k
      count_kept k ne =
          sym (counts_at gone.tables.shares gone.tables.names gone.shared k) ∙ ap (λ xs. share_of xs k) (gone_counts b.tables.shares b.tables.names b.shared kept.shared h.0 one)
          ∙ get_or-set_other (counts b.tables.shares b.tables.names b.shared) h.0 k 0 0 ne ∙ counts_at b.tables.shares b.tables.names b.shared k

      filed_here : share_of gone.filed h.0 ≡ 0
      filed_here = get_or-set_same b.filed h.0 0 0 filed_below

      gone_files : AreFiled gone
      gone_files = record {
        within = filed_without b.files f kept.files.within;
        homes = length-set b.filed h.0 0 ∙ kept.files.homes ∙ sym (length-set b.tables.names h.0 None);
        count = λ k. elim (cases_eq k h.0) [
          | inl own ↦ ap (share_of gone.filed) own ∙ filed_here ∙ sym (ap (λ j. filed_total j (fin.remove b.files f)) own ∙ none_left)
          | inr ne ↦ omega (arith, get_or-set_other b.filed h.0 k 0 0 ne, kept.files.count k, filed_less b.files f h k there, at_other k h (λ e. ne (sym e)))
        ];
        few = λ k. elim (cases_eq k h.0) [
          | inl own ↦ omega (arith, ap (share_of gone.filed) own, filed_here)
          | inr ne ↦ omega (arith, get_or-set_other b.filed h.0 k 0 0 ne, kept.files.few k, count_kept k ne)
        ];
      }

      pub gone_kept : AreKept gone (slice_set places h.0 free)
      gone_kept =
          let fewer = named_less b.tables.names b.serials b.taken kept.named h.0 below some in
          record {
            rooted = record {
              numbered = kept.rooted.numbered;
              there = λ k g is. taken_other (root_at b.tables.maps k).0 (root_apart k g is) ∙ kept.rooted.there k g is;
              apart = kept.rooted.apart;
              unnamed = λ k g is. name_other (root_at b.tables.maps k).0 (root_apart k g is) ∙ kept.rooted.unnamed k g is;
              named = λ k is. elim (cases_eq k h.0) [
                | inl own ↦ absurd (let z : false ≡ true = sym (ap is_some (ap (name_at gone.tables.names) own ∙ name_here)) ∙ is in cc z)
                | inr ne ↦ taken_other k ne ∙ kept.rooted.named k (sym (ap is_some (name_other k ne)) ∙ is)
              ];
              few = omega (arith, length-map (slice_set places h.0 free) is_taken, length-set places h.0 free, length-map places is_taken, kept.rooted.few, length-set b.tables.names h.0 None);
            };
            filed = λ g k is. ap is_some (name_other k.0 (filed_apart g k is)) ∙ kept.filed g k (was_there g k is);
            named = fewer.0;
            shared = gone_shared b.tables.shares b.tables.names b.shared kept.shared h.0 one;
            files = gone_files;
            sized = length-set b.tables.names h.0 None ∙ kept.sized;
            living = kept.living;
            homes = omega (arith, length-set places h.0 free, kept.homes);
            free =
                (let s = sum_by-set (λ (p : HomePlace). cond (is_free p) 1 0) places h.0 free free inside in
                let old = not_free (place places h.0) taken in
                let some_taken = fewer.1 in
                omega (arith, s, old, some_taken, kept.free));
            few = kept.few;
          }

  -- a file names the page of a home, which has a share
  module _ (s : Share) (is : share_at b.shared h.0 ≡ Some s) (none : fin.get b.files f ≡ None) (bounds : InRange f) where
    joined_files : (shares : Shares) → shares ≡ recounted b.tables.shares b.tables.names b.shared kept.shared h.0 s is (one_more (names_at b h.0))
        → AreFiled (record b { tables = record b.tables { shares = shares }; filed = slice_set b.filed h.0 (share_of b.filed h.0 + 1); files = fin.insert b.files f h })
    joined_files shares same =
        let below : h.0 < length b.filed = omega (arith, kept.files.homes, name_below b.tables.names h.0 (kept.shared.named h.0 s is)) in
        record {
          within = filed_within b.files f h bounds kept.files.within;
          homes = length-set b.filed h.0 (share_of b.filed h.0 + 1) ∙ kept.files.homes;
          count = λ k. omega (arith, joined_is b.filed h below k, kept.files.count k, filed_more b.files f h k none);
          few = λ k. subst (λ (x : Shares). share_of (slice_set b.filed h.0 (share_of b.filed h.0 + 1)) k ≤ count_of x (name_at b.tables.names k) (share_at b.shared k)) (sym same) (elim (cases_eq k h.0) [
            | inl own ↦ subst (λ (j : ℕ). share_of (slice_set b.filed h.0 (share_of b.filed h.0 + 1)) j ≤ count_of (recounted b.tables.shares b.tables.names b.shared kept.shared h.0 s is (one_more (names_at b h.0))) (name_at b.tables.names j) (share_at b.shared j)) (sym own)
                (omega (arith, joined_is b.filed h below h.0, at_itself h, more_least (share_of b.filed h.0) (names_at b h.0) (kept.files.few h.0) (filed_small b places kept h.0), count_here b.tables.shares b.tables.names b.shared kept.shared h.0 s is (one_more (names_at b h.0))))
            | inr other ↦ omega (arith, joined_is b.filed h below k, at_other k h (λ e. other (sym e)), kept.files.few k, count_other b.tables.shares b.tables.names b.shared kept.shared h.0 s is (one_more (names_at b h.0)) k other)
          ]);
        }

    pub joined_kept : AreKept (filed_joined b f h) places
    joined_kept =
        let same = joined_one b.tables.shares b.tables.names b.shared kept.shared h.0 s is in
        recounted_kept s is (one_more (names_at b h.0)) (filed_joined b f h).tables.shares same (filed_joined b f h) refl (joined_files (filed_joined b f h).tables.shares same)
        (λ g k e. by g k (eq_by_cmp (file_page_cmp nat_cmp) g f) (sym (fin.get-insert filed_order b.files f h g) ∙ e))
      where
        by : (g : FilePage ℕ) (k : Home) (c : _) → cond c (Some h) (fin.get b.files g) ≡ Some k → is_some (name_at b.tables.names k.0) ≡ true
        by g k true e = let own : h ≡ k = cc e in subst (λ (x : Home). is_some (name_at b.tables.names x.0) ≡ true) own (kept.shared.named h.0 s is)
        by g k false e = kept.filed g k e
