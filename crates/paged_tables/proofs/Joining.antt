-- The page of a home is named once more.
use Rattle.std.proofs.Common.{◌≡◌, ◌≢◌, inl, inr, ℕ, ◌+◌, ◌<◌, ◌≤◌, ◌^◌, List, true, cond, Option, None, Some, is_some, length, refl, sym, ◌∙◌, ap, subst, arith}
use Rattle.std.specs.Prelude.{IsSome, slice_set}
use Rattle.std.specs.Cmp.{nat_cmp_total}
use Rattle.std.specs.FinMap as fin
use Rattle.std.specs.Option.{option_map, option_map_or, option_and_then}
use Rattle.std.proofs.lemmas.Bool.{cases_eq}
use Rattle.std.proofs.lemmas.Bool.Decides.{nat_tests}
use Rattle.std.proofs.lemmas.List.{get_or-set_same, get_or-set_other, length-set}
use Rattle.std.proofs.lemmas.List.Sums.{count_by-le-length, sum_by-set}
use Rattle.machine_names.proofs.Keys.{get_put, get_put_other}
use Rattle.machine_names.specs.declared.names.Access.{Access}
use Rattle.machine_names.specs.declared.names.PageName.{PageName}
use Rattle.page_homes.specs.declared.homes.Home.{Home}
use Rattle.page_contracts.specs.Stores.{HomePlace}
use Rattle.share_table.specs.declared.pointer.Pointer.{Pointer}
use Rattle.share_table.specs.declared.pointer.Pointer.TheVariants as pointed
use Rattle.share_table.specs.declared.shares.Share.{Share}
use Rattle.share_table.specs.declared.shares.SharedPage.{SharedPage}
use Rattle.share_table.specs.Shares.{Shares, joined, joined_to, one_more, page_at, with_page}
use Rattle.flat_tables.specs.SlotTables.{share_of}
use Rattle.pager_walk.specs.Decoding.{pointer_in}
use Rattle.pager_walk.specs.PagedMaps.{Tables, entry_for, entry_in, name_at, page_entry}
use Rattle.paged_tables.specs.MadePages.{with_shares}
use Rattle.paged_tables.specs.NameCounts.{count_of, counts, share_at}
use Rattle.paged_tables.specs.PagedTables.{AreKept, AreShared, Beside}
use Rattle.paged_tables.specs.PagedTouches.{names_at}
use Rattle.paged_tables.specs.SetEntries.{JoinsPage, SharesPage, shared_anew}
use Rattle.paged_tables.proofs.Counted.{counts_at, counts_length}
use Rattle.paged_tables.proofs.LeftOnce.{entries_same}
use Rattle.paged_tables.proofs.RenamedPages.{named_within}
use Rattle.paged_tables.proofs.Sharing.{SharesHome, count_here, count_other, counts_recounted, homes_still, recounted, same_numbers, shared_recounted, shares_home}

-- the share that a page has then is there
pub share_there : (b mid : Beside) (home : Home) (s : Share) → SharesPage b mid home s → ((t : Share) → share_at b.shared home.0 ≡ Some t → IsSome (page_at b.tables.shares t.0)) → IsSome (page_at mid.tables.shares s.0)
share_there b mid home s x there = by (share_at b.shared home.0) refl
  where
    by : (o : Option Share) → share_at b.shared home.0 ≡ o → IsSome (page_at mid.tables.shares s.0)
    by (Some t) e = let y = x.had t e in subst (λ (z : Beside). IsSome (page_at z.tables.shares s.0)) (sym y.1) (subst (λ (r : Share). IsSome (page_at b.tables.shares r.0)) y.0 (there t e))
    by None e =
        let y = x.anew e in
        subst (λ (z : Beside). IsSome (page_at z.tables.shares s.0)) (sym y.2) (ap is_some (get_put nat_cmp_total fin.nat_cmp-IsAntisymmetric b.tables.shares.pages s.0 s.0 (record { home = home; count = 1 }) refl))

-- what stands of tables that have the shares of others
pub record Stays (b b' : Beside) (places : List HomePlace) (home : Home) (s : Share) : Type 0 where
  pub kept : AreKept b' places
  pub is : share_at b'.shared home.0 ≡ Some s
  pub same : b' ≡ record (with_shares b b'.tables.shares) { shared = b'.shared }
  pub counts : counts b'.tables.shares b'.tables.names b'.shared ≡ counts b.tables.shares b.tables.names b.shared
  pub entries : (w : ℕ) → IsSome (entry_in b.tables w) → entry_in b'.tables w ≡ entry_in b.tables w

module _ (b : Beside) (places : List HomePlace) (kept : AreKept b places) (home : Home) (some : is_some (name_at b.tables.names home.0) ≡ true) where
  pub join_within : home.0 < length b.shared
  join_within = omega (arith, named_within b.tables.names home.0 some, kept.shared.homes)

  -- there is room for a share of a page that has none
  pub join_room : share_at b.shared home.0 ≡ None → fin.len b.tables.shares.pages < b.tables.shares.room
  join_room none =
      let s = sum_by-set (λ (o : Option Share). cond (is_some o) 1 0) b.shared home.0 (Some (record { 0 = 0 })) None join_within in
      let was : ◌≡◌ {A = ℕ} (cond (is_some (share_at b.shared home.0)) 1 0) 0 = ap (λ (o : Option Share). cond (is_some o) 1 0) none in
      let most = count_by-le-length is_some (slice_set b.shared home.0 (Some (record { 0 = 0 }))) in
      omega (arith, s, was, most, length-set b.shared home.0 (Some (record { 0 = 0 })), kept.shared.count, kept.shared.room, kept.shared.homes)

  pub join_there : (s : Share) → share_at b.shared home.0 ≡ Some s → IsSome (page_at b.tables.shares s.0)
  join_there s e = ap is_some (shares_home b.tables.shares b.tables.names b.shared kept.shared home.0 s e).is

  -- a share that is new
  module _ (s : Share) (none : share_at b.shared home.0 ≡ None) (free : page_at b.tables.shares s.0 ≡ None) (below : s.0 < b.tables.shares.room) where
    abbrev b1 : Beside
    b1 = shared_anew b home s

    abbrev page : SharedPage
    page = record { home = home; count = 1 }

    own_page : page_at b1.tables.shares s.0 ≡ Some page
    own_page = get_put nat_cmp_total fin.nat_cmp-IsAntisymmetric b.tables.shares.pages s.0 s.0 page refl

    other_page : (k : ℕ) → k ≢ s.0 → page_at b1.tables.shares k ≡ page_at b.tables.shares k
    other_page k ne = get_put_other nat_cmp_total fin.nat_cmp-IsAntisymmetric b.tables.shares.pages s.0 k page ne

    own_share : share_at b1.shared home.0 ≡ Some s
    own_share = get_or-set_same b.shared home.0 (Some s) None join_within

    other_share : (k : ℕ) → k ≢ home.0 → share_at b1.shared k ≡ share_at b.shared k
    other_share k ne = get_or-set_other b.shared home.0 k (Some s) None ne

    -- a page that is there has another share
    there_other : (t : ℕ) (p : SharedPage) → page_at b.tables.shares t ≡ Some p → t ≢ s.0
    there_other t p e same = let z : None ≡ Some p = sym free ∙ ap (page_at b.tables.shares) (sym same) ∙ e in cc z

    anew_shared : AreShared b1.tables.shares b1.tables.names b1.shared
    anew_shared = record {
      stands = λ k t e. elim (cases_eq k home.0) [
        | inl same ↦
            let one : s ≡ t = (let z : Some s ≡ Some t = sym own_share ∙ ap (share_at b1.shared) (sym same) ∙ e in cc z) in
            ap (λ (x : Share). option_map (λ (p : SharedPage). p.home) (page_at b1.tables.shares x.0)) (sym one) ∙ ap (option_map (λ (p : SharedPage). p.home)) own_page ∙ (λ i. Some (record { 0 = sym same i }))
        | inr other ↦
            let was = sym (other_share k other) ∙ e in
            let x = shares_home b.tables.shares b.tables.names b.shared kept.shared k t was in
            ap (option_map (λ (p : SharedPage). p.home)) (other_page t.0 (there_other t.0 x.page x.is)) ∙ kept.shared.stands k t was
      ];
      back = λ t p e. elim (cases_eq t s.0) [
        | inl same ↦
            let one : page ≡ p = (let z : Some page ≡ Some p = sym own_page ∙ ap (page_at b1.tables.shares) (sym same) ∙ e in cc z) in
            ap (λ (q : SharedPage). share_at b1.shared q.home.0) (sym one) ∙ own_share ∙ (λ i. Some (record { 0 = sym same i }))
        | inr other ↦
            let was = kept.shared.back t p (sym (other_page t other) ∙ e) in
            other_share p.home.0 (λ same. (let z : None ≡ Some (record { 0 = t }) = sym none ∙ ap (share_at b.shared) (sym same) ∙ was in cc z)) ∙ was
      ];
      named = λ k t e. elim (cases_eq k home.0) [
        | inl same ↦ ap (λ j. is_some (name_at b.tables.names j)) same ∙ some
        | inr other ↦ kept.shared.named k t (sym (other_share k other) ∙ e)
      ];
      homes = length-set b.shared home.0 (Some s) ∙ kept.shared.homes;
      room = kept.shared.room;
      below = λ t p e. elim (cases_eq t s.0) [
        | inl same ↦ omega (arith, same, below)
        | inr other ↦ kept.shared.below t p (sym (other_page t other) ∙ e)
      ];
      count =
          (let n = fin.len-insert nat_cmp_total b.tables.shares.pages s.0 page ∙ ap (λ (o : Option SharedPage). cond (is_some o) (fin.len b.tables.shares.pages) (fin.len b.tables.shares.pages + 1)) free in
          let c = sum_by-set (λ (o : Option Share). cond (is_some o) 1 0) b.shared home.0 (Some s) None join_within in
          let was : ◌≡◌ {A = ℕ} (cond (is_some (share_at b.shared home.0)) 1 0) 0 = ap (λ (o : Option Share). cond (is_some o) 1 0) none in
          omega (arith, n, c, was, kept.shared.count));
    }

    anew_counts : (k : ℕ) → count_of b1.tables.shares (name_at b.tables.names k) (share_at b1.shared k) ≡ count_of b.tables.shares (name_at b.tables.names k) (share_at b.shared k)
    anew_counts k = elim (cases_eq k home.0) [
      | inl same ↦
          ap (λ j. count_of b1.tables.shares (name_at b.tables.names j) (share_at b1.shared j)) same ∙ ap (count_of b1.tables.shares (name_at b.tables.names home.0)) own_share ∙ own (name_at b.tables.names home.0) some
          ∙ sym (ap (λ j. count_of b.tables.shares (name_at b.tables.names j) (share_at b.shared j)) same ∙ ap (count_of b.tables.shares (name_at b.tables.names home.0)) none ∙ one (name_at b.tables.names home.0) some)
      | inr other ↦ ap (count_of b1.tables.shares (name_at b.tables.names k)) (other_share k other) ∙ by (name_at b.tables.names k) (share_at b.shared k) refl
    ]
      where
        own : (o : Option PageName) → is_some o ≡ true → count_of b1.tables.shares o (Some s) ≡ 1
        own None e = absurd (cc e)
        own (Some n) e = ap (λ (p : Option SharedPage). option_map_or (λ (q : SharedPage). q.count) p 0) own_page

        one : (o : Option PageName) → is_some o ≡ true → count_of b.tables.shares o None ≡ 1
        one None e = absurd (cc e)
        one (Some n) e = refl

        by : (o : Option PageName) (t : Option Share) → share_at b.shared k ≡ t → count_of b1.tables.shares o t ≡ count_of b.tables.shares o t
        by None t e = refl
        by (Some m) None e = refl
        by (Some m) (Some t) e =
            let x = shares_home b.tables.shares b.tables.names b.shared kept.shared k t e in
            ap (λ (p : Option SharedPage). option_map_or (λ (q : SharedPage). q.count) p 0) (other_page t.0 (there_other t.0 x.page x.is))

    anew_entries : (w : ℕ) → IsSome (entry_in b.tables w) → entry_in b1.tables w ≡ entry_in b.tables w
    anew_entries w = by (pointer_in w)
      where
        shared : (t : Share) (a : Access) (o : Option SharedPage) → page_at b.tables.shares t.0 ≡ o → IsSome (option_and_then (λ (p : SharedPage). page_entry b.tables.names p.home a) o)
            → option_and_then (λ (p : SharedPage). page_entry b.tables.names p.home a) (page_at b1.tables.shares t.0) ≡ option_and_then (λ (p : SharedPage). page_entry b.tables.names p.home a) o
        shared t a None e g = absurd (cc g)
        shared t a (Some p) e g = ap (option_and_then (λ (q : SharedPage). page_entry b.tables.names q.home a)) (other_page t.0 (there_other t.0 p e) ∙ e)

        of : (p : Pointer) → IsSome (entry_for b.tables p) → entry_for b1.tables p ≡ entry_for b.tables p
        of pointed.Empty e = refl
        of (pointed.Private h a) e = refl
        of (pointed.Shared t a) e = shared t a (page_at b.tables.shares t.0) refl e
        of (pointed.Indirect serial p a) e = refl

        by : (o : Option Pointer) → IsSome (option_and_then (entry_for b.tables) o) → option_and_then (entry_for b1.tables) o ≡ option_and_then (entry_for b.tables) o
        by None e = refl
        by (Some p) e = of p e

    anew_stays : Stays b b1 places home s
    anew_stays = record {
      kept = record {
        rooted = record { numbered = kept.rooted.numbered; there = kept.rooted.there; apart = kept.rooted.apart; unnamed = kept.rooted.unnamed; named = kept.rooted.named; few = kept.rooted.few };
        filed = kept.filed;
        named = kept.named;
        shared = anew_shared;
        files = record { within = kept.files.within; homes = kept.files.homes; count = kept.files.count; few = λ k. omega (arith, kept.files.few k, anew_counts k) };
        sized = kept.sized;
        living = kept.living;
        homes = kept.homes;
        free = kept.free;
        few = kept.few;
      };
      is = own_share;
      same = refl;
      counts = same_numbers (counts b1.tables.shares b.tables.names b1.shared) (counts b.tables.shares b.tables.names b.shared)
          (counts_length b1.tables.shares b.tables.names b1.shared ∙ sym (counts_length b.tables.shares b.tables.names b.shared)) (λ k. counts_at b1.tables.shares b.tables.names b1.shared k ∙ anew_counts k ∙ sym (counts_at b.tables.shares b.tables.names b.shared k));
      entries = anew_entries;
    }

  -- the page has a share
  shares_stay : (b' : Beside) (s : Share) → SharesPage b b' home s → Stays b b' places home s
  shares_stay b' s x = by (share_at b.shared home.0) refl
    where
      by : (o : Option Share) → share_at b.shared home.0 ≡ o → Stays b b' places home s
      by (Some t) e =
          let y = x.had t e in
          subst (λ (z : Beside). Stays b z places home s) (sym y.1) (record { kept = kept; is = e ∙ ap Some y.0; same = refl; counts = refl; entries = λ w g. refl })
      by None e = let y = x.anew e in subst (λ (z : Beside). Stays b z places home s) (sym y.2) (anew_stays s e y.0 y.1)

  -- which counts one name more
  module _ (b' : Beside) (z : JoinsPage b b' home) where
    pub first : Stays b z.mid places home z.share
    first = shares_stay z.mid z.share z.first

    abbrev pub n : ℕ
    n = names_at z.mid home.0

    joined_is : joined z.mid.tables.shares z.share.0 ≡ recounted z.mid.tables.shares z.mid.tables.names z.mid.shared first.kept.shared home.0 z.share first.is (one_more n)
    joined_is =
        let x = shares_home z.mid.tables.shares z.mid.tables.names z.mid.shared first.kept.shared home.0 z.share first.is in
        let same : n ≡ x.page.count = ap (count_of z.mid.tables.shares (name_at z.mid.tables.names home.0)) first.is ∙ of x (name_at z.mid.tables.names home.0) (first.kept.shared.named home.0 z.share first.is) in
        ap (joined_to z.mid.tables.shares z.share.0) x.is ∙ (λ i. with_page z.mid.tables.shares z.share.0 (record { home = record { 0 = x.home i }; count = one_more (sym same i) }))
      where
        of : (x : SharesHome z.mid.tables.shares home.0 z.share) (o : Option PageName) → is_some o ≡ true → count_of z.mid.tables.shares o (Some z.share) ≡ x.page.count
        of x None e = absurd (cc e)
        of x (Some m) e = ap (λ (p : Option SharedPage). option_map_or (λ (q : SharedPage). q.count) p 0) x.is

    abbrev pub counted : Shares
    counted = recounted z.mid.tables.shares z.mid.tables.names z.mid.shared first.kept.shared home.0 z.share first.is (one_more n)

    joined_beside : b' ≡ with_shares z.mid counted
    joined_beside = z.beside ∙ ap (with_shares z.mid) joined_is

    pub join_beside : b' ≡ record (with_shares b counted) { shared = z.mid.shared }
    join_beside = joined_beside ∙ ap (λ (x : Beside). with_shares x counted) first.same

    more : (m : ℕ) → m ≤ one_more m
    more m = grind (arith, nat_tests)

    pub join_kept : AreKept b' places
    join_kept = subst (λ (x : Beside). AreKept x places) (sym joined_beside) (record {
      rooted = record { numbered = first.kept.rooted.numbered; there = first.kept.rooted.there; apart = first.kept.rooted.apart; unnamed = first.kept.rooted.unnamed; named = first.kept.rooted.named; few = first.kept.rooted.few };
      filed = first.kept.filed;
      named = first.kept.named;
      shared = shared_recounted z.mid.tables.shares z.mid.tables.names z.mid.shared first.kept.shared home.0 z.share first.is (one_more n);
      files = record {
        within = first.kept.files.within;
        homes = first.kept.files.homes;
        count = first.kept.files.count;
        few = λ k. elim (cases_eq k home.0) [
          | inl own ↦ subst (λ (j : ℕ). share_of z.mid.filed j ≤ count_of counted (name_at z.mid.tables.names j) (share_at z.mid.shared j)) (sym own)
              (omega (arith, first.kept.files.few home.0, more n, count_here z.mid.tables.shares z.mid.tables.names z.mid.shared first.kept.shared home.0 z.share first.is (one_more n)))
          | inr other ↦ omega (arith, first.kept.files.few k, count_other z.mid.tables.shares z.mid.tables.names z.mid.shared first.kept.shared home.0 z.share first.is (one_more n) k other)
        ];
      };
      sized = first.kept.sized;
      living = first.kept.living;
      homes = first.kept.homes;
      free = first.kept.free;
      few = first.kept.few;
    })

    pub join_entries : (w : ℕ) → IsSome (entry_in b.tables w) → entry_in (record b.tables { shares = counted }) w ≡ entry_in b.tables w
    join_entries w there =
        let names : z.mid.tables ≡ record b.tables { shares = z.mid.tables.shares } = ap (λ (x : Beside). x.tables) first.same in
        let one : entry_in (record z.mid.tables { shares = counted }) w ≡ entry_in z.mid.tables w = entries_same z.mid.tables counted (homes_still z.mid.tables.shares z.mid.tables.names z.mid.shared first.kept.shared home.0 z.share first.is (one_more n)) w in
        ap (λ (x : Tables). entry_in (record x { shares = counted }) w) (sym names) ∙ one ∙ first.entries w there

    one_is : (m : ℕ) → m < 2 ^ 31 → one_more m ≡ m + 1
    one_is m l = grind (arith, nat_tests, l)

    pub join_counts : share_of (counts b.tables.shares b.tables.names b.shared) home.0 < 2 ^ 31
        → counts counted b.tables.names z.mid.shared ≡ slice_set (counts b.tables.shares b.tables.names b.shared) home.0 (share_of (counts b.tables.shares b.tables.names b.shared) home.0 + 1)
    join_counts small =
        let names : z.mid.tables.names ≡ b.tables.names = ap (λ (x : Beside). x.tables.names) first.same in
        let here : n ≡ share_of (counts b.tables.shares b.tables.names b.shared) home.0 = sym (counts_at z.mid.tables.shares z.mid.tables.names z.mid.shared home.0) ∙ ap (λ xs. share_of xs home.0) first.counts in
        ap (λ ns. counts counted ns z.mid.shared) (sym names) ∙ counts_recounted z.mid.tables.shares z.mid.tables.names z.mid.shared first.kept.shared home.0 z.share first.is (one_more n)
        ∙ (λ i. slice_set (first.counts i) home.0 (one_more n)) ∙ ap (slice_set (counts b.tables.shares b.tables.names b.shared) home.0) (one_is n (omega (arith, small, here)) ∙ ap (λ m. m + 1) here)
