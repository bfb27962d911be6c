-- The shares of homes, once the page of one is named once more or less, or goes.
use Rattle.std.proofs.Common.{◌≡◌, ◌≢◌, inl, inr, ℕ, ◌+◌, ◌-◌, ◌<◌, ◌≤◌, List, true, false, cond, Option, None, Some, is_some, length, refl, sym, ◌∙◌, ap, arith}
use Rattle.std.specs.Prelude.{slice_index, slice_set, count_by, ◌==◌}
use Rattle.std.specs.Cmp.{nat_cmp_total}
use Rattle.std.specs.FinMap as fin
use Rattle.std.specs.Option.{option_map, option_map_or}
use Rattle.std.proofs.lemmas.Bool.{cases_eq, cases_lt}
use Rattle.std.proofs.lemmas.Bool.Decides.{eqb_tells}
use Rattle.std.proofs.lemmas.List.{get_or-set_same, get_or-set_other, get_or_past, length-set, set-get_or}
use Rattle.std.proofs.lemmas.List.Sums.{sum_by-set}
use Rattle.machine_names.proofs.Keys.{get_put, get_put_other, get_gone, get_gone_other}
use Rattle.machine_names.specs.declared.names.PageName.{PageName}
use Rattle.share_table.specs.declared.shares.Share.{Share}
use Rattle.share_table.specs.declared.shares.SharedPage.{SharedPage}
use Rattle.share_table.specs.Shares.{Shares, joined_to, left_by, one_fewer, one_more, page_at, with_page, without}
use Rattle.flat_tables.specs.SlotTables.{share_of}
use Rattle.pager_walk.specs.PagedMaps.{name_at}
use Rattle.paged_tables.specs.FiledTables.{joined_by_one}
use Rattle.paged_tables.specs.LeftShares.{left_by_one}
use Rattle.paged_tables.specs.NameCounts.{count_of, counts, share_at}
use Rattle.paged_tables.specs.PagedTables.{AreShared}
use Rattle.paged_tables.proofs.Counted.{counts_at, counts_length}
use Rattle.paged_tables.proofs.Sharing.{SharesHome, recounted, same_numbers, set_none, shares_home}

-- the counts of homes, where one has another count
pub counts_one : (shares shares' : Shares) (names names' : List (Option PageName)) (shared shared' : List (Option Share)) (h n : ℕ) → length names' ≡ length names → h < length names
    → count_of shares' (name_at names' h) (share_at shared' h) ≡ n
    → ((k : ℕ) → k ≢ h → count_of shares' (name_at names' k) (share_at shared' k) ≡ count_of shares (name_at names k) (share_at shared k))
    → counts shares' names' shared' ≡ slice_set (counts shares names shared) h n
counts_one shares shares' names names' shared shared' h n many below here others =
    same_numbers (counts shares' names' shared') (slice_set (counts shares names shared) h n)
    (counts_length shares' names' shared' ∙ many ∙ sym (length-set (counts shares names shared) h n ∙ counts_length shares names shared)) (λ k.
    counts_at shares' names' shared' k ∙ elim (cases_eq k h) [
      | inl same ↦ ap (λ j. count_of shares' (name_at names' j) (share_at shared' j)) same ∙ here ∙ sym (ap (slice_index (slice_set (counts shares names shared) h n)) same ∙ get_or-set_same (counts shares names shared) h n 0 (omega (arith, counts_length shares names shared, below)))
      | inr other ↦ others k other ∙ sym (counts_at shares names shared k) ∙ sym (get_or-set_other (counts shares names shared) h k n 0 other)
    ])

-- a home that has a name, or a share, is below the end
pub name_below : (names : List (Option PageName)) (h : ℕ) → is_some (name_at names h) ≡ true → h < length names
name_below names h some = elim (cases_lt h (length names)) [ inl l ↦ l | inr past ↦ absurd (let z : false ≡ true = sym (ap is_some (get_or_past names h None past)) ∙ some in cc z) ]

module _ (shares : Shares) (names : List (Option PageName)) (shared : List (Option Share)) (a : AreShared shares names shared) (h : ℕ) where
  -- how many names its page has
  abbrev n : ℕ
  n = count_of shares (name_at names h) (share_at shared h)

  pub count_is : (s : Share) → share_at shared h ≡ Some s → (x : SharesHome shares h s) → n ≡ x.page.count
  count_is s is x = ap (count_of shares (name_at names h)) is ∙ of (name_at names h) (a.named h s is)
    where
      of : (o : Option PageName) → is_some o ≡ true → count_of shares o (Some s) ≡ x.page.count
      of None e = absurd (cc e)
      of (Some m) e = ap (λ (p : Option SharedPage). option_map_or (λ (q : SharedPage). q.count) p 0) x.is

  -- a page that has two names or more has a share, which is left by one
  pub record TwoNames : Type 0 where
    pub share : Share
    pub is : share_at shared h ≡ Some share
    pub left : left_by_one shares (share_at shared h) ≡ recounted shares names shared a h share is (one_fewer n)

  not_one : (m : ℕ) → 2 ≤ m → (m == 1) ≡ false
  not_one m l = elim (eqb_tells m 1) [ inl t ↦ absurd (omega (arith, l, t.1)) | inr t ↦ t.0 ]

  pub left_two : 2 ≤ n → TwoNames
  left_two two = by (name_at names h) (share_at shared h) refl two
    where
      some : (s : Share) → share_at shared h ≡ Some s → TwoNames
      some s is =
          let x = shares_home shares names shared a h s is in
          let same : n ≡ x.page.count = count_is s is x in
          record {
            share = s;
            is = is;
            left = ap (left_by_one shares) is ∙ ap (left_by shares s.0) x.is
                ∙ ap (λ c. cond c (without shares s.0) (with_page shares s.0 (record x.page { count = one_fewer x.page.count }))) (not_one x.page.count (omega (arith, two, same)))
                ∙ (λ i. with_page shares s.0 (record { home = record { 0 = x.home i }; count = one_fewer (sym same i) }));
          }

      by : (o : Option PageName) (t : Option Share) → share_at shared h ≡ t → 2 ≤ count_of shares o t → TwoNames
      by None t e l = absurd (omega (arith, l))
      by (Some m) None e l = absurd (omega (arith, l))
      by (Some m) (Some s) e l = some s e

  -- a page that has a share is named once more
  pub joined_one : (s : Share) (is : share_at shared h ≡ Some s) → joined_by_one shares (share_at shared h) ≡ recounted shares names shared a h s is (one_more n)
  joined_one s is =
      let x = shares_home shares names shared a h s is in
      let same : n ≡ x.page.count = count_is s is x in
      ap (joined_by_one shares) is ∙ ap (joined_to shares s.0) x.is ∙ (λ i. with_page shares s.0 (record { home = record { 0 = x.home i }; count = one_more (sym same i) }))

  -- the page of a home that has one name goes
  abbrev pub names_gone : List (Option PageName)
  names_gone = slice_set names h None

  abbrev pub shared_gone : List (Option Share)
  shared_gone = slice_set shared h None

  abbrev pub shares_gone : Shares
  shares_gone = left_by_one shares (share_at shared h)

  no_share : share_at shared_gone h ≡ None
  no_share = elim (cases_lt h (length shared)) [
    | inl l ↦ get_or-set_same shared h None None l
    | inr past ↦ get_or_past shared_gone h None (omega (arith, past, length-set shared h None))
  ]

  other_share : (k : ℕ) → k ≢ h → share_at shared_gone k ≡ share_at shared k
  other_share k ne = get_or-set_other shared h k None None ne

  -- what a share that is there stands for afterwards: all but that of the home is as it was
  pub record Gone : Type 0 where
    pub others : (t : ℕ) → (share_at shared h ≡ Some (record { 0 = t }) → ⊥) → page_at shares_gone t ≡ page_at shares t
    pub own : (t : ℕ) → share_at shared h ≡ Some (record { 0 = t }) → page_at shares_gone t ≡ None
    pub room : shares_gone.room ≡ shares.room
    pub count : fin.len shares_gone.pages ≡ count_by is_some shared_gone

  pub gone : n ≡ 1 → Gone
  gone one = by (share_at shared h) refl
    where
      by : (o : Option Share) → share_at shared h ≡ o → Gone
      by None e =
          let same : shares_gone ≡ shares = ap (left_by_one shares) e in
          record {
            others = λ t ne. ap (λ (x : Shares). page_at x t) same;
            own = λ t is. absurd (let z : None ≡ Some (record { 0 = t }) = sym e ∙ is in cc z);
            room = ap (λ (x : Shares). x.room) same;
            count = ap (λ (x : Shares). fin.len x.pages) same ∙ a.count ∙ ap (count_by is_some) (sym (set_none shared h e));
          }
      by (Some s) e =
          let x = shares_home shares names shared a h s e in
          let same : n ≡ x.page.count = count_is s e x in
          let dropped : shares_gone ≡ without shares s.0 =
          (ap (left_by_one shares) e ∙ ap (left_by shares s.0) x.is
          ∙ ap (λ c. cond c (without shares s.0) (with_page shares s.0 (record x.page { count = one_fewer x.page.count }))) (elim (eqb_tells x.page.count 1) [ inl t ↦ t.0 | inr t ↦ absurd (t.1 (sym same ∙ one)) ])) in
          record {
            others = λ t ne. ap (λ (y : Shares). page_at y t) dropped ∙ get_gone_other nat_cmp_total fin.nat_cmp-IsAntisymmetric shares.pages s.0 t (λ z. ne (e ∙ (λ i. Some (record { 0 = sym z i }))));
            own = λ t is. (let z : Some s ≡ Some (record { 0 = t }) = sym e ∙ is in let own : s ≡ record { 0 = t } = cc z in ap (λ (y : Shares). page_at y t) dropped ∙ get_gone nat_cmp_total fin.nat_cmp-IsAntisymmetric shares.pages s.0 t (ap (λ (y : Share). y.0) (sym own)));
            room = ap (λ (y : Shares). y.room) dropped;
            count =
                (let less = fin.len-remove nat_cmp_total shares.pages s.0 in
                let there : fin.contains_key shares.pages s.0 ≡ true = ap is_some x.is in
                let many : fin.len (fin.remove shares.pages s.0) ≡ fin.len shares.pages - 1 = less ∙ ap (λ c. cond c (fin.len shares.pages - 1) (fin.len shares.pages)) there in
                let parts = sum_by-set (λ (o : Option Share). cond (is_some o) 1 0) shared h None None (omega (arith, a.homes, name_below names h (a.named h s e))) in
                let was : ◌≡◌ {A = ℕ} (cond (is_some (share_at shared h)) 1 0) 1 = ap (λ o. cond (is_some o) 1 0) e in
                let before : fin.len shares_gone.pages ≡ fin.len shares.pages - 1 = ap (λ (y : Shares). fin.len y.pages) dropped ∙ many in
                omega (arith, before, parts, was, a.count));
          }

  module _ (one : n ≡ 1) where
    g : Gone
    g = gone one

    below : h < length names
    below = by (name_at names h) refl one
      where
        by : (o : Option PageName) → name_at names h ≡ o → count_of shares o (share_at shared h) ≡ 1 → h < length names
        by None e k = absurd (omega (arith, k))
        by (Some m) e k = name_below names h (ap is_some e)

    -- a share of another home is not that of this one
    apart : (k : ℕ) (t : Share) → k ≢ h → share_at shared k ≡ Some t → share_at shared h ≡ Some t → ⊥
    apart k t ne e own =
        let x = shares_home shares names shared a k t e in
        let y = shares_home shares names shared a h t own in
        let same : x.page ≡ y.page = (let z : Some x.page ≡ Some y.page = sym x.is ∙ y.is in cc z) in
        ne (sym x.home ∙ ap (λ (p : SharedPage). p.home.0) same ∙ y.home)

    pub gone_shared : AreShared shares_gone names_gone shared_gone
    gone_shared = record {
      stands = λ k t e. elim (cases_eq k h) [
        | inl same ↦ absurd (let z : None ≡ Some t = sym no_share ∙ ap (share_at shared_gone) (sym same) ∙ e in cc z)
        | inr ne ↦ (let was = sym (other_share k ne) ∙ e in ap (option_map (λ (p : SharedPage). p.home)) (g.others t.0 (λ own. apart k t ne was own)) ∙ a.stands k t was)
      ];
      back = λ t p e. by t p e (share_at shared h) refl;
      named = λ k t e. elim (cases_eq k h) [
        | inl same ↦ absurd (let z : None ≡ Some t = sym no_share ∙ ap (share_at shared_gone) (sym same) ∙ e in cc z)
        | inr ne ↦ ap is_some (get_or-set_other names h k None None ne) ∙ a.named k t (sym (other_share k ne) ∙ e)
      ];
      homes = length-set shared h None ∙ a.homes ∙ sym (length-set names h None);
      room = g.room ∙ a.room ∙ sym (length-set names h None);
      below = λ t p e. (let l = a.below t p (was t p e) in omega (arith, l, g.room));
      count = g.count;
    }
      where
        was : (t : ℕ) (p : SharedPage) → page_at shares_gone t ≡ Some p → page_at shares t ≡ Some p
        was t p e = by (share_at shared h) refl
          where
            not_own : ((share_at shared h ≡ Some (record { 0 = t })) → ⊥) → page_at shares t ≡ Some p
            not_own ne = sym (g.others t ne) ∙ e

            by : (o : Option Share) → share_at shared h ≡ o → page_at shares t ≡ Some p
            by None is = not_own (λ own. (let z : None ≡ Some (record { 0 = t }) = sym is ∙ own in cc z))
            by (Some s) is = elim (cases_eq s.0 t) [
              | inl same ↦ absurd (let z : None ≡ Some p = sym (g.own t (is ∙ (λ i. Some (record { 0 = same i })))) ∙ e in cc z)
              | inr ne ↦ not_own (λ own. ne (let z : Some s ≡ Some (record { 0 = t }) = sym is ∙ own in let y : s ≡ record { 0 = t } = cc z in ap (λ (x : Share). x.0) y))
            ]

        by : (t : ℕ) (p : SharedPage) → page_at shares_gone t ≡ Some p → (o : Option Share) → share_at shared h ≡ o → share_at shared_gone p.home.0 ≡ Some (record { 0 = t })
        by t p e o is =
            let back = a.back t p (was t p e) in
            elim (cases_eq p.home.0 h) [
              | inl same ↦ absurd (let z : None ≡ Some p = sym (g.own t (ap (share_at shared) (sym same) ∙ back)) ∙ e in cc z)
              | inr ne ↦ other_share p.home.0 ne ∙ back
            ]

    pub gone_counts : counts shares_gone names_gone shared_gone ≡ slice_set (counts shares names shared) h 0
    gone_counts =
        counts_one shares shares_gone names names_gone shared shared_gone h 0 (length-set names h None) below
        (ap (λ o. count_of shares_gone o (share_at shared_gone h)) (get_or-set_same names h None None below))
        (λ k ne. (λ i. count_of shares_gone (get_or-set_other names h k None None ne i) (other_share k ne i)) ∙ by k ne (name_at names k) (share_at shared k) refl)
      where
        by : (k : ℕ) → k ≢ h → (o : Option PageName) (t : Option Share) → share_at shared k ≡ t → count_of shares_gone o t ≡ count_of shares o t
        by k ne None t e = refl
        by k ne (Some m) None e = refl
        by k ne (Some m) (Some t) e = ap (λ (p : Option SharedPage). option_map_or (λ (q : SharedPage). q.count) p 0) (g.others t.0 (λ own. apart k t ne e own))

  -- the page of a home gets a share that is no page's
  module _ (s : Share) (none : share_at shared h ≡ None) (fresh : page_at shares s.0 ≡ None) (inside : s.0 < shares.room) (named : is_some (name_at names h) ≡ true) where
    abbrev pub shares_more : Shares
    shares_more = with_page shares s.0 (record { home = record { 0 = h }; count = 1 })

    abbrev pub shared_more : List (Option Share)
    shared_more = slice_set shared h (Some s)

    more_below : h < length shared
    more_below = omega (arith, a.homes, name_below names h named)

    own_page : page_at shares_more s.0 ≡ Some (record { home = record { 0 = h }; count = 1 })
    own_page = get_put nat_cmp_total fin.nat_cmp-IsAntisymmetric shares.pages s.0 s.0 (record { home = record { 0 = h }; count = 1 }) refl

    pub other_page : (t : ℕ) → t ≢ s.0 → page_at shares_more t ≡ page_at shares t
    other_page t ne = get_put_other nat_cmp_total fin.nat_cmp-IsAntisymmetric shares.pages s.0 t (record { home = record { 0 = h }; count = 1 }) ne

    own_share : share_at shared_more h ≡ Some s
    own_share = get_or-set_same shared h (Some s) None more_below

    kept_share : (k : ℕ) → k ≢ h → share_at shared_more k ≡ share_at shared k
    kept_share k ne = get_or-set_other shared h k (Some s) None ne

    old_share : (k : ℕ) (t : Share) → share_at shared k ≡ Some t → t.0 ≢ s.0
    old_share k t e same = let x = shares_home shares names shared a k t e in let z : None ≡ Some x.page = sym fresh ∙ ap (page_at shares) (sym same) ∙ x.is in cc z

    pub more_shared : AreShared shares_more names shared_more
    more_shared = record {
      stands = λ k t e. elim (cases_eq k h) [
        | inl same ↦ (let z : Some s ≡ Some t = sym own_share ∙ ap (share_at shared_more) (sym same) ∙ e in let own : s ≡ t = cc z in
            ap (λ (y : Share). option_map (λ (p : SharedPage). p.home) (page_at shares_more y.0)) (sym own) ∙ ap (option_map (λ (p : SharedPage). p.home)) own_page ∙ (λ i. Some (record { 0 = sym same i })))
        | inr ne ↦ (let was = sym (kept_share k ne) ∙ e in ap (option_map (λ (p : SharedPage). p.home)) (other_page t.0 (old_share k t was)) ∙ a.stands k t was)
      ];
      back = λ t p e. elim (cases_eq t s.0) [
        | inl same ↦ (let z : Some (record { home = record { 0 = h }; count = 1 }) ≡ Some p = sym own_page ∙ ap (page_at shares_more) (sym same) ∙ e in let own : record { home = record { 0 = h }; count = 1 } ≡ p = cc z in
            ap (λ (q : SharedPage). share_at shared_more q.home.0) (sym own) ∙ own_share ∙ (λ i. Some (record { 0 = sym same i })))
        | inr ne ↦ (let back = a.back t p (sym (other_page t ne) ∙ e) in
            elim (cases_eq p.home.0 h) [
              | inl same ↦ absurd (let z : None ≡ Some (record { 0 = t }) = sym none ∙ ap (share_at shared) (sym same) ∙ back in cc z)
              | inr other ↦ kept_share p.home.0 other ∙ back
            ])
      ];
      named = λ k t e. elim (cases_eq k h) [
        | inl same ↦ ap (λ j. is_some (name_at names j)) same ∙ named
        | inr ne ↦ a.named k t (sym (kept_share k ne) ∙ e)
      ];
      homes = length-set shared h (Some s) ∙ a.homes;
      room = a.room;
      below = λ t p e. elim (cases_eq t s.0) [
        | inl same ↦ omega (arith, same, inside)
        | inr ne ↦ a.below t p (sym (other_page t ne) ∙ e)
      ];
      count =
          (let more : fin.len shares_more.pages ≡ fin.len shares.pages + 1 = fin.len-insert nat_cmp_total shares.pages s.0 (record { home = record { 0 = h }; count = 1 }) ∙ ap (λ (o : Option SharedPage). cond (is_some o) (fin.len shares.pages) (fin.len shares.pages + 1)) fresh in
          let parts = sum_by-set (λ (o : Option Share). cond (is_some o) 1 0) shared h (Some s) None more_below in
          let was : ◌≡◌ {A = ℕ} (cond (is_some (share_at shared h)) 1 0) 0 = ap (λ o. cond (is_some o) 1 0) none in
          omega (arith, more, parts, was, a.count));
    }

    -- which counts the name that it has
    pub more_counts : counts shares_more names shared_more ≡ counts shares names shared
    more_counts =
        counts_one shares shares_more names names shared shared_more h (share_of (counts shares names shared) h) refl (name_below names h named)
        (ap (count_of shares_more (name_at names h)) own_share ∙ own (name_at names h) named ∙ sym (counts_at shares names shared h))
        (λ k ne. ap (count_of shares_more (name_at names k)) (kept_share k ne) ∙ by k (name_at names k) (share_at shared k) refl)
        ∙ set_same (counts shares names shared) h
      where
        own : (o : Option PageName) → is_some o ≡ true → count_of shares_more o (Some s) ≡ count_of shares o (share_at shared h)
        own None e = absurd (cc e)
        own (Some m) e = ap (λ (p : Option SharedPage). option_map_or (λ (q : SharedPage). q.count) p 0) own_page ∙ sym (ap (count_of shares (Some m)) none)

        by : (k : ℕ) (o : Option PageName) (t : Option Share) → share_at shared k ≡ t → count_of shares_more o t ≡ count_of shares o t
        by k None t e = refl
        by k (Some m) None e = refl
        by k (Some m) (Some t) e = ap (λ (p : Option SharedPage). option_map_or (λ (q : SharedPage). q.count) p 0) (other_page t.0 (old_share k t e))

        set_same : (xs : List ℕ) (i : ℕ) → slice_set xs i (slice_index xs i) ≡ xs
        set_same xs i = set-get_or xs i 0
