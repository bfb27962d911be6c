-- The shares of homes, and what they count.
use Rattle.std.proofs.Common.{◌≡◌, ◌≢◌, inl, inr, ℕ, zero, suc, ◌+◌, ◌<◌, List, [], ◌∷◌, true, false, cond, Option, None, Some, is_some, length, refl, sym, ◌∙◌, ap, subst, arith}
use Rattle.std.specs.Prelude.{slice_index, slice_set}
use Rattle.std.specs.Cmp.{nat_cmp_total}
use Rattle.std.specs.FinMap as fin
use Rattle.std.specs.Option.{option_map, option_map_or}
use Rattle.std.proofs.lemmas.Bool.{cases_eq, cases_lt}
use Rattle.std.proofs.lemmas.List.{get_or-set_same, get_or-set_other, get_or_past, length-set}
use Rattle.machine_names.proofs.Keys.{get_put, get_put_other}
use Rattle.machine_names.specs.declared.names.PageName.{PageName}
use Rattle.page_homes.specs.declared.homes.Home.{Home}
use Rattle.share_table.specs.declared.shares.Share.{Share}
use Rattle.share_table.specs.declared.shares.SharedPage.{SharedPage}
use Rattle.share_table.specs.Shares.{Shares, page_at, with_page}
use Rattle.pager_walk.specs.PagedMaps.{name_at}
use Rattle.paged_tables.specs.NameCounts.{count_of, counts, share_at}
use Rattle.paged_tables.specs.PagedTables.{AreShared}
use Rattle.paged_tables.proofs.Counted.{counts_at, counts_length}

-- lists of numbers are one that have the same numbers
pub same_numbers : (xs ys : List ℕ) → length xs ≡ length ys → ((i : ℕ) → slice_index xs i ≡ slice_index ys i) → xs ≡ ys
same_numbers [] [] many same = refl
same_numbers [] (y ∷ ys) many same = absurd (omega (arith, many))
same_numbers (x ∷ xs) [] many same = absurd (omega (arith, many))
same_numbers (x ∷ xs) (y ∷ ys) many same = let first = same zero in let rest = same_numbers xs ys (omega (arith, many)) (λ i. same (suc i)) in λ i. first i ∷ rest i

-- a home that has no share
pub set_none : (xs : List (Option Share)) (h : ℕ) → share_at xs h ≡ None → slice_set xs h None ≡ xs
set_none [] h none = refl
set_none (x ∷ xs) zero none = λ i. sym none i ∷ xs
set_none (x ∷ xs) (suc h) none = ap (λ ys. x ∷ ys) (set_none xs h none)

-- the page of a home's share
pub record SharesHome (shares : Shares) (h : ℕ) (s : Share) : Type 0 where
  pub page : SharedPage
  pub is : page_at shares s.0 ≡ Some page
  pub home : page.home.0 ≡ h

module _ (shares : Shares) (names : List (Option PageName)) (shared : List (Option Share)) (a : AreShared shares names shared) where
  pub shares_home : (h : ℕ) (s : Share) → share_at shared h ≡ Some s → SharesHome shares h s
  shares_home h s is = by (page_at shares s.0) refl (a.stands h s is)
    where
      by : (o : Option SharedPage) → page_at shares s.0 ≡ o → option_map (λ (p : SharedPage). p.home) o ≡ Some (record { 0 = h }) → SharesHome shares h s
      by None e f = absurd (cc f)
      by (Some p) e f = let same : p.home ≡ record { 0 = h } = cc f in record { page = p; is = e; home = ap (λ (x : Home). x.0) same }

  -- a home without a name has no share
  pub unshared : (h : ℕ) → name_at names h ≡ None → share_at shared h ≡ None
  unshared h none = by (share_at shared h) refl
    where
      by : (o : Option Share) → share_at shared h ≡ o → o ≡ None
      by None e = refl
      by (Some s) e = absurd (let z : false ≡ true = sym (ap is_some none) ∙ a.named h s e in cc z)

  -- a home gets a name
  pub shared_named : (h : ℕ) (n : PageName) → h < length names → AreShared shares (slice_set names h (Some n)) shared
  shared_named h n below = record {
    stands = a.stands;
    back = a.back;
    named = λ k s is. elim (cases_eq k h) [
      | inl same ↦ ap (λ j. is_some (name_at (slice_set names h (Some n)) j)) same ∙ ap is_some (get_or-set_same names h (Some n) None below)
      | inr other ↦ ap is_some (get_or-set_other names h k (Some n) None other) ∙ a.named k s is
    ];
    homes = a.homes ∙ sym (length-set names h (Some n));
    room = a.room ∙ sym (length-set names h (Some n));
    below = a.below;
    count = a.count;
  }

  -- a home that had no name gets one
  pub shared_more : (h : ℕ) (n : PageName) → h < length names → name_at names h ≡ None → AreShared shares (slice_set names h (Some n)) (slice_set shared h None)
  shared_more h n below none = subst (AreShared shares (slice_set names h (Some n))) (sym (set_none shared h (unshared h none))) (shared_named h n below)

  -- the page of a home's share becomes another with that home
  module _ (h : ℕ) (s : Share) (is : share_at shared h ≡ Some s) (n : ℕ) where
    x : SharesHome shares h s
    x = shares_home h s is

    abbrev counting : SharedPage
    counting = record { home = record { 0 = h }; count = n }

    abbrev pub recounted : Shares
    recounted = with_page shares s.0 counting

    own_page : page_at recounted s.0 ≡ Some counting
    own_page = get_put nat_cmp_total fin.nat_cmp-IsAntisymmetric shares.pages s.0 s.0 counting refl

    other_page : (k : ℕ) → k ≢ s.0 → page_at recounted k ≡ page_at shares k
    other_page k ne = get_put_other nat_cmp_total fin.nat_cmp-IsAntisymmetric shares.pages s.0 k counting ne

    -- each share has its home
    pub homes_still : (k : ℕ) → option_map (λ (p : SharedPage). p.home) (page_at recounted k) ≡ option_map (λ (p : SharedPage). p.home) (page_at shares k)
    homes_still k = elim (cases_eq k s.0) [
      | inl same ↦ ap (λ j. option_map (λ (p : SharedPage). p.home) (page_at recounted j)) same ∙ ap (option_map (λ (p : SharedPage). p.home)) own_page
          ∙ (λ i. Some (record { 0 = sym x.home i })) ∙ sym (ap (λ j. option_map (λ (p : SharedPage). p.home) (page_at shares j)) same ∙ ap (option_map (λ (p : SharedPage). p.home)) x.is)
      | inr other ↦ ap (option_map (λ (p : SharedPage). p.home)) (other_page k other)
    ]

    pub shared_recounted : AreShared recounted names shared
    shared_recounted = record {
      stands = λ k t e. homes_still t.0 ∙ a.stands k t e;
      back = λ t p e. elim (cases_eq t s.0) [
        | inl same ↦
            let one : counting ≡ p = (let z : Some counting ≡ Some p = sym own_page ∙ ap (page_at recounted) (sym same) ∙ e in cc z) in
            ap (λ (q : SharedPage). share_at shared q.home.0) (sym one) ∙ is ∙ (λ i. Some (record { 0 = sym same i }))
        | inr other ↦ a.back t p (sym (other_page t other) ∙ e)
      ];
      named = a.named;
      homes = a.homes;
      room = a.room;
      below = λ t p e. elim (cases_eq t s.0) [
        | inl same ↦ omega (arith, same, a.below s.0 x.page x.is)
        | inr other ↦ a.below t p (sym (other_page t other) ∙ e)
      ];
      count = fin.len-insert nat_cmp_total shares.pages s.0 counting ∙ ap (λ (o : Option SharedPage). cond (is_some o) (fin.len shares.pages) (fin.len shares.pages + 1)) x.is ∙ a.count;
    }

    -- no other home has the share
    pub own_share : (k : ℕ) (t : Share) → k ≢ h → share_at shared k ≡ Some t → t.0 ≢ s.0
    own_share k t ne e same =
        let y = shares_home k t e in
        let one : x.page ≡ y.page = (let z : Some x.page ≡ Some y.page = sym x.is ∙ ap (page_at shares) (sym same) ∙ y.is in cc z) in
        ne (sym y.home ∙ ap (λ (p : SharedPage). p.home.0) (sym one) ∙ x.home)

    pub count_here : count_of recounted (name_at names h) (share_at shared h) ≡ n
    count_here = ap (count_of recounted (name_at names h)) is ∙ by (name_at names h) (a.named h s is)
      where
        by : (o : Option PageName) → is_some o ≡ true → count_of recounted o (Some s) ≡ n
        by None e = absurd (cc e)
        by (Some m) e = ap (λ (p : Option SharedPage). option_map_or (λ (q : SharedPage). q.count) p 0) own_page

    pub count_other : (k : ℕ) → k ≢ h → count_of recounted (name_at names k) (share_at shared k) ≡ count_of shares (name_at names k) (share_at shared k)
    count_other k ne = by (name_at names k) (share_at shared k) refl
      where
        by : (o : Option PageName) (t : Option Share) → share_at shared k ≡ t → count_of recounted o t ≡ count_of shares o t
        by None t e = refl
        by (Some m) None e = refl
        by (Some m) (Some t) e = ap (λ (p : Option SharedPage). option_map_or (λ (q : SharedPage). q.count) p 0) (other_page t.0 (own_share k t ne e))

    pub counts_recounted : counts recounted names shared ≡ slice_set (counts shares names shared) h n
    counts_recounted =
        same_numbers (counts recounted names shared) (slice_set (counts shares names shared) h n)
        (counts_length recounted names shared ∙ sym (length-set (counts shares names shared) h n ∙ counts_length shares names shared)) (λ k.
        counts_at recounted names shared k ∙ elim (cases_eq k h) [
          | inl same ↦ ap (λ j. count_of recounted (name_at names j) (share_at shared j)) same ∙ count_here ∙ sym (ap (slice_index (slice_set (counts shares names shared) h n)) same ∙ get_or-set_same (counts shares names shared) h n 0 inside)
          | inr other ↦ count_other k other ∙ sym (counts_at shares names shared k) ∙ sym (get_or-set_other (counts shares names shared) h k n 0 other)
        ])
      where
        named_within : (xs : List (Option PageName)) (j : ℕ) → is_some (name_at xs j) ≡ true → j < length xs
        named_within xs j e = elim (cases_lt j (length xs)) [ inl l ↦ l | inr past ↦ absurd (let z : false ≡ true = sym (ap is_some (get_or_past xs j None past)) ∙ e in cc z) ]

        inside : h < length (counts shares names shared)
        inside = omega (arith, counts_length shares names shared, named_within names h (a.named h s is))
