-- The page of a home is named once less.
use Rattle.std.proofs.Common.{◌≡◌, inl, inr, ℕ, ◌+◌, ◌-◌, ◌^◌, ◌<◌, ◌≤◌, List, Bool, true, false, cond, Option, None, Some, is_some, refl, sym, ◌∙◌, ap, subst, arith}
use Rattle.std.specs.Prelude.{IsSome, slice_index, slice_set, nat_lt, ◌&&◌, ◌==◌}
use Rattle.std.specs.Option.{option_map, option_map_or, option_and_then}
use Rattle.std.proofs.lemmas.Bool.{cases_eq}
use Rattle.std.proofs.lemmas.Bool.Decides.{eqb_tells, nat_tests}
use Rattle.machine_names.specs.declared.names.PageName.{PageName}
use Rattle.page_contracts.specs.Stores.{HomePlace, content}
use Rattle.share_table.specs.declared.pointer.Pointer.{Pointer}
use Rattle.share_table.specs.declared.pointer.Pointer.TheVariants as pointer
use Rattle.share_table.specs.declared.shares.Share.{Share}
use Rattle.share_table.specs.declared.shares.SharedPage.{SharedPage}
use Rattle.share_table.specs.Shares.{Shares, left_by, one_fewer, page_at, with_page, without}
use Rattle.flat_tables.specs.SlotTables.{share_of}
use Rattle.pager_walk.specs.declared.paged_entry.PagedEntry.{PagedEntry}
use Rattle.pager_walk.specs.Decoding.{pointer_in}
use Rattle.page_contracts.specs.DrumWords.{DrumWords}
use Rattle.pager_walk.specs.declared.paged_entry.PagedEntry.TheVariants.{Empty, Page, Follows}
use Rattle.pager_walk.specs.declared.paged_entry.Looked.{Looked}
use Rattle.pager_walk.specs.declared.paged_entry.Looked.TheVariants.{Is, Absent, Missing, Refused}
use Rattle.pager_walk.specs.MapPages.{root_at}
use Rattle.pager_walk.specs.PagedMaps.{FitsMaps, Tables, entry_for, entry_in, name_at, page_entry, words_in}
use Rattle.paged_tables.specs.LeftShares.{keeps_name, left_by_one, left_of, left_once}
use Rattle.paged_tables.specs.MadePages.{with_shares}
use Rattle.paged_tables.specs.NameCounts.{count_of, counts, share_at}
use Rattle.paged_tables.specs.PagedTables.{AreKept, AreShared, Beside}
use Rattle.paged_tables.specs.PagedTouches.{names_at}
use Rattle.paged_tables.proofs.Sharing.{SharesHome, count_here, count_other, counts_recounted, homes_still, recounted, shared_recounted, shares_home}

-- tables whose shares have the same homes have the same entries
module _ (t : Tables) (shares : Shares) (same : (k : ℕ) → option_map (λ (p : SharedPage). p.home) (page_at shares k) ≡ option_map (λ (p : SharedPage). p.home) (page_at t.shares k)) where
  by_home : (o : Option SharedPage) (a : _) → option_and_then (λ (p : SharedPage). page_entry t.names p.home a) o ≡ option_and_then (λ h. page_entry t.names h a) (option_map (λ (p : SharedPage). p.home) o)
  by_home None a = refl
  by_home (Some p) a = refl

  pub entries_same : (w : ℕ) → entry_in (record t { shares = shares }) w ≡ entry_in t w
  entries_same w = by (pointer_in w)
    where
      of : (p : Pointer) → entry_for (record t { shares = shares }) p ≡ entry_for t p
      of pointer.Empty = refl
      of (pointer.Private h a) = refl
      of (pointer.Shared s a) = by_home (page_at shares s.0) a ∙ ap (option_and_then (λ h. page_entry t.names h a)) (same s.0) ∙ sym (by_home (page_at t.shares s.0) a)
      of (pointer.Indirect serial page a) = refl

      by : (o : Option Pointer) → option_and_then (entry_for (record t { shares = shares })) o ≡ option_and_then (entry_for t) o
      by None = refl
      by (Some p) = of p

-- the count of a home that has two names or more is that of its share
record Counted (b : Beside) (h : ℕ) : Type 0 where
  share : Share
  is : share_at b.shared h ≡ Some share

counted : (b : Beside) (h : ℕ) → 2 ≤ names_at b h → Counted b h
counted b h many = by (name_at b.tables.names h) (share_at b.shared h) refl many
  where
    by : (n : Option PageName) (o : Option Share) → share_at b.shared h ≡ o → 2 ≤ count_of b.tables.shares n o → Counted b h
    by None o e l = absurd (omega (arith, l))
    by (Some n) None e l = absurd (omega (arith, l))
    by (Some n) (Some s) e l = record { share = s; is = e }

-- a page keeps all its names, or one fewer, which is no file's
pub data LeftSo (b : Beside) (h : ℕ) (a : AreShared b.tables.shares b.tables.names b.shared) : Type 0 where
  stays : keeps_name b h ≡ false → left_once b h ≡ b.tables.shares → LeftSo b h a
  fewer : (s : Share) → (is : share_at b.shared h ≡ Some s) → 2 ≤ names_at b h → share_of b.filed h < names_at b h → left_once b h ≡ recounted b.tables.shares b.tables.names b.shared a h s is (one_fewer (names_at b h)) → LeftSo b h a

both : (x y : Bool) → (x && y) ≡ true → (x ≡ true) × (y ≡ true)
both true true e = (refl, refl)
both true false e = absurd (cc e)
both false y e = absurd (cc e)

less : (m n : ℕ) → nat_lt m n ≡ true → m < n
less m n e = grind (arith, nat_tests, e)

pub left_so : (b : Beside) (h : ℕ) (a : AreShared b.tables.shares b.tables.names b.shared) → LeftSo b h a
unfolding left_once
left_so b h a = by (keeps_name b h) refl
  where
    two : keeps_name b h ≡ true → 2 ≤ names_at b h
    two e = let l = less 1 (names_at b h) (both (nat_lt 1 (names_at b h)) (nat_lt (share_of b.filed h) (names_at b h)) e).0 in omega (arith, l)

    not_one : (n : ℕ) → 2 ≤ n → (n == 1) ≡ false
    not_one n l = elim (eqb_tells n 1) [ inl t ↦ absurd (omega (arith, l, t.1)) | inr t ↦ t.0 ]

    by : (c : Bool) → keeps_name b h ≡ c → LeftSo b h a
    by false e = stays e (ap (λ c. cond c (left_by_one b.tables.shares (share_at b.shared h)) b.tables.shares) e)
    by true e =
        let k = counted b h (two e) in
        let x = shares_home b.tables.shares b.tables.names b.shared a h k.share k.is in
        let n : names_at b h ≡ x.page.count = many k.share k.is x in
        fewer k.share k.is (two e) (less (share_of b.filed h) (names_at b h) (both (nat_lt 1 (names_at b h)) (nat_lt (share_of b.filed h) (names_at b h)) e).1)
        (ap (λ c. cond c (left_by_one b.tables.shares (share_at b.shared h)) b.tables.shares) e ∙ ap (left_by_one b.tables.shares) k.is ∙ ap (left_by b.tables.shares k.share.0) x.is
        ∙ ap (λ c. cond c (without b.tables.shares k.share.0) (with_page b.tables.shares k.share.0 (record x.page { count = one_fewer x.page.count }))) (not_one x.page.count (omega (arith, two e, n)))
        ∙ (λ i. with_page b.tables.shares k.share.0 (record { home = record { 0 = x.home i }; count = one_fewer (sym n i) })))
      where
        many : (s : Share) → share_at b.shared h ≡ Some s → (x : SharesHome b.tables.shares h s) → names_at b h ≡ x.page.count
        many s is x = ap (count_of b.tables.shares (name_at b.tables.names h)) is ∙ of (name_at b.tables.names h) (a.named h s is)
          where
            of : (o : Option PageName) → is_some o ≡ true → count_of b.tables.shares o (Some s) ≡ x.page.count
            of None e = absurd (cc e)
            of (Some n) e = ap (λ (p : Option SharedPage). option_map_or (λ (q : SharedPage). q.count) p 0) x.is

fewer_most : (n : ℕ) → n ≤ one_fewer n + 1
fewer_most n = grind (arith, nat_tests)

fewer_is : (n : ℕ) → n < 2 ^ 31 → one_fewer n ≡ n - 1
fewer_is n l = grind (arith, nat_tests, l)

module _ (b : Beside) (places : List HomePlace) (kept : AreKept b places) (h : ℕ) where
  abbrev pub after : Beside
  after = with_shares b (left_once b h)

  abbrev Homes : Shares → Type 0
  Homes shares = (k : ℕ) → option_map (λ (p : SharedPage). p.home) (page_at shares k) ≡ option_map (λ (p : SharedPage). p.home) (page_at b.tables.shares k)

  left_homes : Homes (left_once b h)
  left_homes = by (left_so b h kept.shared)
    where
      by : LeftSo b h kept.shared → Homes (left_once b h)
      by (stays e same) = subst Homes (sym same) (λ k. refl)
      by (fewer s is two filed same) = subst Homes (sym same) (homes_still b.tables.shares b.tables.names b.shared kept.shared h s is (one_fewer (names_at b h)))

  pub left_entries : (w : ℕ) → entry_in after.tables w ≡ entry_in b.tables w
  left_entries = entries_same b.tables (left_once b h) left_homes

  abbrev Few : Shares → Type 0
  Few shares = (k : ℕ) → share_of b.filed k ≤ count_of shares (name_at b.tables.names k) (share_at b.shared k)

  left_few : Few (left_once b h)
  left_few = by (left_so b h kept.shared)
    where
      by : LeftSo b h kept.shared → Few (left_once b h)
      by (stays e same) = subst Few (sym same) kept.files.few
      by (fewer s is two filed same) = subst Few (sym same) (λ k. elim (cases_eq k h) [
        | inl own ↦ subst (λ (j : ℕ). share_of b.filed j ≤ count_of (recounted b.tables.shares b.tables.names b.shared kept.shared h s is (one_fewer (names_at b h))) (name_at b.tables.names j) (share_at b.shared j)) (sym own)
            (omega (arith, filed, fewer_most (names_at b h), count_here b.tables.shares b.tables.names b.shared kept.shared h s is (one_fewer (names_at b h))))
        | inr other ↦ omega (arith, kept.files.few k, count_other b.tables.shares b.tables.names b.shared kept.shared h s is (one_fewer (names_at b h)) k other)
      ])

  left_shared : AreShared (left_once b h) b.tables.names b.shared
  left_shared = by (left_so b h kept.shared)
    where
      by : LeftSo b h kept.shared → AreShared (left_once b h) b.tables.names b.shared
      by (stays e same) = subst (λ (x : Shares). AreShared x b.tables.names b.shared) (sym same) kept.shared
      by (fewer s is two filed same) = subst (λ (x : Shares). AreShared x b.tables.names b.shared) (sym same) (shared_recounted b.tables.shares b.tables.names b.shared kept.shared h s is (one_fewer (names_at b h)))

  pub left_kept : AreKept after places
  left_kept = record {
    rooted = record { numbered = kept.rooted.numbered; there = kept.rooted.there; apart = kept.rooted.apart; unnamed = kept.rooted.unnamed; named = kept.rooted.named; few = kept.rooted.few };
    filed = kept.filed;
    named = kept.named;
    shared = left_shared;
    files = record { within = kept.files.within; homes = kept.files.homes; count = kept.files.count; few = left_few };
    sized = kept.sized;
    living = kept.living;
    homes = kept.homes;
    free = kept.free;
    few = kept.few;
  }

  -- the counts then, where the page keeps another name
  pub left_counts : 2 ≤ names_at b h → share_of b.filed h < names_at b h → names_at b h < 2 ^ 31 → counts (left_once b h) b.tables.names b.shared ≡ slice_set (counts b.tables.shares b.tables.names b.shared) h (names_at b h - 1)
  left_counts two filed small = by (left_so b h kept.shared)
    where
      keeps : (n m : ℕ) → 2 ≤ n → m < n → (nat_lt 1 n && nat_lt m n) ≡ true
      keeps n m l k = grind (arith, nat_tests, l, k)

      by : LeftSo b h kept.shared → counts (left_once b h) b.tables.names b.shared ≡ slice_set (counts b.tables.shares b.tables.names b.shared) h (names_at b h - 1)
      by (stays e same) = absurd (let z : true ≡ false = sym (keeps (names_at b h) (share_of b.filed h) two filed) ∙ e in cc z)
      by (fewer s is l f same) =
          ap (λ x. counts x b.tables.names b.shared) same ∙ counts_recounted b.tables.shares b.tables.names b.shared kept.shared h s is (one_fewer (names_at b h))
          ∙ ap (slice_set (counts b.tables.shares b.tables.names b.shared) h) (fewer_is (names_at b h) small)

-- the page that an entry names is named once less
module _ (b : Beside) (places : List HomePlace) (kept : AreKept b places) where
  pub look_kept : (l : Looked) → AreKept (with_shares b (left_of b l)) places
  look_kept (Is Empty) = kept
  look_kept (Is (Page home a)) = left_kept b places kept home.0
  look_kept (Is (Follows serial page a)) = kept
  look_kept (Absent home) = kept
  look_kept Missing = kept
  look_kept Refused = kept

  pub look_entries : (l : Looked) (w : ℕ) → entry_in (with_shares b (left_of b l)).tables w ≡ entry_in b.tables w
  look_entries (Is Empty) w = refl
  look_entries (Is (Page home a)) w = left_entries b places kept home.0 w
  look_entries (Is (Follows serial page a)) w = refl
  look_entries (Absent home) w = refl
  look_entries Missing w = refl
  look_entries Refused w = refl

  pub look_fits : (l : Looked) (d : DrumWords) → FitsMaps b.tables places d → FitsMaps (with_shares b (left_of b l)).tables places d
  look_fits l d fits = record { drum = fits.drum; entries = λ k page f is below. subst (λ (o : Option PagedEntry). IsSome o) (sym (look_entries l (slice_index (words_in (content places d (root_at b.tables.maps k).0)) page))) (fits.entries k page f is below) }
