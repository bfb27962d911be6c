-- How many pages of files are that of a home.
use Rattle.std.proofs.Common.{◌≡◌, inl, inr, ℕ, zero, suc, ◌+◌, ◌-◌, ◌*◌, ◌<◌, ◌≤◌, ◌^◌, Bool, true, false, ◌||◌, List, [], ◌∷◌, map as each, length, Option, None, Some, refl, sym, ◌∙◌, ap, arith, rules, T, is_lt, Ordering, Less}
use Rattle.std.specs.Prelude.{slice_get, slice_set, is_some}
use Rattle.std.specs.List.{sum_by, list_any}
use Rattle.std.specs.Ordering.{nat_cmp, eq_by_cmp, is_eq}
use Rattle.std.specs.FinMap as fin
use Rattle.std.proofs.lemmas.Bool.{cases_eq, cases_lt}
use Rattle.std.proofs.lemmas.List.{get_or-set_same, get_or-set_other, get_or_past}
use Rattle.std.proofs.lemmas.List.Sums.{sum_by-cons}
use Rattle.std.proofs.lemmas.Cmp.{tied_itself}
use Rattle.machine_names.specs.declared.names.TheConstants.{MOST_FILES, FILE_PAGES, SPACE_PAGES}
use Rattle.machine_names.specs.Orders.{FilePage, file_page_cmp}
use Rattle.page_homes.specs.declared.homes.Home.{Home}
use Rattle.page_files.specs.Pages.{PagesOf}
use Rattle.plain_pages.proofs.Counts.{ordered_less, both_first, both_second}
use Rattle.flat_tables.specs.declared.held_map.HeldMap.{HeldMap}
use Rattle.flat_tables.specs.HeldMaps.{map_at, entries_total, points_at}
use Rattle.flat_tables.specs.SlotTables.{Tables, is_at, filed_total, share_of, AreTables}
use Rattle.flat_tables.specs.TableSteps.{joined_shares}
use Rattle.flat_tables.proofs.FiledHomes.{filed_order, at_here, at_other}
use Rattle.flat_tables.proofs.Taking.{points_most}

-- the count of each home, once a page is named once more
pub joined_is : (shares : List ℕ) (h : Home) → h.0 < length shares → (k : ℕ) → share_of (joined_shares shares h) k ≡ share_of shares k + is_at k h
joined_is shares h l k = elim (cases_eq k h.0) [
  | inl e ↦
      let is : share_of (joined_shares shares h) k ≡ share_of shares h.0 + 1 = ap (share_of (joined_shares shares h)) e ∙ get_or-set_same shares h.0 (share_of shares h.0 + 1) 0 l in
      omega (arith, is, ap (share_of shares) e, at_here k h (sym e))
  | inr ne ↦ omega (arith, get_or-set_other shares h.0 k (share_of shares h.0 + 1) 0 ne, at_other k h (λ e. ne (sym e)))
]

-- and once less
pub parted_is : (shares : List ℕ) (h : Home) → 1 ≤ share_of shares h.0 → (k : ℕ) → share_of (slice_set shares h.0 (share_of shares h.0 - 1)) k + is_at k h ≡ share_of shares k
parted_is shares h some k = elim (cases_lt h.0 (length shares)) [
  | inr past ↦ absurd (omega (arith, some, get_or_past shares h.0 0 past))
  | inl l ↦ elim (cases_eq k h.0) [
    | inl e ↦
        let is : share_of (slice_set shares h.0 (share_of shares h.0 - 1)) k ≡ share_of shares h.0 - 1 = ap (share_of (slice_set shares h.0 (share_of shares h.0 - 1))) e ∙ get_or-set_same shares h.0 (share_of shares h.0 - 1) 0 l in
        omega (arith, is, some, ap (share_of shares) e, at_here k h (sym e))
    | inr ne ↦ omega (arith, get_or-set_other shares h.0 k (share_of shares h.0 - 1) 0 ne, at_other k h (λ e. ne (sym e)))
  ]
]

at_most : (k : ℕ) (h : Home) → is_at k h ≤ 1
at_most k h = elim (cases_eq h.0 k) [ inl e ↦ omega (arith, at_here k h e) | inr ne ↦ omega (arith, at_other k h ne) ]

-- no more pages of files than there may be
abbrev R : FilePage ℕ → FilePage ℕ → Ordering
R = file_page_cmp nat_cmp

abbrev pub InRange : FilePage ℕ → Type 0
InRange f = (f.file < MOST_FILES) × (f.page < FILE_PAGES)

abbrev number : FilePage ℕ → ℕ
number f = f.file * FILE_PAGES + f.page

number_rises : (f g : FilePage ℕ) → InRange f → InRange g → R f g ≡ Less → number f < number g
number_rises f g a b less = let x = a.1 in let y = b.1 in grind (arith, rules, less, x, y)

member_below : (k : FilePage ℕ) (es : List (FilePage ℕ × Home)) → T (fin.Entries.below_all R k es) → (i : ℕ) (e : FilePage ℕ × Home) → slice_get es i ≡ Some e → R k e.0 ≡ Less
member_below k [] h i e is = absurd (cc is)
member_below k (x ∷ es) h zero e is = let same : x ≡ e = cc is in ap (λ (y : FilePage ℕ × Home). R k y.0) (sym same) ∙ ordered_less (R k x.0) (both_first (is_lt (R k x.0)) (fin.Entries.below_all R k es) h)
member_below k (x ∷ es) h (suc i) e is = member_below k es (both_second (is_lt (R k x.0)) (fin.Entries.below_all R k es) h) i e is

few_from : (es : List (FilePage ℕ × Home)) (low : ℕ) → T (fin.is_sorted R es) → ((i : ℕ) (e : FilePage ℕ × Home) → slice_get es i ≡ Some e → InRange e.0 × (low ≤ number e.0)) → low ≤ MOST_FILES * FILE_PAGES → low + length es ≤ MOST_FILES * FILE_PAGES
few_from [] low sorted within l = omega (arith, l)
few_from (x ∷ es) low sorted within l =
    let here = within 0 x refl in
    let rest = few_from es (number x.0 + 1) (both_second (fin.Entries.below_all R x.0 es) (fin.is_sorted R es) sorted)
    (λ i e is. (
      (within (suc i) e is).0,
      omega (arith, number_rises x.0 e.0 here.0 (within (suc i) e is).0 (member_below x.0 es (both_first (fin.Entries.below_all R x.0 es) (fin.is_sorted R es) sorted) i e is)),
    ))
    (omega (arith, here.0.0, here.0.1)) in
    omega (arith, rest, here.1)

-- an entry's key is there
member_there : (es : List (FilePage ℕ × Home)) (i : ℕ) (e : FilePage ℕ × Home) → slice_get es i ≡ Some e → list_any (eq_by_cmp R e.0) (each (λ x. x.0) es) ≡ true
member_there [] i e is = absurd (cc is)
member_there (x ∷ es) zero e is =
    let same : x ≡ e = cc is in
    ap (λ b. b || list_any (eq_by_cmp R e.0) (each (λ (y : FilePage ℕ × Home). y.0) es)) (ap (λ (y : FilePage ℕ × Home). eq_by_cmp R e.0 y.0) same ∙ ap is_eq (tied_itself filed_order e.0))
member_there (x ∷ es) (suc i) e is = ap (λ b. eq_by_cmp R e.0 x.0 || b) (member_there es i e is) ∙ or_true (eq_by_cmp R e.0 x.0)
  where
    or_true : (b : Bool) → (b || true) ≡ true
    or_true true = refl
    or_true false = refl

some_is : (o : Option Home) → is_some o ≡ true → (h : Home) × (o ≡ Some h)
some_is None e = absurd (cc e)
some_is (Some h) e = (h, refl)

sum_most : {A : Type 0} (w : A → ℕ) (n : ℕ) (xs : List A) → ((i : ℕ) (x : A) → slice_get xs i ≡ Some x → w x ≤ n) → sum_by w xs ≤ length xs * n
sum_most w n [] most = omega arith
sum_most w n (x ∷ xs) most = times (length xs) n (w x) (sum_by w xs) (sum_by w (x ∷ xs)) (sum_by-cons w x xs) (most zero x refl) (sum_most w n xs (λ i. most (suc i)))
  where
    times : (l n a b s : ℕ) → s ≡ a + b → a ≤ n → b ≤ l * n → s ≤ suc l * n
    times l n a b s is p q = omega (arith, is, p, q)

pub filed_few : (files : PagesOf Home) → ((f : FilePage ℕ) (h : Home) → fin.get files f ≡ Some h → InRange f) → (k : ℕ) → filed_total k files ≤ MOST_FILES * FILE_PAGES
filed_few files within k =
    let all : (i : ℕ) (e : FilePage ℕ × Home) → slice_get (fin.entries files) i ≡ Some e → InRange e.0 × (0 ≤ number e.0) = λ i e is.
    (let v = some_is (fin.get files e.0) (fin.contains_key-keys files e.0 ∙ member_there (fin.entries files) i e is) in (within e.0 v.0 v.1, omega arith)) in
    omega (arith, few_from (fin.entries files) 0 (fin.entries_sorted files) all (omega arith), values_most (fin.entries files))
  where
    values_most : (es : List (FilePage ℕ × Home)) → sum_by (is_at k) (each (λ e. e.1) es) ≤ length es
    values_most [] = omega arith
    values_most (e ∷ es) = omega (arith, sum_by-cons (is_at k) e.1 (each (λ (x : FilePage ℕ × Home). x.1) es), at_most k e.1, values_most es)

entries_most : (t : Tables) → AreTables t → (k : ℕ) → entries_total (points_at k) t.maps ≤ length t.maps * SPACE_PAGES
entries_most t a k = sum_most (λ (m : HeldMap). sum_by (points_at k) m.entries) SPACE_PAGES t.maps (λ i m is.
    (let many : length m.entries ≡ SPACE_PAGES = ap (λ (n : HeldMap). length n.entries) (sym (at_is i m is)) ∙ a.held.pages i (within t.maps i m is) in
    omega (arith, sum_most (points_at k) 1 m.entries (λ j e g. points_most k e), many)))
  where
    within : (ms : List HeldMap) (i : ℕ) (m : HeldMap) → slice_get ms i ≡ Some m → i < length ms
    within [] i m is = absurd (cc is)
    within (x ∷ ms) zero m is = omega arith
    within (x ∷ ms) (suc i) m is = omega (arith, within ms i m is)

    at : (ms : List HeldMap) (i : ℕ) (m : HeldMap) → slice_get ms i ≡ Some m → map_at ms i ≡ m
    at [] i m is = absurd (cc is)
    at (x ∷ ms) zero m is = cc is
    at (x ∷ ms) (suc i) m is = at ms i m is

    at_is : (i : ℕ) (m : HeldMap) → slice_get t.maps i ≡ Some m → map_at t.maps i ≡ m
    at_is i m is = at t.maps i m is

-- a page has so few names that they can be counted
pub share_few : (t : Tables) → AreTables t → (k : ℕ) → share_of t.shares k < 2 ^ 31
share_few t a k = omega (arith, a.shares k, filed_few t.files a.filed k, entries_most t a k, a.held.count)
