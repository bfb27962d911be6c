-- What files name, by the homes of the pages.
use Rattle.std.proofs.Common.{◌≡◌, ◌≢◌, inl, inr, ℕ, ◌+◌, ◌<◌, ◌≤◌, Bool, true, false, cond, ◌&&◌, List, [], ◌∷◌, map as each, Option, None, Some, refl, sym, ◌∙◌, ap, subst, arith, T, is_lt, Ordering}
use Rattle.std.specs.List.{sum_by}
use Rattle.std.specs.Option.{option_map, option_map_or}
use Rattle.std.specs.Ordering.{nat_cmp, eq_by_cmp, is_eq}
use Rattle.std.specs.Cmp.{IsTotalOrder, Equal-is, nat_cmp_total}
use Rattle.std.specs.FinMap as fin
use Rattle.std.proofs.lemmas.Cmp.{tied_itself}
use Rattle.std.proofs.lemmas.List.Sums.{sum_by-cons}
use Rattle.std.proofs.lemmas.Bool.{cases_eq}
use Rattle.std.proofs.lemmas.Bool.Decides.{eqb_tells}
use Rattle.machine_names.specs.declared.names.PageName.{PageName}
use Rattle.machine_names.specs.declared.names.TheConstants.{MOST_FILES, FILE_PAGES}
use Rattle.machine_names.specs.Orders.{FilePage, file_page_cmp}
use Rattle.machine_names.proofs.OrderLemmas.{file_page_total, file_page_apart}
use Rattle.page_files.specs.Pages.{PagesOf}
use Rattle.page_homes.specs.declared.homes.Home.{Home}
use Rattle.plain_pages.proofs.Counts.{total_insert, total_without, value_counted}
use Rattle.flat_tables.specs.HeldMaps.{name_at, name_of}
use Rattle.flat_tables.specs.SlotTables.{files_held, is_at, filed_total}

abbrev R : FilePage ℕ → FilePage ℕ → Ordering
R = file_page_cmp nat_cmp

pub filed_order : IsTotalOrder (file_page_cmp nat_cmp)
filed_order = file_page_total nat_cmp_total

pub filed_apart : fin.IsAntisymmetric (file_page_cmp nat_cmp)
filed_apart = file_page_apart fin.nat_cmp-IsAntisymmetric

-- a home is itself
pub at_itself : (h : Home) → is_at h.0 h ≡ 1
at_itself h = elim (eqb_tells h.0 h.0) [ inl e ↦ ap (λ b. cond b 1 0) e.0 | inr e ↦ absurd (e.1 refl) ]

pub at_here : (h : ℕ) (k : Home) → k.0 ≡ h → is_at h k ≡ 1
at_here h k same = elim (eqb_tells k.0 h) [ inl e ↦ ap (λ b. cond b 1 0) e.0 | inr e ↦ absurd (e.1 same) ]

pub at_other : (h : ℕ) (k : Home) → k.0 ≢ h → is_at h k ≡ 0
at_other h k ne = elim (eqb_tells k.0 h) [ inl e ↦ absurd (ne e.1) | inr e ↦ ap (λ b. cond b 1 0) e.0 ]

-- entries with other values under the same keys
module _ {A B : Type 0} (g : A → B) where
  abbrev renamed : List (FilePage ℕ × A) → List (FilePage ℕ × B)
  renamed es = each (λ e. (e.0, g e.1)) es

  below_same : (x : FilePage ℕ) (es : List (FilePage ℕ × A)) → fin.Entries.below_all R x (renamed es) ≡ fin.Entries.below_all R x es
  below_same x [] = refl
  below_same x (e ∷ es) = ap (λ b. is_lt (R x e.0) && b) (below_same x es)

  sorted_same : (es : List (FilePage ℕ × A)) → fin.is_sorted R (renamed es) ≡ fin.is_sorted R es
  sorted_same [] = refl
  sorted_same (e ∷ es) = λ i. below_same e.0 es i && sorted_same es i

  found_same : (q : FilePage ℕ) (es : List (FilePage ℕ × A)) → fin.find R q (renamed es) ≡ option_map g (fin.find R q es)
  found_same q [] = refl
  found_same q (e ∷ es) = by (found_same q es) (eq_by_cmp R q e.0)
    where
      by : fin.find R q (renamed es) ≡ option_map g (fin.find R q es) → (b : Bool) → cond b (Some (g e.1)) (fin.find R q (renamed es)) ≡ option_map g (cond b (Some e.1) (fin.find R q es))
      by rest true = refl
      by rest false = rest

module _ (names : List (Option PageName)) (files : PagesOf Home) where
  rises : T (fin.is_sorted R (renamed (name_of names) (fin.entries files)))
  rises = subst T (sym (sorted_same (name_of names) (fin.entries files))) (fin.entries_sorted files)

  -- the page that a file names is that of its home
  pub get_filed : (f : FilePage ℕ) → fin.get (files_held names files) f ≡ option_map (name_of names) (fin.get files f)
  unfolding files_held
  get_filed f =
      fin.get-from_sorted R (renamed (name_of names) (fin.entries files)) f rises ∙ found_same (name_of names) f (fin.entries files)
      ∙ ap (option_map (name_of names)) (sym (fin.get-entries files f))

  -- a number for each page that files name
  pub values_filed : (w : PageName → ℕ) → sum_by w (fin.values (files_held names files)) ≡ sum_by (λ h. w (name_of names h)) (fin.values files)
  unfolding files_held
  values_filed w = ap (λ (es : List (FilePage ℕ × PageName)). sum_by w (each (λ e. e.1) es)) (fin.entries-from_sorted R (renamed (name_of names) (fin.entries files)) rises) ∙ by (fin.entries files)
    where
      by : (es : List (FilePage ℕ × Home)) → sum_by w (each (λ e. e.1) (renamed (name_of names) es)) ≡ sum_by (λ h. w (name_of names h)) (each (λ e. e.1) es)
      by [] = refl
      by (e ∷ es) = omega (arith, by es, sum_by-cons w (name_of names e.1) (each (λ (f : FilePage ℕ × PageName). f.1) (renamed (name_of names) es)), sum_by-cons (λ h. w (name_of names h)) e.1 (each (λ (f : FilePage ℕ × Home). f.1) es))

-- numbers that are the same for each home of a list
pub sums_same : (v w : Home → ℕ) (xs : List Home) → ((h : Home) → 1 ≤ sum_by (is_at h.0) xs → v h ≡ w h) → sum_by v xs ≡ sum_by w xs
sums_same v w [] same = refl
sums_same v w (x ∷ xs) same = omega (
  arith,
  sum_by-cons v x xs,
  sum_by-cons w x xs,
  same x (omega (arith, sum_by-cons (is_at x.0) x xs, at_itself x)),
  sums_same v w xs (λ h some. same h (omega (arith, some, sum_by-cons (is_at h.0) x xs))),
)

-- a home that a file names is counted
pub filed_some : (files : PagesOf Home) (f : FilePage ℕ) (h : Home) → fin.get files f ≡ Some h → 1 ≤ filed_total h.0 files
filed_some files f h is = omega (arith, value_counted (file_page_cmp nat_cmp) (is_at h.0) files f h is, at_itself h)

-- where names change only at homes that no file names, files name what they named
pub files_alike : (names names' : List (Option PageName)) (files : PagesOf Home) → ((h : Home) → 1 ≤ filed_total h.0 files → name_of names' h ≡ name_of names h) → files_held names' files ≡ files_held names files
files_alike names names' files same = fin.same_map filed_order filed_apart (files_held names' files) (files_held names files) (λ f. get_filed names' files f ∙ by f (fin.get files f) refl ∙ sym (get_filed names files f))
  where
    by : (f : FilePage ℕ) (o : Option Home) → fin.get files f ≡ o → option_map (name_of names') o ≡ option_map (name_of names) o
    by f None is = refl
    by f (Some h) is = ap Some (same h (filed_some files f h is))

pub files_still : (names names' : List (Option PageName)) (files : PagesOf Home) (home : ℕ) → filed_total home files ≡ 0 → ((k : ℕ) → k ≢ home → name_at names' k ≡ name_at names k) → files_held names' files ≡ files_held names files
files_still names names' files home none others = files_alike names names' files (λ h some. elim (cases_eq h.0 home) [
  | inl same ↦ absurd (omega (arith, some, ap (λ k. filed_total k files) same, none))
  | inr ne ↦ ap (λ (n : Option PageName). Rattle.std.specs.Option.unwrap_or n (record { tty = record { 0 = 0 }; serial = 0 })) (others h.0 ne)
])

-- what a change of one page does to what files name
module _ (names : List (Option PageName)) (files : PagesOf Home) (f : FilePage ℕ) where
  pub held_insert : (h : Home) → files_held names (fin.insert files f h) ≡ fin.insert (files_held names files) f (name_of names h)
  held_insert h = fin.same_map filed_order filed_apart (files_held names (fin.insert files f h)) (fin.insert (files_held names files) f (name_of names h)) (λ g.
      get_filed names (fin.insert files f h) g ∙ ap (option_map (name_of names)) (fin.get-insert filed_order files f h g) ∙ by g (eq_by_cmp R g f) ∙ sym (fin.get-insert filed_order (files_held names files) f (name_of names h) g))
    where
      by : (g : FilePage ℕ) (b : Bool) → option_map (name_of names) (cond b (Some h) (fin.get files g)) ≡ cond b (Some (name_of names h)) (fin.get (files_held names files) g)
      by g true = refl
      by g false = sym (get_filed names files g)

  pub held_remove : files_held names (fin.remove files f) ≡ fin.remove (files_held names files) f
  held_remove = fin.same_map filed_order filed_apart (files_held names (fin.remove files f)) (fin.remove (files_held names files) f) (λ g.
      get_filed names (fin.remove files f) g ∙ ap (option_map (name_of names)) (fin.get-remove filed_order files f g) ∙ by g (eq_by_cmp R g f) ∙ sym (fin.get-remove filed_order (files_held names files) f g))
    where
      by : (g : FilePage ℕ) (b : Bool) → option_map (name_of names) (cond b None (fin.get files g)) ≡ cond b None (fin.get (files_held names files) g)
      by g true = refl
      by g false = sym (get_filed names files g)

-- no file has a page
pub none_filed : (names : List (Option PageName)) → files_held names fin.empty ≡ fin.empty
none_filed names = fin.same_map filed_order filed_apart (files_held names fin.empty) fin.empty (λ f. get_filed names fin.empty f ∙ ap (option_map (name_of names)) (fin.get-empty R f) ∙ sym (fin.get-empty R f))

-- a page of a file more, and one less
pub filed_more : (files : PagesOf Home) (f : FilePage ℕ) (h : Home) (k : ℕ) → fin.get files f ≡ None → filed_total k (fin.insert files f h) ≡ filed_total k files + is_at k h
filed_more files f h k none =
    let before : option_map_or (is_at k) (fin.get files f) 0 ≡ 0 = ap (λ (o : Option Home). option_map_or (is_at k) o 0) none in
    omega (arith, total_insert filed_order (is_at k) files f h, before)

pub filed_less : (files : PagesOf Home) (f : FilePage ℕ) (h : Home) (k : ℕ) → fin.get files f ≡ Some h → filed_total k (fin.remove files f) + is_at k h ≡ filed_total k files
filed_less files f h k there = total_without filed_order filed_apart (is_at k) files f h there

-- a page of a file more is within its bounds, if it is
pub filed_within : (files : PagesOf Home) (f : FilePage ℕ) (h : Home) → (f.file < MOST_FILES) × (f.page < FILE_PAGES) → ((g : FilePage ℕ) (k : Home) → fin.get files g ≡ Some k → (g.file < MOST_FILES) × (g.page < FILE_PAGES))
    → (g : FilePage ℕ) (k : Home) → fin.get (fin.insert files f h) g ≡ Some k → (g.file < MOST_FILES) × (g.page < FILE_PAGES)
filed_within files f h bounds within g k is = by (eq_by_cmp R g f) refl (sym (fin.get-insert filed_order files f h g) ∙ is)
  where
    by : (b : Bool) → eq_by_cmp R g f ≡ b → cond b (Some h) (fin.get files g) ≡ Some k → (g.file < MOST_FILES) × (g.page < FILE_PAGES)
    by true tied e = (let same : g ≡ f = filed_apart g f ((Equal-is (R g f)).0 tied) in (omega (arith, ap (λ (x : FilePage ℕ). x.file) same, bounds.0), omega (arith, ap (λ (x : FilePage ℕ). x.page) same, bounds.1)))
    by false tied e = within g k e

-- and so is a page less
pub filed_without : (files : PagesOf Home) (f : FilePage ℕ) → ((g : FilePage ℕ) (k : Home) → fin.get files g ≡ Some k → (g.file < MOST_FILES) × (g.page < FILE_PAGES)) → (g : FilePage ℕ) (k : Home) → fin.get (fin.remove files f) g ≡ Some k → (g.file < MOST_FILES) × (g.page < FILE_PAGES)
filed_without files f within g k is = by (eq_by_cmp R g f) (sym (fin.get-remove filed_order files f g) ∙ is)
  where
    by : (b : Bool) → cond b None (fin.get files g) ≡ Some k → (g.file < MOST_FILES) × (g.page < FILE_PAGES)
    by true e = absurd (cc e)
    by false e = within g k e

-- what files name with a home at one of their pages, or with none
abbrev pub homes_with : PagesOf Home → FilePage ℕ → Option Home → PagesOf Home
homes_with files f (Some h) = fin.insert files f h
homes_with files f None = fin.remove files f

pub with_here : (files : PagesOf Home) (f : FilePage ℕ) (o : Option Home) → fin.get (homes_with files f o) f ≡ o
with_here files f None = fin.get-remove filed_order files f f ∙ ap (λ r. cond (is_eq r) None (fin.get files f)) (tied_itself filed_order f)
with_here files f (Some h) = fin.get-insert filed_order files f h f ∙ ap (λ r. cond (is_eq r) (Some h) (fin.get files f)) (tied_itself filed_order f)

pub with_elsewhere : (files : PagesOf Home) (f g : FilePage ℕ) (o : Option Home) → g ≢ f → fin.get (homes_with files f o) g ≡ fin.get files g
with_elsewhere files f g o ne = by (eq_by_cmp R g f) refl o
  where
    by : (b : Bool) → eq_by_cmp R g f ≡ b → (o : Option Home) → fin.get (homes_with files f o) g ≡ fin.get files g
    by true tied o = absurd (ne (filed_apart g f ((Equal-is (R g f)).0 tied)))
    by false tied None = fin.get-remove filed_order files f g ∙ ap (λ b. cond b None (fin.get files g)) tied
    by false tied (Some h) = fin.get-insert filed_order files f h g ∙ ap (λ b. cond b (Some h) (fin.get files g)) tied

-- a page that isn't there is taken out as it is
pub without_none : (files : PagesOf Home) (f : FilePage ℕ) → fin.get files f ≡ None → files ≡ fin.remove files f
without_none files f none = fin.same_map filed_order filed_apart files (fin.remove files f) (λ g. sym (fin.get-remove filed_order files f g ∙ by g (eq_by_cmp R g f) refl))
  where
    by : (g : FilePage ℕ) (b : Bool) → eq_by_cmp R g f ≡ b → cond b None (fin.get files g) ≡ fin.get files g
    by g true tied = sym (ap (fin.get files) (filed_apart g f ((Equal-is (R g f)).0 tied)) ∙ none)
    by g false tied = refl
