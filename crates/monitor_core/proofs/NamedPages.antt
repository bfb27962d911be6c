-- Pages of files under the names of the files.
use Rattle.std.proofs.Common.{◌≡◌, ◌≢◌, ℕ, true, false, cond, List, [], ◌∷◌, map as each, Option, None, Some, refl, sym, ◌∙◌, ap, arith, T, is_lt, Ordering}
use Rattle.std.specs.Prelude.{is_some}
use Rattle.std.specs.Ordering.{eq_by_cmp, is_eq, nat_cmp}
use Rattle.std.specs.Cmp.{IsTotalOrder}
use Rattle.std.specs.Option.{option_map_or, unwrap_or}
use Rattle.std.specs.List.{sum_by}
use Rattle.std.proofs.lemmas.List.Sums.{sum_by-cons}
use Rattle.std.specs.FinMap as fin
use Rattle.machine_names.specs.declared.names.PageName.{PageName}
use Rattle.machine_names.specs.Orders.{FilePage, file_page_cmp, name_cmp}
use Rattle.plain_pages.specs.PlainPages.{NumberedPages, refiled}
use Rattle.plain_pages.proofs.Counts.{both_first, both_second, ordered_less, total_insert}
use Rattle.plain_pages.proofs.Whole.{no_values, none_of, tally}
use Rattle.plain_pages.proofs.Refiled.{NameAlike}
use Rattle.plain_files.specs.Directory.{Files}
use Rattle.plain_files.specs.NamedFiles.{AreFiled, AreNumbers, page_named, pages_named}
use Rattle.number_map.proofs.Keys.{get_put_other}
use Rattle.file_tables.proofs.Pages.{alike_pages, name_pages, numbers_apart, number_pages}
use Rattle.file_tables.proofs.Rekeyed.{Each, each_there, weaker}
use Rattle.monitor_core.specs.Systems.{named}
use Rattle.monitor_core.proofs.Filed.{keyed}

-- a map whose entries are put under other keys, which are as far apart, has the same values
abbrev rekeyed : {K L V : Type 0} → (K → L) → List (K × V) → List (L × V)
rekeyed {K} {L} {V} key es = each {B = L × V} (λ (e : K × V). (key e.0, e.1)) es

abbrev AreApart : {K L V : Type 0} → (L → L → Ordering) → (K → L) → List (K × V) → Type 0
AreApart S key [] = Unit {0}
AreApart S key (e ∷ es) = Each (λ x. eq_by_cmp S (key e.0) (key x.0) ≡ false) es × AreApart S key es

module _ {K L V : Type 0} {S : L → L → Ordering} (s : IsTotalOrder S) (key : K → L) (w : V → ℕ) where
  none_there : (q : L) (es : List (K × V)) → Each (λ x. eq_by_cmp S q (key x.0) ≡ false) es → fin.find S q (rekeyed key es) ≡ None
  none_there q [] apart = refl
  none_there q (e ∷ es) apart = ap (λ b. cond b (Some e.1) (fin.find S q (rekeyed key es))) apart.0 ∙ none_there q es apart.1

  sums : (es : List (K × V)) → AreApart S key es → sum_by w (fin.values (fin.from_entries {R = S} (rekeyed key es))) ≡ sum_by w (each (λ e. e.1) es)
  sums [] apart = no_values S w
  sums (e ∷ es) apart =
      let rest = fin.from_entries {R = S} (rekeyed key es) in
      let none : option_map_or w (fin.get rest (key e.0)) 0 ≡ 0 = ap (λ o. option_map_or w o 0) (fin.get-from_entries s (rekeyed key es) (key e.0) ∙ none_there (key e.0) es apart.0) in
      omega (arith, total_insert s w rest (key e.0) e.1, none, sums es apart.1, sum_by-cons w e.1 (each (λ (x : K × V). x.1) es))

module _ {K L V : Type 0} (R : K → K → Ordering) (S : L → L → Ordering) (key : K → L) (P : K × V → Type 0) (parts : (e x : K × V) → P e → P x → eq_by_cmp R e.0 x.0 ≡ false → eq_by_cmp S (key e.0) (key x.0) ≡ false) where
  behind : (e : K × V) → P e → (es : List (K × V)) → T (fin.Entries.below_all R e.0 es) → Each P es → Each (λ x. eq_by_cmp S (key e.0) (key x.0) ≡ false) es
  behind e held [] below all = tt
  behind e held (x ∷ es) below all = (
    parts e x held all.0 (ap is_eq (ordered_less (R e.0 x.0) (both_first (is_lt (R e.0 x.0)) (fin.Entries.below_all R e.0 es) below))),
    behind e held es (both_second (is_lt (R e.0 x.0)) (fin.Entries.below_all R e.0 es) below) all.1,
  )

  are_apart : (es : List (K × V)) → T (fin.is_sorted R es) → Each P es → AreApart S key es
  are_apart [] sorted all = tt
  are_apart (e ∷ es) sorted all = (
    behind e all.0 es (both_first (fin.Entries.below_all R e.0 es) (fin.is_sorted R es) sorted) all.1,
    are_apart es (both_second (fin.Entries.below_all R e.0 es) (fin.is_sorted R es) sorted) all.1,
  )

module _ (m : Files) where
  -- each page is named as often by the files' names as by their numbers
  pub alike_named : (p : NumberedPages) → AreNumbers m → AreFiled m p.files → NameAlike name_cmp p (pages_named m p.files)
  unfolding pages_named
  alike_named p numbers filed n =
      let there : Each (λ (e : FilePage ℕ × PageName). fin.contains_key m e.0.file ≡ true) (fin.entries p.files) =
      weaker (λ e. fin.get p.files e.0 ≡ Some e.1) (λ e. fin.contains_key m e.0.file ≡ true) (fin.entries p.files) (λ e held. filed e.0 (ap is_some held)) (each_there number_pages numbers_apart p.files) in
      sums name_pages (page_named m) (tally n) (fin.entries p.files)
      (are_apart (file_page_cmp nat_cmp) (file_page_cmp name_cmp) (page_named m) (λ e. fin.contains_key m e.0.file ≡ true)
      (λ e x held also apart. alike_pages m numbers e.0 x.0 held also ∙ apart)
      (fin.entries p.files) (fin.entries_sorted p.files) there)

  -- where the pages of files are those of other pages, they have the same names
  pub named_left : (p q : NumberedPages) → q.files ≡ p.files → named m q ≡ keyed (pages_named m p.files) q
  named_left p q same = ap (λ files. refiled name_cmp q (pages_named m files)) same

  pub none_named : pages_named {V = PageName} m fin.empty ≡ fin.empty
  unfolding pages_named
  none_named = ap (λ es. fin.from_entries {R = file_page_cmp name_cmp} (rekeyed (page_named m) es)) (none_of (fin.entries {X = PageName} {R = file_page_cmp nat_cmp} fin.empty) (sym (fin.len-entries {X = PageName} {R = file_page_cmp nat_cmp} fin.empty) ∙ fin.len-empty (file_page_cmp nat_cmp) PageName))

  -- a file that is made has no page, and changes no name of a page
  module _ (f : ℕ) (name : List ℕ) (free : fin.get m f ≡ None) where
    other_file : (g : ℕ) → fin.contains_key m g ≡ true → g ≢ f
    other_file g there e = absurd (let no : false ≡ true = sym (ap is_some (ap (fin.get m) e ∙ free)) ∙ there in cc no)

    still_there : (g : ℕ) → fin.contains_key m g ≡ true → fin.get (fin.insert m f name) g ≡ fin.get m g
    still_there g there = get_put_other m f g name (other_file g there)

    pub filed_made : (pages : fin.FinMap (file_page_cmp nat_cmp) PageName) → AreFiled m pages → AreFiled (fin.insert m f name) pages
    filed_made pages filed at held = ap is_some (still_there at.file (filed at held)) ∙ filed at held

    same_names : (es : List (FilePage ℕ × PageName)) → Each (λ e. fin.contains_key m e.0.file ≡ true) es
        → rekeyed (page_named (fin.insert m f name)) es ≡ rekeyed (page_named m) es
    same_names [] all = refl
    same_names (e ∷ es) all =
        ap (λ (o : Option (List ℕ)). renamed_first o e (rekeyed (page_named (fin.insert m f name)) es)) (still_there e.0.file all.0) ∙ ap (λ (l : List (FilePage (List ℕ) × PageName)). (page_named m e.0, e.1) ∷ l) (same_names es all.1)
      where
        renamed_first : Option (List ℕ) → FilePage ℕ × PageName → List (FilePage (List ℕ) × PageName) → List (FilePage (List ℕ) × PageName)
        renamed_first o e l = (record { file = unwrap_or o []; page = e.0.page }, e.1) ∷ l

    pub named_made : (pages : fin.FinMap (file_page_cmp nat_cmp) PageName) → AreFiled m pages → pages_named (fin.insert m f name) pages ≡ pages_named m pages
    unfolding pages_named
    named_made pages filed =
        ap (λ es. fin.from_entries {R = file_page_cmp name_cmp} es)
        (same_names (fin.entries pages) (weaker (λ e. fin.get pages e.0 ≡ Some e.1) (λ e. fin.contains_key m e.0.file ≡ true) (fin.entries pages) (λ e held. filed e.0 (ap is_some held)) (each_there number_pages numbers_apart pages)))
