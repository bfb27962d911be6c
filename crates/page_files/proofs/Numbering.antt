-- Pages of files that are numbered through, and what a change of one does.
use Rattle.std.proofs.Common.{◌≡◌, ◌≢◌, ℕ, ◌+◌, ◌*◌, ◌/◌, ◌%◌, ◌<◌, ◌≤◌, ◌==◌, ◌&&◌, Bool, true, false, List, [], ◌∷◌, Option, Some, None, cond, refl, sym, ◌∙◌, ap, arith, rules, ◌⊎◌, inl, inr}
use Rattle.std.specs.Prelude.{map as each}
use Rattle.std.specs.Ordering.{eq_by_cmp, is_eq, nat_cmp}
use Rattle.std.specs.Cmp.{IsTotalOrder, unsigned_tied}
use Rattle.std.proofs.lemmas.Cmp.{nat_cmp_total}
use Rattle.std.proofs.lemmas.Bool.{cases_Bool, cases_lt}
use Rattle.std.specs.FinMap as map
use Rattle.std.specs.FinMap.{IsAntisymmetric, find}
use Rattle.machine_names.specs.Orders.{FilePage, file_page, file_page_cmp}
use Rattle.machine_names.proofs.OrderLemmas.{file_page_total, pairs_tied}
use Rattle.machine_names.specs.declared.names.TheConstants.{FILE_PAGES}
use Rattle.page_files.specs.Pages.{PagesOf, OthersStay, by_file}

pub page_total : IsTotalOrder (file_page_cmp nat_cmp)
page_total = file_page_total nat_cmp_total

pub tied_pages : (a b : FilePage ℕ) → eq_by_cmp (file_page_cmp nat_cmp) a b ≡ true → a ≡ b
tied_pages a b e =
    let both : (a.file == b.file) && (a.page == b.page) ≡ true = sym (pairs_tied a.file b.file a.page b.page) ∙ e in
    let f : a.file ≡ b.file = grind (arith, rules, both) in
    let p : a.page ≡ b.page = grind (arith, rules, both) in
    λ i. record { file = f i; page = p i }

pub page_apart : IsAntisymmetric (file_page_cmp nat_cmp)
page_apart a b e = tied_pages a b (ap is_eq e)

-- pages that differ do not tie
other : (q at : FilePage ℕ) → q ≢ at → eq_by_cmp (file_page_cmp nat_cmp) q at ≡ false
other q at ne = elim (cases_Bool (eq_by_cmp (file_page_cmp nat_cmp) q at)) [
  | inl e ↦ absurd (ne (tied_pages q at e))
  | inr e ↦ e
]

-- the page of a number
abbrev pub numbered : ℕ → FilePage ℕ
numbered n = file_page (n / FILE_PAGES) (n % FILE_PAGES)

number_tied : (f p n : ℕ) → p < FILE_PAGES → (f == n / FILE_PAGES) && (p == n % FILE_PAGES) ≡ (f * FILE_PAGES + p == n)
number_tied f p n h = grind (arith, rules)

ties : (f p n : ℕ) → p < FILE_PAGES → eq_by_cmp (file_page_cmp nat_cmp) (file_page f p) (numbered n) ≡ eq_by_cmp nat_cmp (f * FILE_PAGES + p) n
ties f p n h = pairs_tied f (n / FILE_PAGES) p (n % FILE_PAGES) ∙ (number_tied f p n h ∙ sym (unsigned_tied (f * FILE_PAGES + p) n))

untied : (f p n : ℕ) → FILE_PAGES ≤ p → eq_by_cmp (file_page_cmp nat_cmp) (file_page f p) (numbered n) ≡ false
untied f p n h = pairs_tied f (n / FILE_PAGES) p (n % FILE_PAGES) ∙ grind (arith, rules)

module _ {K : Type 0} where
  abbrev rekeyed : List (ℕ × K) → List (FilePage ℕ × K)
  rekeyed es = each (λ (e : ℕ × K). (numbered e.0, e.1)) es

  find_rekeyed : (es : List (ℕ × K)) (f p : ℕ) → p < FILE_PAGES → find (file_page_cmp nat_cmp) (file_page f p) (rekeyed es) ≡ find nat_cmp (f * FILE_PAGES + p) es
  find_rekeyed [] f p h = refl
  find_rekeyed (e ∷ es) f p h = λ i. cond (ties f p e.0 h i) (Some e.1) (find_rekeyed es f p h i)

  find_beyond : (es : List (ℕ × K)) (f p : ℕ) → FILE_PAGES ≤ p → find (file_page_cmp nat_cmp) (file_page f p) (rekeyed es) ≡ None
  find_beyond [] f p h = refl
  find_beyond (e ∷ es) f p h = ap (λ b. cond b (Some e.1) (find (file_page_cmp nat_cmp) (file_page f p) (rekeyed es))) (untied f p e.0 h) ∙ find_beyond es f p h

  pub got_by_file : (m : map.FinMap nat_cmp K) (f p : ℕ) → p < FILE_PAGES → map.get (by_file m) (file_page f p) ≡ map.get m (f * FILE_PAGES + p)
  unfolding by_file
  got_by_file m f p h = map.get-from_entries page_total (rekeyed (map.entries m)) (file_page f p) ∙ find_rekeyed (map.entries m) f p h ∙ sym (map.get-entries m (f * FILE_PAGES + p))

  pub none_beyond : (m : map.FinMap nat_cmp K) (f p : ℕ) → FILE_PAGES ≤ p → map.get (by_file m) (file_page f p) ≡ None
  unfolding by_file
  none_beyond m f p h = map.get-from_entries page_total (rekeyed (map.entries m)) (file_page f p) ∙ find_beyond (map.entries m) f p h

  same : (a b : PagesOf K) → ((f p : ℕ) → (p < FILE_PAGES) ⊎ (FILE_PAGES ≤ p) → map.get a (file_page f p) ≡ map.get b (file_page f p)) → a ≡ b
  same a b alike = map.same_map page_total page_apart a b (λ q. alike q.file q.page (cases_lt q.page FILE_PAGES))

  pub by_file_none : by_file (map.empty {X = K}) ≡ map.empty {X = K} {R = file_page_cmp nat_cmp}
  by_file_none = same (by_file map.empty) map.empty (λ f p h. at f p h ∙ sym (map.get-empty (file_page_cmp nat_cmp) (file_page f p)))
    where
      at : (f p : ℕ) → (p < FILE_PAGES) ⊎ (FILE_PAGES ≤ p) → map.get (by_file (map.empty {X = K})) (file_page f p) ≡ None
      at f p (inl h) = got_by_file map.empty f p h ∙ map.get-empty nat_cmp (f * FILE_PAGES + p)
      at f p (inr h) = none_beyond map.empty f p h

  module _ (m : map.FinMap nat_cmp K) (n : ℕ) where
    pub got : (f : ℕ) → n / FILE_PAGES ≡ f → (p : ℕ) → n % FILE_PAGES ≡ p → map.get m n ≡ map.get (by_file m) (file_page f p)
    got f a p b = sym (got_by_file m f p (omega arith) ∙ ap (λ k. map.get m k) (omega arith))

    abbrev at_number : ℕ → ℕ → Bool
    at_number f p = eq_by_cmp (file_page_cmp nat_cmp) (file_page f p) (numbered n)

    -- a change at a number, as far as a look at a page sees it
    changed : (o : Option K) (n' : map.FinMap nat_cmp K) → ((q : ℕ) → map.get n' q ≡ cond (eq_by_cmp nat_cmp q n) o (map.get m q))
        → (f p : ℕ) → (p < FILE_PAGES) ⊎ (FILE_PAGES ≤ p) → map.get (by_file n') (file_page f p) ≡ cond (at_number f p) o (map.get (by_file m) (file_page f p))
    changed o n' is f p (inl h) =
        got_by_file n' f p h ∙ is (f * FILE_PAGES + p)
        ∙ (ap (λ b. cond b o (map.get m (f * FILE_PAGES + p))) (sym (ties f p n h)) ∙ ap (λ x. cond (at_number f p) o x) (sym (got_by_file m f p h)))
    changed o n' is f p (inr h) = none_beyond n' f p h ∙ sym (ap (λ b. cond b o (map.get (by_file m) (file_page f p))) (untied f p n h) ∙ none_beyond m f p h)

    put_numbered : (k : K) → by_file (map.insert m n k) ≡ map.insert (by_file m) (numbered n) k
    put_numbered k =
        same (by_file (map.insert m n k)) (map.insert (by_file m) (numbered n) k)
        (λ f p h. changed (Some k) (map.insert m n k) (λ q. map.get-insert nat_cmp_total m n k q) f p h ∙ sym (map.get-insert page_total (by_file m) (numbered n) k (file_page f p)))

    gone_numbered : by_file (map.remove m n) ≡ map.remove (by_file m) (numbered n)
    gone_numbered =
        same (by_file (map.remove m n)) (map.remove (by_file m) (numbered n))
        (λ f p h. changed None (map.remove m n) (λ q. map.get-remove nat_cmp_total m n q) f p h ∙ sym (map.get-remove page_total (by_file m) (numbered n) (file_page f p)))

    pub put_by_file : (f : ℕ) → n / FILE_PAGES ≡ f → (p : ℕ) → n % FILE_PAGES ≡ p → (k : K) → by_file (map.insert m n k) ≡ map.insert (by_file m) (file_page f p) k
    put_by_file f a p b k = put_numbered k ∙ (λ i. map.insert (by_file m) (file_page (a i) (b i)) k)

    pub gone_by_file : (f : ℕ) → n / FILE_PAGES ≡ f → (p : ℕ) → n % FILE_PAGES ≡ p → by_file (map.remove m n) ≡ map.remove (by_file m) (file_page f p)
    gone_by_file f a p b = gone_numbered ∙ (λ i. map.remove (by_file m) (file_page (a i) (b i)))

  pub put_others : (pages : PagesOf K) (at : FilePage ℕ) (k : K) → OthersStay pages (map.insert pages at k) at
  put_others pages at k q ne = map.get-insert page_total pages at k q ∙ ap (λ b. cond b (Some k) (map.get pages q)) (other q at ne)

  pub gone_others : (pages : PagesOf K) (at : FilePage ℕ) → OthersStay pages (map.remove pages at) at
  gone_others pages at q ne = map.get-remove page_total pages at q ∙ ap (λ b. cond b None (map.get pages q)) (other q at ne)
