-- How many pages a file has, counted page by page.
use Rattle.std.proofs.Common.{◌≡◌, ◌≢◌, ◌⊎◌, inl, inr, ℕ, zero, suc, ◌+◌, ◌<◌, ◌≤◌, Bool, true, false, cond, length, Option, None, Some, refl, sym, ◌∙◌, ap, arith}
use Rattle.std.specs.Prelude.{is_some, nat_lt, ◌&&◌}
use Rattle.std.specs.Ordering.{eq_by_cmp, nat_cmp}
use Rattle.std.specs.Cmp.{IsTotalOrder}
use Rattle.std.proofs.lemmas.Cmp.{nat_cmp_total}
use Rattle.std.proofs.lemmas.Bool.Decides.{nat_tests}
use Rattle.std.proofs.lemmas.List.{length-map}
use Rattle.std.specs.FinMap as map
use Rattle.std.specs.FinMap.{IsAntisymmetric, nat_cmp-IsAntisymmetric}
use Rattle.machine_names.specs.declared.names.PageName.{PageName}
use Rattle.machine_names.specs.declared.names.TheConstants.{FILE_PAGES}
use Rattle.machine_names.specs.Orders.{FilePage, file_page, file_page_cmp}
use Rattle.machine_names.proofs.Keys.{cases_key, get_put, get_put_other}
use Rattle.machine_names.proofs.OrderLemmas.{file_page_apart, file_page_total}
use Rattle.number_map.proofs.Keys.{tied, untied}
use Rattle.std.proofs.lemmas.Bool.{cases_eq}
use Rattle.plain_pages.specs.PlainPages.{NumberedPages}
use Rattle.plain_pages.specs.FilePages.{names_of_file}

-- how many of the first pages are there
unfoldable pub counts : (ℕ → Bool) → ℕ → ℕ
counts is zero = 0
counts is (suc k) = counts is k + cond (is k) 1 0

pub few : (is : ℕ → Bool) (k : ℕ) → counts is k ≤ k
unfolding counts
few is zero = omega arith
few is (suc k) = more (is k) (few is k)
  where
    more : (b : Bool) → counts is k ≤ k → counts is k + cond b 1 0 ≤ suc k
    more true h = omega (arith, h)
    more false h = omega (arith, h)

abbrev Pages : Type 0
Pages = map.FinMap (file_page_cmp nat_cmp) PageName

total : IsTotalOrder (file_page_cmp nat_cmp)
total = file_page_total nat_cmp_total

apart : IsAntisymmetric (file_page_cmp nat_cmp)
apart = file_page_apart nat_cmp-IsAntisymmetric

module _ (files : Pages) (file : ℕ) where
  abbrev at : ℕ → FilePage ℕ
  at page = file_page file page

  abbrev is_below : ℕ → FilePage ℕ → Bool
  is_below k f = eq_by_cmp nat_cmp f.file file && nat_lt f.page k

  -- its pages up to one
  abbrev below : ℕ → Pages
  below k = map.retain_keys files (is_below k)

  got : (k : ℕ) (q : FilePage ℕ) → map.get (below k) q ≡ cond (is_below k q) (map.get files q) None
  got k q = map.get-retain_keys files (is_below k) q (λ x tie. ap (is_below k) (sym (apart q x tie)))

  -- whether a page is one of them
  itself : (k : ℕ) → is_below k (at k) ≡ false
  itself k = ap (λ b. b && nat_lt k k) (tied file file refl) ∙ grind (arith, nat_tests)

  next : (k : ℕ) → is_below (suc k) (at k) ≡ true
  next k = ap (λ b. b && nat_lt k (suc k)) (tied file file refl) ∙ grind (arith, nat_tests)

  others : (k : ℕ) (q : FilePage ℕ) → q ≢ at k → is_below (suc k) q ≡ is_below k q
  others k q ne = by (cases_eq q.file file)
    where
      by : (q.file ≡ file) ⊎ (q.file ≢ file) → is_below (suc k) q ≡ is_below k q
      by (inr other) = ap (λ b. b && nat_lt q.page (suc k)) (untied q.file file other) ∙ sym (ap (λ b. b && nat_lt q.page k) (untied q.file file other))
      by (inl e) = ap (λ b. eq_by_cmp nat_cmp q.file file && b) page
        where
          apart_from : q.page ≢ k
          apart_from f = ne (λ i. record { file = e i; page = f i })

          page : nat_lt q.page (suc k) ≡ nat_lt q.page k
          page = grind (arith, nat_tests, apart_from)

  -- one page more is one more, where it is there
  module _ (k : ℕ) where
    none_more : map.get files (at k) ≡ None → below (suc k) ≡ below k
    none_more none = map.same_map total apart (below (suc k)) (below k) (λ q. by q (cases_key total apart q (at k)))
      where
        by : (q : FilePage ℕ) → (q ≡ at k) ⊎ (q ≢ at k) → map.get (below (suc k)) q ≡ map.get (below k) q
        by q (inr ne) = got (suc k) q ∙ ap (λ b. cond b (map.get files q) None) (others k q ne) ∙ sym (got k q)
        by q (inl e) = got (suc k) q ∙ gone (is_below (suc k) q) ∙ sym (gone (is_below k q)) ∙ sym (got k q)
          where
            gone : (b : Bool) → cond b (map.get files q) None ≡ None
            gone true = ap (map.get files) e ∙ none
            gone false = refl

    one_more : (n : PageName) → map.get files (at k) ≡ Some n → below (suc k) ≡ map.insert (below k) (at k) n
    one_more n there = map.same_map total apart (below (suc k)) (map.insert (below k) (at k) n) (λ q. by q (cases_key total apart q (at k)))
      where
        by : (q : FilePage ℕ) → (q ≡ at k) ⊎ (q ≢ at k) → map.get (below (suc k)) q ≡ map.get (map.insert (below k) (at k) n) q
        by q (inr ne) = got (suc k) q ∙ ap (λ b. cond b (map.get files q) None) (others k q ne) ∙ sym (got k q) ∙ sym (get_put_other total apart (below k) (at k) q n ne)
        by q (inl e) = ap (map.get (below (suc k))) e ∙ got (suc k) (at k) ∙ ap (λ b. cond b (map.get files (at k)) None) (next k) ∙ there ∙ sym (get_put total apart (below k) (at k) q n e)

    counted_more : (o : Option PageName) → map.get files (at k) ≡ o → map.len (below (suc k)) ≡ map.len (below k) + cond (is_some o) 1 0
    counted_more None is = ap map.len (none_more is) ∙ omega arith
    counted_more (Some n) is =
        ap map.len (one_more n is) ∙ map.len-insert total (below k) (at k) n
        ∙ ap (λ (o : Option PageName). cond (is_some o) (map.len (below k)) (map.len (below k) + 1)) (got k (at k) ∙ ap (λ b. cond b (map.get files (at k)) None) (itself k))

  none_below : below 0 ≡ map.empty
  none_below = map.same_map total apart (below 0) map.empty (λ q. got 0 q ∙ ap (λ b. cond b (map.get files q) None) (none q) ∙ sym (map.get-empty (file_page_cmp nat_cmp) q))
    where
      none : (q : FilePage ℕ) → is_below 0 q ≡ false
      none q = by (eq_by_cmp nat_cmp q.file file)
        where
          by : (b : Bool) → (b && nat_lt q.page 0) ≡ false
          by true = grind (arith, nat_tests)
          by false = refl

  abbrev there : ℕ → Bool
  there page = is_some (map.get files (at page))

  len_below : (k : ℕ) → map.len (below k) ≡ counts there k
  unfolding counts
  len_below zero = ap map.len none_below ∙ map.len-empty (file_page_cmp nat_cmp) PageName
  len_below (suc k) = counted_more k (map.get files (at k)) refl ∙ ap (λ n. n + cond (there k) 1 0) (len_below k)

  -- all its pages are below the most
  module _ (bound : (f : FilePage ℕ) (n : PageName) → map.get files f ≡ Some n → f.page < FILE_PAGES) where
    abbrev of_file : Pages
    of_file = map.retain_keys files (λ f. eq_by_cmp nat_cmp f.file file)

    all_below : of_file ≡ below FILE_PAGES
    all_below = map.same_map total apart of_file (below FILE_PAGES) (λ q. all q ∙ at_most q (map.get files q) refl ∙ sym (got FILE_PAGES q))
      where
        all : (q : FilePage ℕ) → map.get of_file q ≡ cond (eq_by_cmp nat_cmp q.file file) (map.get files q) None
        all q = map.get-retain_keys files (λ f. eq_by_cmp nat_cmp f.file file) q (λ x tie. ap (λ (f : FilePage ℕ). eq_by_cmp nat_cmp f.file file) (sym (apart q x tie)))

        at_most : (q : FilePage ℕ) (o : Option PageName) → map.get files q ≡ o → cond (eq_by_cmp nat_cmp q.file file) (map.get files q) None ≡ cond (is_below FILE_PAGES q) (map.get files q) None
        at_most q None is = ap (λ (o : Option PageName). cond (eq_by_cmp nat_cmp q.file file) o None) is ∙ none (eq_by_cmp nat_cmp q.file file) ∙ sym (ap (λ (o : Option PageName). cond (is_below FILE_PAGES q) o None) is ∙ none (is_below FILE_PAGES q))
          where
            none : (b : Bool) → cond {A = Option PageName} b None None ≡ None
            none true = refl
            none false = refl
        at_most q (Some n) is = ap (λ b. cond b (map.get files q) None) (by (eq_by_cmp nat_cmp q.file file))
          where
            small : nat_lt q.page FILE_PAGES ≡ true
            small = let h = bound q n is in grind (arith, nat_tests, h)

            by : (b : Bool) → b ≡ (b && nat_lt q.page FILE_PAGES)
            by true = sym small
            by false = refl

    all_counted : length (map.values of_file) ≡ counts there FILE_PAGES
    all_counted = length-map (map.entries of_file) (λ e. e.1) ∙ sym (map.len-entries of_file) ∙ ap map.len all_below ∙ len_below FILE_PAGES

-- so of the pages, where files name what is told
pub pages_counted : (p : NumberedPages) (file : ℕ) (filed : FilePage ℕ → Option PageName) → filed ≡ map.get p.files
    → ((f : FilePage ℕ) (n : PageName) → filed f ≡ Some n → f.page < FILE_PAGES) → counts (λ page. is_some (filed (file_page file page))) FILE_PAGES ≡ length (names_of_file p file)
pages_counted p file filed told bound =
    ap (λ (f : FilePage ℕ → Option PageName). counts (λ page. is_some (f (file_page file page))) FILE_PAGES) told
    ∙ sym (all_counted p.files file (λ f n is. bound f n (ap (λ (g : FilePage ℕ → Option PageName). g f) told ∙ is)))

plus_one : (k : ℕ) → k + 1 ≡ suc k
plus_one k = omega arith

-- one page more
pub more_there : (is : ℕ → Bool) (k : ℕ) → is k ≡ true → counts is (k + 1) ≡ counts is k + 1
unfolding counts
more_there is k h = ap (counts is) (plus_one k) ∙ ap (λ b. counts is k + cond b 1 0) h

pub more_gone : (is : ℕ → Bool) (k : ℕ) → is k ≡ false → counts is (k + 1) ≡ counts is k
unfolding counts
more_gone is k h = ap (counts is) (plus_one k) ∙ ap (λ b. counts is k + cond b 1 0) h ∙ omega arith

pub none_yet : (is : ℕ → Bool) → 0 ≡ counts is 0
unfolding counts
none_yet is = refl
