-- Pages of files by the names of the files.
use Rattle.std.proofs.Common.{◌≡◌, ◌≢◌, ℕ, true, false, List, Option, Some, None, refl, sym, ◌∙◌, ap, ◌⊎◌, inl, inr}
use Rattle.std.specs.Prelude.{is_some}
use Rattle.std.specs.Option.{option_map}
use Rattle.std.specs.declared.cmp.Ordering.{Ordering}
use Rattle.std.specs.declared.cmp.Ordering.TheVariants.{Less, Equal, Greater}
use Rattle.std.specs.Ordering.{eq_by_cmp, nat_cmp, ordering_then}
use Rattle.std.specs.Cmp.{IsTotalOrder, nat_cmp_total}
use Rattle.std.specs.FinMap as map
use Rattle.std.specs.FinMap.{IsAntisymmetric, nat_cmp-IsAntisymmetric}
use Rattle.machine_names.specs.Orders.{FilePage, file_page_cmp, name_cmp}
use Rattle.machine_names.proofs.OrderLemmas.{file_page_total}
use Rattle.plain_files.specs.Directory.{Files, IsAbsent}
use Rattle.plain_files.specs.NamedFiles.{AreFiled, AreNumbers, name_of, page_named, pages_named}
use Rattle.machine_names.proofs.Keys.{cases_key, get_gone, get_gone_other, get_put, get_put_other, parts, ties}
use Rattle.file_tables.proofs.Names.{cases_file, name_apart, name_total, named, one_value}
use Rattle.file_tables.proofs.Rekeyed.{each_there, rekeyed_at, rekeyed_none, weaker}

both_equal : (r s : Ordering) → ordering_then r s ≡ Equal → (r ≡ Equal) × (s ≡ Equal)
both_equal Less s e = absurd (cc e)
both_equal Equal s e = (refl, e)
both_equal Greater s e = absurd (cc e)

-- only the same page of the same file ties with a page
module _ {K : Type 0} {R : K → K → Ordering} (apart : IsAntisymmetric R) where
  pub page_apart : IsAntisymmetric (file_page_cmp R)
  page_apart p q e =
      let both = both_equal (R p.file q.file) (nat_cmp p.page q.page) e in
      let file = apart p.file q.file both.0 in
      let page = nat_cmp-IsAntisymmetric p.page q.page both.1 in
      λ i. record { file = file i; page = page i }

pub number_pages : IsTotalOrder (file_page_cmp nat_cmp)
number_pages = file_page_total nat_cmp_total

pub name_pages : IsTotalOrder (file_page_cmp name_cmp)
name_pages = file_page_total name_total

pub numbers_apart : IsAntisymmetric (file_page_cmp nat_cmp)
numbers_apart = page_apart nat_cmp-IsAntisymmetric

names_apart : IsAntisymmetric (file_page_cmp name_cmp)
names_apart = page_apart name_apart

module _ (m : Files) (a : AreNumbers m) where
  -- pages of files that are there have the same name where they are the same
  same_page : (p q : FilePage ℕ) → map.contains_key m p.file ≡ true → map.contains_key m q.file ≡ true → page_named m p ≡ page_named m q → p ≡ q
  same_page p q p_there q_there e =
      let file : p.file ≡ q.file = a.once p.file q.file (name_of m q.file) (named m p.file p_there ∙ ap (λ (x : FilePage (List ℕ)). Some x.file) e) (named m q.file q_there) in
      let page : p.page ≡ q.page = ap (λ (x : FilePage (List ℕ)). x.page) e in
      λ i. record { file = file i; page = page i }

  pub alike_pages : (p q : FilePage ℕ) → map.contains_key m p.file ≡ true → map.contains_key m q.file ≡ true
      → eq_by_cmp (file_page_cmp name_cmp) (page_named m p) (page_named m q) ≡ eq_by_cmp (file_page_cmp nat_cmp) p q
  alike_pages p q p_there q_there = by (cases_key number_pages numbers_apart p q)
    where
      by : (p ≡ q) ⊎ (p ≢ q) → eq_by_cmp (file_page_cmp name_cmp) (page_named m p) (page_named m q) ≡ eq_by_cmp (file_page_cmp nat_cmp) p q
      by (inl e) = ties name_pages names_apart (page_named m p) (page_named m q) (ap (page_named m) e) ∙ sym (ties number_pages numbers_apart p q e)
      by (inr ne) =
          parts name_pages names_apart (page_named m p) (page_named m q) (λ e. ne (same_page p q p_there q_there e))
          ∙ sym (parts number_pages numbers_apart p q ne)

  module _ {V : Type 0} (pages : map.FinMap (file_page_cmp nat_cmp) V) (filed : AreFiled m pages) where
    its_file : (e : FilePage ℕ × V) → map.get pages e.0 ≡ Some e.1 → map.contains_key m e.0.file ≡ true
    its_file e there = filed e.0 (ap is_some there)

    -- a page of a file that is there
    pub page_at : (p : FilePage ℕ) → map.contains_key m p.file ≡ true → map.get (pages_named m pages) (page_named m p) ≡ map.get pages p
    unfolding pages_named
    page_at p there =
        rekeyed_at number_pages numbers_apart name_pages (λ k v. page_named m k) (λ k v. v) (page_named m p) pages p
        (λ e held. alike_pages p e.0 there (its_file e held))
        ∙ same_option (map.get pages p)
      where
        same_option : (o : Option V) → option_map (λ v. v) o ≡ o
        same_option None = refl
        same_option (Some v) = refl

    -- no page of a file that isn't there
    pub page_none : (q : FilePage (List ℕ)) → IsAbsent m q.file → map.get (pages_named m pages) q ≡ None
    unfolding pages_named
    page_none q absent =
        rekeyed_none number_pages numbers_apart name_pages (λ k v. page_named m k) (λ k v. v) q pages
        (weaker (λ e. map.get pages e.0 ≡ Some e.1) (λ e. eq_by_cmp (file_page_cmp name_cmp) q (page_named m e.0) ≡ false) (map.entries pages)
        (λ e held. parts name_pages names_apart q (page_named m e.0)
        (λ same. absent e.0.file (named m e.0.file (its_file e held) ∙ ap (λ (x : FilePage (List ℕ)). Some x.file) (sym same))))
        (each_there number_pages numbers_apart pages))

    -- pages that answer as these do are these
    pub pages_are : (n : map.FinMap (file_page_cmp name_cmp) V)
        → ((p : FilePage ℕ) → map.contains_key m p.file ≡ true → map.get n (page_named m p) ≡ map.get pages p)
        → ((q : FilePage (List ℕ)) → IsAbsent m q.file → map.get n q ≡ None) → pages_named m pages ≡ n
    pages_are n found none = map.same_map name_pages names_apart (pages_named m pages) n (λ q. at q (cases_file m a q.file))
      where
        at : (q : FilePage (List ℕ)) → ((f : ℕ) × (map.get m f ≡ Some q.file)) ⊎ IsAbsent m q.file → map.get (pages_named m pages) q ≡ map.get n q
        at q (inl (f, is)) =
            let p : FilePage ℕ = record { file = f; page = q.page } in
            let there : map.contains_key m f ≡ true = ap is_some is in
            let file : name_of m f ≡ q.file = one_value (map.get m f) (name_of m f) q.file (named m f there) is in
            let same : page_named m p ≡ q = λ i. record { file = file i; page = q.page } in
            ap (map.get (pages_named m pages)) (sym same) ∙ (page_at p there ∙ (sym (found p there) ∙ ap (map.get n) same))
        at q (inr absent) = page_none q absent ∙ sym (none q absent)

module _ (m : Files) (a : AreNumbers m) {V : Type 0} (pages : map.FinMap (file_page_cmp nat_cmp) V) (filed : AreFiled m pages) (at : FilePage ℕ) (there : map.contains_key m at.file ≡ true) where
  pub filed_put : (v : V) → AreFiled m (map.insert pages at v)
  filed_put v p held = by (cases_key number_pages numbers_apart p at)
    where
      by : (p ≡ at) ⊎ (p ≢ at) → map.contains_key m p.file ≡ true
      by (inl e) = ap (λ (x : FilePage ℕ). map.contains_key m x.file) e ∙ there
      by (inr ne) = filed p (sym (ap is_some (get_put_other number_pages numbers_apart pages at p v ne)) ∙ held)

  filed_gone : AreFiled m (map.remove pages at)
  filed_gone p held = by (cases_key number_pages numbers_apart p at)
    where
      by : (p ≡ at) ⊎ (p ≢ at) → map.contains_key m p.file ≡ true
      by (inl e) = ap (λ (x : FilePage ℕ). map.contains_key m x.file) e ∙ there
      by (inr ne) = filed p (sym (ap is_some (get_gone_other number_pages numbers_apart pages at p ne)) ∙ held)

  not_this : (q : FilePage (List ℕ)) → IsAbsent m q.file → q ≢ page_named m at
  not_this q absent e = absent at.file (named m at.file there ∙ ap (λ (x : FilePage (List ℕ)). Some x.file) (sym e))

  pub page_put : (v : V) → pages_named m (map.insert pages at v) ≡ map.insert (pages_named m pages) (page_named m at) v
  page_put v =
      pages_are m a (map.insert pages at v) (filed_put v) (map.insert (pages_named m pages) (page_named m at) v)
      (λ p p_there. found p p_there (cases_key number_pages numbers_apart p at))
      (λ q absent. get_put_other name_pages names_apart (pages_named m pages) (page_named m at) q v (not_this q absent) ∙ page_none m a pages filed q absent)
    where
      found : (p : FilePage ℕ) → map.contains_key m p.file ≡ true → (p ≡ at) ⊎ (p ≢ at)
          → map.get (map.insert (pages_named m pages) (page_named m at) v) (page_named m p) ≡ map.get (map.insert pages at v) p
      found p p_there (inl e) =
          get_put name_pages names_apart (pages_named m pages) (page_named m at) (page_named m p) v (ap (page_named m) e)
          ∙ sym (get_put number_pages numbers_apart pages at p v e)
      found p p_there (inr ne) =
          get_put_other name_pages names_apart (pages_named m pages) (page_named m at) (page_named m p) v (λ e. ne (same_page m a p at p_there there e))
          ∙ (page_at m a pages filed p p_there ∙ sym (get_put_other number_pages numbers_apart pages at p v ne))

  pub page_gone : pages_named m (map.remove pages at) ≡ map.remove (pages_named m pages) (page_named m at)
  page_gone =
      pages_are m a (map.remove pages at) filed_gone (map.remove (pages_named m pages) (page_named m at))
      (λ p p_there. found p p_there (cases_key number_pages numbers_apart p at))
      (λ q absent. get_gone_other name_pages names_apart (pages_named m pages) (page_named m at) q (not_this q absent) ∙ page_none m a pages filed q absent)
    where
      found : (p : FilePage ℕ) → map.contains_key m p.file ≡ true → (p ≡ at) ⊎ (p ≢ at)
          → map.get (map.remove (pages_named m pages) (page_named m at)) (page_named m p) ≡ map.get (map.remove pages at) p
      found p p_there (inl e) =
          get_gone name_pages names_apart (pages_named m pages) (page_named m at) (page_named m p) (ap (page_named m) e)
          ∙ sym (get_gone number_pages numbers_apart pages at p e)
      found p p_there (inr ne) =
          get_gone_other name_pages names_apart (pages_named m pages) (page_named m at) (page_named m p) (λ e. ne (same_page m a p at p_there there e))
          ∙ (page_at m a pages filed p p_there ∙ sym (get_gone_other number_pages numbers_apart pages at p ne))
