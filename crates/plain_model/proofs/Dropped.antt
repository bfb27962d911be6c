-- What dropping pages that nothing names leaves of their words, whatever files are known by.
use Rattle.std.proofs.Common.{◌≡◌, Bool, true, false, cond, ◌&&◌, ◌||◌, List, [], ◌∷◌, None, inl, inr, refl, sym, ◌∙◌, ap, Ordering}
use Rattle.std.specs.Prelude.{◌==◌}
use Rattle.std.specs.List.{sum_by}
use Rattle.std.specs.FinMap as map
use Rattle.machine_names.specs.declared.names.PageName.{PageName}
use Rattle.machine_names.specs.Orders.{file_page_cmp}
use Rattle.machine_names.proofs.OrderLemmas.{page_tied, page_cmp_total}
use Rattle.plain_pages.specs.PlainPages.{PlainPages, refiled}
use Rattle.plain_pages.specs.Room.{same_page, uses}
use Rattle.plain_pages.specs.References.{drop_unnamed, drop_all_unnamed}
use Rattle.plain_pages.proofs.Counts.{has, Same, page_tells}
use Rattle.plain_pages.proofs.Whole.{tally}
use Rattle.plain_pages.proofs.Makings.{uses_objects}
use Rattle.plain_pages.proofs.Refiled.{NameAlike, uses_refiled}

module _ {K : Type 0} {file_cmp : K → K → Ordering} where
  -- of the page that is dropped, and of each other
  drop_objects : (q : PlainPages file_cmp) (n x : PageName) → map.get (drop_unnamed q n).objects x ≡ cond (same_page x n && (uses q x == 0)) None (map.get q.objects x)
  drop_objects q n x = by (uses q n == 0) refl (page_tells x n)
    where
      by : (b : Bool) → (uses q n == 0) ≡ b → Same x n → map.get (cond b (record q { objects = map.remove q.objects n }) q).objects x ≡ cond (same_page x n && (uses q x == 0)) None (map.get q.objects x)
      by true is (inl e) = map.get-remove page_cmp_total q.objects n x ∙ ap (λ b. cond b None (map.get q.objects x)) (page_tied x n ∙ e.0) ∙ ap (λ b. cond b None (map.get q.objects x)) (sym (ap (λ b. b && (uses q x == 0)) e.0 ∙ ap (λ y. uses q y == 0) e.1 ∙ is))
      by true is (inr e) = map.get-remove page_cmp_total q.objects n x ∙ ap (λ b. cond b None (map.get q.objects x)) (page_tied x n ∙ e.0) ∙ ap (λ b. cond b None (map.get q.objects x)) (sym (ap (λ b. b && (uses q x == 0)) e.0))
      by false is (inl e) = ap (λ b. cond b None (map.get q.objects x)) (sym (ap (λ b. b && (uses q x == 0)) e.0 ∙ ap (λ y. uses q y == 0) e.1 ∙ is))
      by false is (inr e) = ap (λ b. cond b None (map.get q.objects x)) (sym (ap (λ b. b && (uses q x == 0)) e.0))

  -- it leaves how often each is named
  dropped_uses : (q : PlainPages file_cmp) (n x : PageName) → uses (drop_unnamed q n) x ≡ uses q x
  dropped_uses q n x = by (uses q n == 0)
    where
      by : (b : Bool) → uses (cond b (record q { objects = map.remove q.objects n }) q) x ≡ uses q x
      by true = uses_objects q (map.remove q.objects n) x
      by false = refl

  -- so of many pages
  pub drop_all_objects : (q : PlainPages file_cmp) (ns : List PageName) (x : PageName) → map.get (drop_all_unnamed q ns).objects x ≡ cond (has x ns && (uses q x == 0)) None (map.get q.objects x)
  drop_all_objects q [] x = refl
  drop_all_objects q (n ∷ ns) x =
      drop_all_objects (drop_unnamed q n) ns x
      ∙ ap (λ k. cond (has x ns && (k == 0)) None (map.get (drop_unnamed q n).objects x)) (dropped_uses q n x)
      ∙ ap (cond (has x ns && (uses q x == 0)) None) (drop_objects q n x)
      ∙ both (same_page x n) (has x ns) (uses q x == 0)
    where
      both : (a b c : Bool) → cond (b && c) None (cond (a && c) None (map.get q.objects x)) ≡ cond ((a || b) && c) None (map.get q.objects x)
      both true true true = refl
      both true true false = refl
      both true false true = refl
      both true false false = refl
      both false true true = refl
      both false true false = refl
      both false false c = refl

module _ {K L : Type 0} {file_cmp : K → K → Ordering} (other_cmp : L → L → Ordering) (files : map.FinMap (file_page_cmp other_cmp) PageName) where
  -- and it does not depend on what files are known by
  drop_refiled : (q : PlainPages file_cmp) (n : PageName) → NameAlike other_cmp q files → drop_unnamed (refiled other_cmp q files) n ≡ refiled other_cmp (drop_unnamed q n) files
  drop_refiled q n alike = ap (λ k. cond (k == 0) (refiled other_cmp gone files) (refiled other_cmp q files)) (uses_refiled other_cmp q files alike n) ∙ moved (uses q n == 0)
    where
      gone : PlainPages file_cmp
      gone = record q { objects = map.remove q.objects n }

      moved : (b : Bool) → cond b (refiled other_cmp gone files) (refiled other_cmp q files) ≡ refiled other_cmp (cond b gone q) files
      moved true = refl
      moved false = refl

  pub drop_all_refiled : (q : PlainPages file_cmp) (ns : List PageName) → NameAlike other_cmp q files → drop_all_unnamed (refiled other_cmp q files) ns ≡ refiled other_cmp (drop_all_unnamed q ns) files
  drop_all_refiled q [] alike = refl
  drop_all_refiled q (n ∷ ns) alike = ap (λ (r : PlainPages other_cmp). drop_all_unnamed r ns) (drop_refiled q n alike) ∙ drop_all_refiled (drop_unnamed q n) ns (λ x. alike x ∙ ap (λ f. sum_by (tally x) (map.values f)) (sym (by (uses q n == 0))))
    where
      by : (b : Bool) → (cond b (record q { objects = map.remove q.objects n }) q).files ≡ q.files
      by true = refl
      by false = refl
