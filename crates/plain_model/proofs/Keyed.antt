-- Pages of files under two kinds of keys, each the key of a file's name: the same pages are named as often, and they go together.
use Rattle.std.proofs.Common.{◌≡◌, ◌≢◌, ◌⊎◌, ℕ, zero, suc, ◌+◌, ◌-◌, Bool, true, false, cond, not, ◌&&◌, List, [], ◌∷◌, length, Option, None, Some, inl, inr, refl, sym, ◌∙◌, ap, subst, arith, Ordering}
use Rattle.std.specs.Prelude.{nat_lt, is_some, ◌==◌}
use Rattle.std.specs.List.{sum_by, count_by}
use Rattle.std.specs.Option.{option_map_or}
use Rattle.std.specs.Ordering.{eq_by_cmp, is_eq}
use Rattle.std.specs.Cmp.{IsTotalOrder, Equal-is}
use Rattle.std.specs.FinMap as map
use Rattle.std.proofs.lemmas.Cmp.{tied_itself}
use Rattle.std.proofs.lemmas.List.Sums.{sum_by-cons}
use Rattle.machine_names.specs.declared.names.PageName.{PageName}
use Rattle.machine_names.specs.Orders.{FilePage, file_page_cmp}
use Rattle.machine_names.proofs.OrderLemmas.{file_page_total, file_page_apart, page_cmp_total, page_cmp_apart}
use Rattle.plain_pages.specs.PlainPages.{PlainPages, refiled}
use Rattle.plain_pages.specs.Room.{same_page, uses}
use Rattle.plain_pages.specs.References.{drop_all_unnamed}
use Rattle.plain_pages.specs.FilePages.{other_files, names_of_file, without_file}
use Rattle.plain_pages.proofs.Counts.{has, has_count, total_insert, values_split}
use Rattle.plain_pages.proofs.Whole.{tally, no_values}
use Rattle.plain_pages.proofs.FilesKept.{without_files}
use Rattle.plain_pages.proofs.Kept.{drop_all_leaves}
use Rattle.plain_pages.proofs.Refiled.{NameAlike}
use Rattle.plain_model.proofs.Dropped.{drop_all_objects, drop_all_refiled}

tied : {K : Type 0} {R : K → K → Ordering} → IsTotalOrder R → (k : K) → eq_by_cmp R k k ≡ true
tied o k = ap is_eq (tied_itself o k)

module _ {K X : Type 0} {R : K → K → Ordering} (o : IsTotalOrder R) (apart : map.IsAntisymmetric R) where
  -- a sum over the values of a map, without one of them
  pub total_without : (w : X → ℕ) (m : map.FinMap R X) (k : K) (v : X) → map.get m k ≡ Some v → sum_by w (map.values (map.remove m k)) + w v ≡ sum_by w (map.values m)
  total_without w m k v there =
      let none : option_map_or w (map.get (map.remove m k) k) 0 ≡ 0 = ap (λ (x : Option X). option_map_or w x 0) (map.get-remove o m k k ∙ ap (λ b. cond b None (map.get m k)) (tied o k)) in
      let back : sum_by w (map.values (map.insert (map.remove m k) k v)) ≡ sum_by w (map.values m) = ap (λ (n : map.FinMap R X). sum_by w (map.values n)) (map.same_map o apart (map.insert (map.remove m k) k v) m each) in
      omega (arith, total_insert o w (map.remove m k) k v, none, back)
    where
      each : (q : K) → map.get (map.insert (map.remove m k) k v) q ≡ map.get m q
      each q = map.get-insert o (map.remove m k) k v q ∙ by (eq_by_cmp R q k) refl
        where
          by : (b : Bool) → eq_by_cmp R q k ≡ b → cond b (Some v) (map.get (map.remove m k) q) ≡ map.get m q
          by true is = sym (ap (map.get m) (apart q k ((Equal-is (R q k)).0 is)) ∙ there)
          by false is = map.get-remove o m k q ∙ ap (λ b. cond b None (map.get m q)) is

  -- a map that is not empty has a key
  a_key : (m : map.FinMap R X) (n : ℕ) → map.len m ≡ suc n → (k : K) × (v : X) × (map.get m k ≡ Some v)
  a_key m n size = by (map.entries m) refl
    where
      by : (es : List (K × X)) → map.entries m ≡ es → (k : K) × (v : X) × (map.get m k ≡ Some v)
      by [] is = absurd (let no : length (map.entries m) ≡ 0 = ap length is in omega (arith, map.len-entries m, size, no))
      by (e ∷ es) is = (e.0, e.1, map.get-entries m e.0 ∙ ap (map.find R e.0) is ∙ ap (λ b. cond b (Some e.1) (map.find R e.0 es)) (tied o e.0))

  removed_there : (m : map.FinMap R X) (k q : K) → map.contains_key (map.remove m k) q ≡ true → map.contains_key m q ≡ true
  removed_there m k q h = by (eq_by_cmp R q k) (sym (ap is_some (map.get-remove o m k q)) ∙ h)
    where
      by : (b : Bool) → is_some (cond b None (map.get m q)) ≡ true → map.contains_key m q ≡ true
      by true g = absurd (cc g)
      by false g = g

-- two kinds of keys of the same things are tied together
module _ {I K L : Type 0} {R : K → K → Ordering} {S : L → L → Ordering} (o : IsTotalOrder R) (apart : map.IsAntisymmetric R) (other_o : IsTotalOrder S) (other_apart : map.IsAntisymmetric S) (There : I → Type 0) (at : I → K) (to : I → L)
    (once : (i j : I) → There i → There j → at i ≡ at j → i ≡ j) (other_once : (i j : I) → There i → There j → to i ≡ to j → i ≡ j) where
  tied_alike : (i j : I) → There i → There j → eq_by_cmp S (to j) (to i) ≡ eq_by_cmp R (at j) (at i)
  tied_alike i j x y = by (eq_by_cmp S (to j) (to i)) (eq_by_cmp R (at j) (at i)) refl refl
    where
      by : (a b : Bool) → eq_by_cmp S (to j) (to i) ≡ a → eq_by_cmp R (at j) (at i) ≡ b → a ≡ b
      by true true p q = refl
      by false false p q = refl
      by true false p q =
          let is : j ≡ i = other_once j i y x (other_apart (to j) (to i) ((Equal-is (S (to j) (to i))).0 p)) in
          absurd (let no : true ≡ false = sym (tied o (at i)) ∙ ap (λ (k : I). eq_by_cmp R (at k) (at i)) (sym is) ∙ q in cc no)
      by false true p q =
          let is : j ≡ i = once j i y x (apart (at j) (at i) ((Equal-is (R (at j) (at i))).0 q)) in
          absurd (let no : true ≡ false = sym (tied other_o (to i)) ∙ ap (λ (k : I). eq_by_cmp S (to k) (to i)) (sym is) ∙ p in cc no)

-- two maps have the same values, under keys of the same things
module _ {I K L X : Type 0} {R : K → K → Ordering} {S : L → L → Ordering} (o : IsTotalOrder R) (apart : map.IsAntisymmetric R) (other_o : IsTotalOrder S) (other_apart : map.IsAntisymmetric S) (There : I → Type 0) (at : I → K) (to : I → L) where
  record Match (m : map.FinMap R X) (n : map.FinMap S X) : Type 0 where
    same : (i : I) → There i → map.get n (to i) ≡ map.get m (at i)
    has : (k : K) → map.contains_key m k ≡ true → (i : I) × There i × (at i ≡ k)
    other_has : (l : L) → map.contains_key n l ≡ true → (i : I) × There i × (to i ≡ l)

  module _ (once : (i j : I) → There i → There j → at i ≡ at j → i ≡ j) (other_once : (i j : I) → There i → There j → to i ≡ to j → i ≡ j) where
    still_match : (m : map.FinMap R X) (n : map.FinMap S X) → Match m n → (i : I) → There i → Match (map.remove m (at i)) (map.remove n (to i))
    still_match m n h i x = record {
      same = λ j y. map.get-remove other_o n (to i) (to j) ∙ ap (λ b. cond b None (map.get n (to j))) (tied_alike o apart other_o other_apart There at to once other_once i j x y) ∙ ap (cond (eq_by_cmp R (at j) (at i)) None) (h.same j y) ∙ sym (map.get-remove o m (at i) (at j));
      has = λ k g. h.has k (removed_there o apart m (at i) k g);
      other_has = λ l g. h.other_has l (removed_there other_o other_apart n (to i) l g);
    }

    -- so a sum over them is the same
    totals_match : (w : X → ℕ) (k : ℕ) (m : map.FinMap R X) (n : map.FinMap S X) → map.len m ≡ k → Match m n → sum_by w (map.values n) ≡ sum_by w (map.values m)
    totals_match w zero m n size h =
        ap (λ (x : map.FinMap S X). sum_by w (map.values x)) (map.same_map other_o other_apart n map.empty (λ l. nothing l (map.get n l) refl ∙ sym (map.get-empty S l)))
        ∙ no_values S w ∙ sym (no_values R w) ∙ sym (ap (λ (x : map.FinMap R X). sum_by w (map.values x)) (map.empty_of_len m size))
      where
        nothing : (l : L) (x : Option X) → map.get n l ≡ x → map.get n l ≡ None
        nothing l None is = is
        nothing l (Some v) is =
            let i = h.other_has l (ap is_some is) in
            let none : map.get m (at i.0) ≡ None = ap (λ (x : map.FinMap R X). map.get x (at i.0)) (map.empty_of_len m size) ∙ map.get-empty R (at i.0) in
            sym (ap (map.get n) i.2) ∙ h.same i.0 i.1 ∙ none
    totals_match w (suc k) m n size h =
        let x = a_key o apart m k size in
        let i = h.has x.0 (ap is_some x.2) in
        let one : map.get m (at i.0) ≡ Some x.1 = ap (map.get m) i.2 ∙ x.2 in
        let less : map.len (map.remove m (at i.0)) ≡ k = map.len-remove o m (at i.0) ∙ ap (λ b. cond b (map.len m - 1) (map.len m)) (ap is_some one) ∙ omega (arith, size) in
        let rest = totals_match w k (map.remove m (at i.0)) (map.remove n (to i.0)) less (still_match m n h i.0 i.1) in
        omega (arith, total_without o apart w m (at i.0) x.1 one, total_without other_o other_apart w n (to i.0) x.1 (h.same i.0 i.1 ∙ one), rest)

-- a list is as long as it has elements
length_total : {X : Type 0} (xs : List X) → length xs ≡ sum_by (λ x. 1) xs
length_total [] = refl
length_total (x ∷ xs) = omega (arith, length_total xs, sum_by-cons (λ y. 1) x xs)

-- what is dropped is told by which pages are listed
drop_all_same : {K : Type 0} {file_cmp : K → K → Ordering} (p : PlainPages file_cmp) (ns ms : List PageName) → ((n : PageName) → has n ns ≡ has n ms) → drop_all_unnamed p ns ≡ drop_all_unnamed p ms
drop_all_same p ns ms same =
    drop_all_leaves p ns
    ∙ ap (λ (x : map.FinMap _ (List ℕ)). record p { objects = x }) (map.same_map page_cmp_total page_cmp_apart (drop_all_unnamed p ns).objects (drop_all_unnamed p ms).objects each)
    ∙ sym (drop_all_leaves p ms)
  where
    each : (n : PageName) → map.get (drop_all_unnamed p ns).objects n ≡ map.get (drop_all_unnamed p ms).objects n
    each n = drop_all_objects p ns n ∙ ap (λ b. cond (b && (uses p n == 0)) None (map.get p.objects n)) (same n) ∙ sym (drop_all_objects p ms n)

-- the pages that files name without those of one
module _ {K : Type 0} {file_cmp : K → K → Ordering} (o : IsTotalOrder file_cmp) (apart : map.IsAntisymmetric file_cmp) (p : PlainPages file_cmp) (file : K) where
  other_page : (f : FilePage K) → map.get (other_files p file) f ≡ cond (not (eq_by_cmp file_cmp f.file file)) (map.get p.files f) None
  other_page f = map.get-retain_keys p.files (λ g. not (eq_by_cmp file_cmp g.file file)) f (λ x is. ap (λ (y : FilePage K). not (eq_by_cmp file_cmp y.file file)) (sym (file_page_apart apart f x is)))

  pub left_page : (f : FilePage K) → map.get (without_file p file).files f ≡ cond (not (eq_by_cmp file_cmp f.file file)) (map.get p.files f) None
  left_page f = ap (λ (m : map.FinMap (file_page_cmp file_cmp) PageName). map.get m f) (without_files o apart p file) ∙ other_page f

-- the names that are there but for one
abbrev pub Others : {N : Type 0} → (N → Type 0) → N → N → Type 0
Others There gone a = There a × (a ≢ gone)

-- a page of a file, by the file's key
abbrev pub page_under : {K : Type 0} → K → ℕ → FilePage K
page_under k page = record { file = k; page = page }

abbrev pub Files : {K : Type 0} → (K → K → Ordering) → Type 0
Files file_cmp = map.FinMap (file_page_cmp file_cmp) PageName

module _ {N K L : Type 0} (file_cmp : K → K → Ordering) (other_cmp : L → L → Ordering) where
  -- The files of the names that are there have keys of two kinds, each its own; under both they name the same pages, and no page
  -- is under another key.
  pub record AreKeyed (There : N → Type 0) (key : N → K) (other_key : N → L) (m : Files file_cmp) (n : Files other_cmp) : Type 0 where
    pub apart : (a b : N) → There a → There b → key a ≡ key b → a ≡ b
    pub other_apart : (a b : N) → There a → There b → other_key a ≡ other_key b → a ≡ b
    pub same : (a : N) → There a → (page : ℕ) → map.get n (page_under (other_key a) page) ≡ map.get m (page_under (key a) page)
    pub filed : (f : FilePage K) → map.contains_key m f ≡ true → (a : N) × There a × (key a ≡ f.file)
    pub other_filed : (f : FilePage L) → map.contains_key n f ≡ true → (a : N) × There a × (other_key a ≡ f.file)

  -- the same, of names that are there as well
  pub keyed_by : (There Also : N → Type 0) (key : N → K) (other_key : N → L) (m : Files file_cmp) (n : Files other_cmp) → ((a : N) → There a → Also a) → ((a : N) → Also a → There a) → AreKeyed There key other_key m n → AreKeyed Also key other_key m n
  keyed_by There Also key other_key m n to from h = record {
    apart = λ a b x y. h.apart a b (from a x) (from b y);
    other_apart = λ a b x y. h.other_apart a b (from a x) (from b y);
    same = λ a x. h.same a (from a x);
    filed = λ f g. (let a = h.filed f g in (a.0, to a.0 a.1, a.2));
    other_filed = λ f g. (let a = h.other_filed f g in (a.0, to a.0 a.1, a.2));
  }

  -- no page is under a key that is none of theirs
  pub unfiled : (There : N → Type 0) (key : N → K) (other_key : N → L) (m : Files file_cmp) (n : Files other_cmp) → AreKeyed There key other_key m n → (k : K) → ((a : N) → There a → key a ≢ k) → (page : ℕ) → map.get m (page_under k page) ≡ None
  unfiled There key other_key m n h k none page = by (map.get m (page_under k page)) refl
    where
      by : (x : Option PageName) → map.get m (page_under k page) ≡ x → map.get m (page_under k page) ≡ None
      by None is = is
      by (Some v) is = let a = h.filed (page_under k page) (ap is_some is) in absurd (none a.0 a.1 a.2)

  pub other_unfiled : (There : N → Type 0) (key : N → K) (other_key : N → L) (m : Files file_cmp) (n : Files other_cmp) → AreKeyed There key other_key m n → (l : L) → ((a : N) → There a → other_key a ≢ l) → (page : ℕ) → map.get n (page_under l page) ≡ None
  other_unfiled There key other_key m n h l none page = by (map.get n (page_under l page)) refl
    where
      by : (x : Option PageName) → map.get n (page_under l page) ≡ x → map.get n (page_under l page) ≡ None
      by None is = is
      by (Some v) is = let a = h.other_filed (page_under l page) (ap is_some is) in absurd (none a.0 a.1 a.2)

  -- names that come to be there have keys of their own, under which no page is; the others keep theirs
  module _ (There Now : N → Type 0) (key now_key : N → K) (other_key now_other : N → L) (m : Files file_cmp) (n : Files other_cmp) (h : AreKeyed There key other_key m n) where
    pub keyed_on : ((a b : N) → Now a → Now b → now_key a ≡ now_key b → a ≡ b) → ((a b : N) → Now a → Now b → now_other a ≡ now_other b → a ≡ b)
        → ((a : N) → There a → Now a × (now_key a ≡ key a) × (now_other a ≡ other_key a))
        → ((a : N) → Now a → There a ⊎ (((page : ℕ) → map.get m (page_under (now_key a) page) ≡ None) × ((page : ℕ) → map.get n (page_under (now_other a) page) ≡ None)))
        → AreKeyed Now now_key now_other m n
    keyed_on apart other_apart stay fresh = record {
      apart = apart;
      other_apart = other_apart;
      same = λ a x page. by a page (fresh a x);
      filed = λ f g. (let a = h.filed f g in (a.0, (stay a.0 a.1).0, (stay a.0 a.1).1 ∙ a.2));
      other_filed = λ f g. (let a = h.other_filed f g in (a.0, (stay a.0 a.1).0, (stay a.0 a.1).2 ∙ a.2));
    }
      where
        by : (a : N) (page : ℕ) → There a ⊎ (((page : ℕ) → map.get m (page_under (now_key a) page) ≡ None) × ((page : ℕ) → map.get n (page_under (now_other a) page) ≡ None))
            → map.get n (page_under (now_other a) page) ≡ map.get m (page_under (now_key a) page)
        by a page (inl x) = ap (λ k. map.get n (page_under k page)) (stay a x).2 ∙ h.same a x page ∙ sym (ap (λ k. map.get m (page_under k page)) (stay a x).1)
        by a page (inr none) = none.1 page ∙ sym (none.0 page)

module _ {N K L : Type 0} {file_cmp : K → K → Ordering} {other_cmp : L → L → Ordering} (o : IsTotalOrder file_cmp) (apart : map.IsAntisymmetric file_cmp) (other_o : IsTotalOrder other_cmp) (other_apart : map.IsAntisymmetric other_cmp) (There : N → Type 0) (key : N → K) (other_key : N → L) where
  -- there is one map of files under other keys
  pub keyed_once : (m : Files file_cmp) (n k : Files other_cmp) → AreKeyed file_cmp other_cmp There key other_key m n → AreKeyed file_cmp other_cmp There key other_key m k → n ≡ k
  keyed_once m n k h g = map.same_map (file_page_total other_o) (file_page_apart other_apart) n k (λ f. by f (map.get n f) (map.get k f) refl refl)
    where
      at : (f : FilePage L) → (a : N) × There a × (other_key a ≡ f.file) → map.get n f ≡ map.get k f
      at f a = subst (λ l. map.get n (page_under l f.page) ≡ map.get k (page_under l f.page)) a.2 (h.same a.0 a.1 f.page ∙ sym (g.same a.0 a.1 f.page))

      by : (f : FilePage L) (x y : Option PageName) → map.get n f ≡ x → map.get k f ≡ y → map.get n f ≡ map.get k f
      by f None None p q = p ∙ sym q
      by f (Some v) y p q = at f (h.other_filed f (ap is_some p))
      by f None (Some v) p q = at f (g.other_filed f (ap is_some q))

  module _ (m : Files file_cmp) (n : Files other_cmp) (h : AreKeyed file_cmp other_cmp There key other_key m n) where
    abbrev IsThere : FilePage N → Type 0
    IsThere f = There f.file

    abbrev at_key : FilePage N → FilePage K
    at_key f = page_under (key f.file) f.page

    abbrev at_other : FilePage N → FilePage L
    at_other f = page_under (other_key f.file) f.page

    matched : Match (file_page_total o) (file_page_apart apart) (file_page_total other_o) (file_page_apart other_apart) IsThere at_key at_other m n
    matched = record {
      same = λ f x. h.same f.file x f.page;
      has = λ f g. (let a = h.filed f g in (page_under a.0 f.page, a.1, λ i. page_under (a.2 i) f.page));
      other_has = λ f g. (let a = h.other_filed f g in (page_under a.0 f.page, a.1, λ i. page_under (a.2 i) f.page));
    }

    -- the same pages are named as often
    pub totals_keyed : (w : PageName → ℕ) → sum_by w (map.values n) ≡ sum_by w (map.values m)
    totals_keyed w = totals_match (file_page_total o) (file_page_apart apart) (file_page_total other_o) (file_page_apart other_apart) IsThere at_key at_other
        (λ f g x y is. (let a = h.apart f.file g.file x y (ap (λ (k : FilePage K). k.file) is) in λ i. page_under (a i) (is i).page))
        (λ f g x y is. (let a = h.other_apart f.file g.file x y (ap (λ (k : FilePage L). k.file) is) in λ i. page_under (a i) (is i).page))
        w (map.len m) m n refl matched

  -- without the file of a name that is there, the others are under both kinds of keys still
  module _ (p : PlainPages file_cmp) (files : Files other_cmp) (h : AreKeyed file_cmp other_cmp There key other_key p.files files) (gone : N) (there : There gone) where
    abbrev rest : Files file_cmp
    rest = other_files p (key gone)

    abbrev other_rest : Files other_cmp
    other_rest = other_files (refiled other_cmp p files) (other_key gone)

    -- a page that is kept was there, and isn't of the file that goes
    was : {X : Type 0} (b : Bool) (x : Option X) → is_some (cond (not b) x None) ≡ true → (is_some x ≡ true) × (b ≡ false)
    was true x g = absurd (cc g)
    was false x g = (g, refl)

    pub without_keyed : AreKeyed file_cmp other_cmp (Others There gone) key other_key rest other_rest
    without_keyed = record {
      apart = λ a b x y. h.apart a b x.0 y.0;
      other_apart = λ a b x y. h.other_apart a b x.0 y.0;
      same = λ a x page.
          other_page other_o other_apart (refiled other_cmp p files) (other_key gone) (page_under (other_key a) page)
          ∙ ap (λ b. cond (not b) (map.get files (page_under (other_key a) page)) None) (tied_alike o apart other_o other_apart There key other_key h.apart h.other_apart gone a there x.0)
          ∙ ap (λ v. cond (not (eq_by_cmp file_cmp (key a) (key gone))) v None) (h.same a x.0 page)
          ∙ sym (other_page o apart p (key gone) (page_under (key a) page));
      filed = λ f g.
          let k = was (eq_by_cmp file_cmp f.file (key gone)) (map.get p.files f) (sym (ap is_some (other_page o apart p (key gone) f)) ∙ g) in
          let a = h.filed f k.0 in
          (a.0, (a.1, λ is. (let no : true ≡ false = sym (tied o (key gone)) ∙ ap (λ b. eq_by_cmp file_cmp (key b) (key gone)) (sym is) ∙ ap (λ c. eq_by_cmp file_cmp c (key gone)) a.2 ∙ k.1 in cc no)), a.2);
      other_filed = λ f g.
          let k = was (eq_by_cmp other_cmp f.file (other_key gone)) (map.get files f) (sym (ap is_some (other_page other_o other_apart (refiled other_cmp p files) (other_key gone) f)) ∙ g) in
          let a = h.other_filed f k.0 in
          (a.0, (a.1, λ is. (let no : true ≡ false = sym (tied other_o (other_key gone)) ∙ ap (λ b. eq_by_cmp other_cmp (other_key b) (other_key gone)) (sym is) ∙ ap (λ c. eq_by_cmp other_cmp c (other_key gone)) a.2 ∙ k.1 in cc no)), a.2);
    }

-- a file that goes leaves the same, whatever files are known by
module _ {N K L : Type 0} {file_cmp : K → K → Ordering} {other_cmp : L → L → Ordering} (o : IsTotalOrder file_cmp) (apart : map.IsAntisymmetric file_cmp) (other_o : IsTotalOrder other_cmp) (other_apart : map.IsAntisymmetric other_cmp) (There : N → Type 0) (key : N → K) (other_key : N → L)
    (p : PlainPages file_cmp) (files : Files other_cmp) (h : AreKeyed file_cmp other_cmp There key other_key p.files files) (gone : N) (there : There gone) where
  abbrev set : PlainPages file_cmp
  set = record p { files = other_files p (key gone) }

  abbrev rest_files : Files other_cmp
  rest_files = other_files (refiled other_cmp p files) (other_key gone)

  rest_alike : NameAlike other_cmp set rest_files
  rest_alike n =
      let others = without_keyed o apart other_o other_apart There key other_key p files h gone there in
      totals_keyed o apart other_o other_apart (Others There gone) key other_key set.files rest_files others (tally n)

  listed : (n : PageName) → has n (names_of_file (refiled other_cmp p files) (other_key gone)) ≡ has n (names_of_file p (key gone))
  listed n =
      let mine = values_split (file_page_cmp file_cmp) (tally n) (file_page_total o) (file_page_apart apart) p.files (λ f. eq_by_cmp file_cmp f.file (key gone)) in
      let others = values_split (file_page_cmp other_cmp) (tally n) (file_page_total other_o) (file_page_apart other_apart) files (λ f. eq_by_cmp other_cmp f.file (other_key gone)) in
      let same : count_by (same_page n) (names_of_file (refiled other_cmp p files) (other_key gone)) ≡ count_by (same_page n) (names_of_file p (key gone)) =
      omega (arith, mine, others, totals_keyed o apart other_o other_apart There key other_key p.files files h (tally n), rest_alike n) in
      has_count n (names_of_file (refiled other_cmp p files) (other_key gone)) ∙ ap (nat_lt 0) same ∙ sym (has_count n (names_of_file p (key gone)))

  -- a file has as many pages
  pub counted_alike : length (names_of_file (refiled other_cmp p files) (other_key gone)) ≡ length (names_of_file p (key gone))
  counted_alike =
      let one : PageName → ℕ = λ n. 1 in
      let mine = values_split (file_page_cmp file_cmp) one (file_page_total o) (file_page_apart apart) p.files (λ f. eq_by_cmp file_cmp f.file (key gone)) in
      let others = values_split (file_page_cmp other_cmp) one (file_page_total other_o) (file_page_apart other_apart) files (λ f. eq_by_cmp other_cmp f.file (other_key gone)) in
      let rest = totals_keyed o apart other_o other_apart (Others There gone) key other_key set.files rest_files (without_keyed o apart other_o other_apart There key other_key p files h gone there) one in
      omega (
        arith,
        mine,
        others,
        rest,
        totals_keyed o apart other_o other_apart There key other_key p.files files h one,
        length_total (names_of_file (refiled other_cmp p files) (other_key gone)),
        length_total (names_of_file p (key gone)),
      )

  pub without_refiled : without_file (refiled other_cmp p files) (other_key gone) ≡ refiled other_cmp (without_file p (key gone)) rest_files
  unfolding without_file
  without_refiled =
      drop_all_same (refiled other_cmp set rest_files) (names_of_file (refiled other_cmp p files) (other_key gone)) (names_of_file p (key gone)) listed
      ∙ drop_all_refiled other_cmp rest_files set (names_of_file p (key gone)) rest_alike
