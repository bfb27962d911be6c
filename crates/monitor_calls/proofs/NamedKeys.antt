-- Pages of files under the numbers of the files and under their names, before a call and behind it.
use Rattle.std.proofs.Common.{◌≡◌, ◌⊎◌, ℕ, true, false, List, [], Option, None, Some, inl, inr, refl, sym, ◌∙◌, ap}
use Rattle.std.specs.Prelude.{is_some}
use Rattle.std.specs.Option.{unwrap_or}
use Rattle.std.specs.Cmp.{nat_cmp_total}
use Rattle.std.specs.Ordering.{nat_cmp}
use Rattle.std.specs.FinMap as map
use Rattle.machine_names.specs.declared.names.PageName.{PageName}
use Rattle.machine_names.specs.Orders.{FilePage, file_page_cmp, name_cmp}
use Rattle.plain_model.proofs.Keyed.{AreKeyed, keyed_on, keyed_once, unfiled, other_unfiled}
use Rattle.plain_files.specs.Directory.{Files, IsAbsent}
use Rattle.plain_files.specs.NamedFiles.{AreFiled, AreNumbers, by_name, name_of, number_of, page_named, pages_named}
use Rattle.file_tables.proofs.Names.{by_name_at, by_name_none, cases_file, name_apart, name_total, named, one_value, not_both}
use Rattle.file_tables.proofs.Pages.{page_at, page_none}
use Rattle.monitor_calls.specs.ForkUnit.{NumbersStay}

-- pages of files by number and by name
abbrev Numbered : Type 0
Numbered = map.FinMap (file_page_cmp nat_cmp) PageName

abbrev Named : Type 0
Named = map.FinMap (file_page_cmp name_cmp) PageName

-- the number of the file of a name
abbrev pub number_in : Files → List ℕ → ℕ
number_in m name = unwrap_or (number_of m name) 0

-- the pages of the files of these names have these keys
abbrev pub AreUnder : (List ℕ → Type 0) → Files → Numbered → Named → Type 0
AreUnder There m pages filed = AreKeyed nat_cmp name_cmp There (number_in m) (λ name. name) pages filed

module _ (m : Files) (a : AreNumbers m) {V : Type 0} (kept : ℕ → V) where
  -- a file of a name is there
  abbrev pub There : List ℕ → Type 0
  There name = map.contains_key (by_name m kept) name ≡ true

  pub name_there : (f : ℕ) (name : List ℕ) → map.get m f ≡ Some name → There name × (number_in m name ≡ f)
  name_there f name is = (ap is_some (by_name_at m a kept f name is), ap (λ o. unwrap_or o 0) (by_name_at m a (λ k. k) f name is))

  pub number_there : (name : List ℕ) → There name → map.get m (number_in m name) ≡ Some name
  number_there name there = by (cases_file m a name)
    where
      by : ((f : ℕ) × (map.get m f ≡ Some name)) ⊎ IsAbsent m name → map.get m (number_in m name) ≡ Some name
      by (inl (f, is)) = ap (map.get m) (name_there f name is).1 ∙ is
      by (inr absent) = absurd (let no : false ≡ true = sym (ap is_some (by_name_none m a kept name absent)) ∙ there in cc no)

  -- each page is under the number and the name of its file
  pub keyed_named : (pages : Numbered) → AreFiled m pages → AreUnder There m pages (pages_named m pages)
  keyed_named pages filed = record {
    apart = λ x y x_there y_there e. one_value (map.get m (number_in m x)) x y (number_there x x_there) (ap (map.get m) e ∙ number_there y y_there);
    other_apart = λ x y x_there y_there e. e;
    same = λ x there page.
        let p : FilePage ℕ = record { file = number_in m x; page = page } in
        let named_so : page_named m p ≡ record { file = x; page = page } = ap (λ (o : Option (List ℕ)). record { file = unwrap_or o []; page = page }) (number_there x there) in
        ap (map.get (pages_named m pages)) (sym named_so) ∙ page_at m a pages filed p (ap is_some (number_there x there));
    filed = λ f held. (let t = name_there f.file (name_of m f.file) (named m f.file (filed f held)) in (name_of m f.file, t.0, t.1));
    other_filed = λ f held. by f held (cases_file m a f.file);
  }
    where
      by : (f : FilePage (List ℕ)) → map.contains_key (pages_named m pages) f ≡ true → ((n : ℕ) × (map.get m n ≡ Some f.file)) ⊎ IsAbsent m f.file → (x : List ℕ) × There x × (x ≡ f.file)
      by f held (inl (n, is)) = (f.file, (name_there n f.file is).0, refl)
      by f held (inr absent) = absurd (let no : false ≡ true = sym (ap is_some (page_none m a pages filed f absent)) ∙ held in cc no)

-- files of which some were made or removed, with pages under the numbers and names that were there and are
module _ (m n : Files) (a : AreNumbers m) (b : AreNumbers n) {V W : Type 0} (kept : ℕ → V) (now : ℕ → W) (stay : NumbersStay m n) (pages : Numbered) (filed : Named)
    (k : AreUnder (λ name. There m a kept name × There n b now name) m pages filed) where
  abbrev Still : List ℕ → Type 0
  Still name = There m a kept name × There n b now name

  -- a name that is there still has its number
  same_number : (name : List ℕ) → Still name → number_in n name ≡ number_in m name
  same_number name still = by (stay (number_in n name) name (number_there n b now name still.1))
    where
      by : (map.get m (number_in n name) ≡ Some name) ⊎ ((map.get m (number_in n name) ≡ None) × IsAbsent m name) → number_in n name ≡ number_in m name
      by (inl is) = sym (name_there m a kept (number_in n name) name is).1
      by (inr new) = absurd (new.1 (number_in m name) (number_there m a kept name still.0))

  fresh : (name : List ℕ) → There n b now name → Still name ⊎ (((page : ℕ) → map.get pages (record { file = number_in n name; page = page }) ≡ None) × ((page : ℕ) → map.get filed (record { file = name; page = page }) ≡ None))
  fresh name there = by (stay (number_in n name) name (number_there n b now name there))
    where
      by : (map.get m (number_in n name) ≡ Some name) ⊎ ((map.get m (number_in n name) ≡ None) × IsAbsent m name)
          → Still name ⊎ (((page : ℕ) → map.get pages (record { file = number_in n name; page = page }) ≡ None) × ((page : ℕ) → map.get filed (record { file = name; page = page }) ≡ None))
      by (inl is) = inl ((name_there m a kept (number_in n name) name is).0, there)
      by (inr new) = inr (
        unfiled nat_cmp name_cmp Still (number_in m) (λ x. x) pages filed k (number_in n name) (λ x still e. not_both (map.get m (number_in m x)) x (ap (map.get m) e ∙ new.0) (number_there m a kept x still.0)),
        other_unfiled nat_cmp name_cmp Still (number_in m) (λ x. x) pages filed k name (λ x still e. new.1 (number_in m x) (number_there m a kept x still.0 ∙ ap (λ y. Some y) e)),
      )

  pub keyed_now : AreUnder (There n b now) n pages filed
  keyed_now = keyed_on nat_cmp name_cmp Still (There n b now) (number_in m) (number_in n) (λ x. x) (λ x. x) pages filed k
      (λ x y x_there y_there e. one_value (map.get n (number_in n x)) x y (number_there n b now x x_there) (ap (map.get n) e ∙ number_there n b now y y_there))
      (λ x y x_there y_there e. e)
      (λ x still. (still.1, same_number x still, refl))
      fresh

  -- only files that are there have pages
  pub filed_now : AreFiled n pages
  filed_now f held = (let x = keyed_now.filed f held in ap is_some (ap (map.get n) (sym x.2) ∙ number_there n b now x.0 x.1))

  -- and the pages of files by name are those by number
  pub named_now : filed ≡ pages_named n pages
  named_now = keyed_once nat_cmp_total map.nat_cmp-IsAntisymmetric name_total name_apart (There n b now) (number_in n) (λ x. x) pages filed (pages_named n pages) keyed_now (keyed_named n b now pages filed_now)
