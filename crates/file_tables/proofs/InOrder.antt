-- The next file of all, by the names.
use Rattle.std.proofs.Common.{◌≡◌, ◌⊎◌, inl, inr, ℕ, true, false, List, [], ◌∷◌, Option, Some, None, refl, sym, ◌∙◌, ap, subst}
use Rattle.std.specs.Prelude.{IfSome, IsSome, is_some}
use Rattle.std.specs.List.{filter}
use Rattle.std.specs.Option.{option_map}
use Rattle.std.specs.FinMap as map
use Rattle.machine_names.specs.declared.names.FileNo.{FileNo}
use Rattle.machine_names.specs.Orders.{name_cmp}
use Rattle.plain_files.specs.Directory.{ComesBefore, Files, IsAbsent}
use Rattle.plain_files.specs.NamedFiles.{AreNumbers, by_name, name_of}
use Rattle.file_dir.specs.Listing.{ComesLater, IsFollowing}
use Rattle.file_dir.proofs.Texts.{before_both, before_is, is_before_true}
use Rattle.file_tables.specs.InOrder.{is_later}
use Rattle.file_tables.proofs.Behind.{first_and_rest, none_passes}
use Rattle.file_tables.proofs.Names.{by_name_at, by_name_none, cases_file, name_apart, name_total, named, one_value}

module _ {V : Type 0} (m : Files) (a : AreNumbers m) (kept : ℕ → V) (after : Option FileNo) (there : IfSome after (λ f. map.contains_key m f.0 ≡ true)) where
  abbrev given : Option (List ℕ)
  given = option_map (λ f. name_of m f.0) after

  abbrev es : List (List ℕ × V)
  es = map.entries (by_name m kept)

  -- a name that is later is that of a file that comes later, and the other way
  later_behind : (name : List ℕ) → is_later given name ≡ true → IfSome after (λ f. IfSome (map.get m f.0) (λ before. ComesBefore before name))
  later_behind name = by after there
    where
      by : (o : Option FileNo) → IfSome o (λ f. map.contains_key m f.0 ≡ true) → is_later (option_map (λ f. name_of m f.0) o) name ≡ true
          → IfSome o (λ f. IfSome (map.get m f.0) (λ before. ComesBefore before name))
      by None _ later = tt
      by (Some f) here later = subst (λ o. IfSome o (λ before. ComesBefore before name)) (sym (named m f.0 here)) (before_is (name_of m f.0) name later)

  behind_later : (name : List ℕ) → IfSome after (λ f. IfSome (map.get m f.0) (λ before. ComesBefore before name)) → is_later given name ≡ true
  behind_later name = by after there
    where
      by : (o : Option FileNo) → IfSome o (λ f. map.contains_key m f.0 ≡ true) → IfSome o (λ f. IfSome (map.get m f.0) (λ before. ComesBefore before name))
          → is_later (option_map (λ f. name_of m f.0) o) name ≡ true
      by None _ behind = refl
      by (Some f) here behind = is_before_true (name_of m f.0) name (subst (λ o. IfSome o (λ before. ComesBefore before name)) (named m f.0 here) behind)

  later_up : (o : Option (List ℕ)) (name other : List ℕ) → is_later o name ≡ true → ComesBefore name other → is_later o other ≡ true
  later_up None name other later before = refl
  later_up (Some x) name other later before = is_before_true x other (before_both x name other (before_is x name later) before)

  -- a name that is found is that of a file
  its_file : (name : List ℕ) → IsSome (map.find name_cmp name es) → (f : ℕ) × (map.get m f ≡ Some name)
  its_file name some = by (cases_file m a name)
    where
      by : ((f : ℕ) × (map.get m f ≡ Some name)) ⊎ IsAbsent m name → (f : ℕ) × (map.get m f ≡ Some name)
      by (inl file) = file
      by (inr absent) =
          let none : map.find name_cmp name es ≡ None = sym (map.get-entries (by_name m kept) name) ∙ by_name_none m a kept name absent in
          absurd (let never : false ≡ true = sym (ap is_some none) ∙ some in cc never)

  comes_later : (name : List ℕ) → IsSome (map.find name_cmp name es) → is_later given name ≡ true → (g : ℕ) × (c : ComesLater m after g) × (c.name ≡ name)
  comes_later name some later = let f = its_file name some in (f.0, record { name = name; stands = f.1; behind = later_behind name later }, refl)

  pub none_after : ((g : ℕ) → ComesLater m after g → ⊥) → filter (λ e. is_later given e.0) es ≡ []
  none_after none = none_passes name_total name_apart (is_later given) es (λ name some later. let c = comes_later name some later in none c.0 c.1)

  pub next_after : (f : ℕ) → IsFollowing m after f → filter (λ e. is_later given e.0) es ≡ (name_of m f, kept f) ∷ filter (λ e. is_later (Some (name_of m f)) e.0) es
  next_after f n =
      let here : name_of m f ≡ n.comes.name = one_value (map.get m f) (name_of m f) n.comes.name (named m f (ap is_some n.comes.stands)) n.comes.stands in
      first_and_rest name_total name_apart (is_later given) (name_of m f) (kept f)
      (ap (is_later given) here ∙ behind_later n.comes.name n.comes.behind)
      (λ q less. later_up given (name_of m f) q (ap (is_later given) here ∙ behind_later n.comes.name n.comes.behind) less)
      es (map.entries_sorted (by_name m kept))
      (sym (map.get-entries (by_name m kept) (name_of m f)) ∙ by_name_at m a kept f (name_of m f) (named m f (ap is_some n.comes.stands)))
      (λ q some later before. let c = comes_later q some later in
      n.first c.0 c.1 (subst (λ t. ComesBefore t n.comes.name) (sym c.2) (subst (ComesBefore q) here before)))
