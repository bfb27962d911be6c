-- The next of all files stands at the first place behind that of the file given.
use Rattle.std.proofs.Common.{◌≡◌, ◌≢◌, ◌⊎◌, inl, inr, ℕ, ◌<◌, ◌≤◌, List, length, Option, Some, None, sym, ◌∙◌, ap, subst, arith}
use Rattle.std.specs.Prelude.{IfSome}
use Rattle.std.proofs.lemmas.Bool.{cases_eq, cases_lt}
use Rattle.std.specs.FinMap as map
use Rattle.machine_names.specs.declared.names.FileNo.{FileNo}
use Rattle.plain_files.specs.Directory.{ComesBefore, Files}
use Rattle.file_dir.specs.Listing.{ComesLater, IsFollowing}
use Rattle.file_dir.specs.Order.{IsBehind, IsOrder, file_at}
use Rattle.file_dir.proofs.Texts.{before_itself, before_back}
use Rattle.file_dir.proofs.Places.{named_at, one_value, there}

module _ (m : Files) (order : List FileNo) (o : IsOrder m order) (after : Option FileNo) (place : ℕ) (b : IsBehind order after place) where
  -- each file that comes later stands at this place or behind it
  reach : (g : ℕ) → ComesLater m after g → (i : ℕ) × (place ≤ i) × (i < length order) × (file_at order i ≡ g)
  reach g c =
      let at = o.whole g (there (map.get m g) c.name c.stands) in
      (at.0, past after b c.behind at.0 at.1 (ap (λ k. map.get m k) at.2 ∙ c.stands), at.1, at.2)
    where
      past : (a : Option FileNo) → IsBehind order a place → IfSome a (λ f. IfSome (map.get m f.0) (λ before. ComesBefore before c.name)) → (i : ℕ)
          → i < length order → map.get m (file_at order i) ≡ Some c.name → place ≤ i
      past None zero_is _ i less is = omega arith
      past (Some f) at before i less is =
          let a = named_at m order o at.0 at.1 in
          let name_before : ComesBefore a.0 c.name = subst (λ p. IfSome p (λ t. ComesBefore t c.name)) (ap (λ k. map.get m k) (sym at.2) ∙ a.1) before in
          by a.0 a.1 name_before (cases_lt at.0 i) (cases_eq at.0 i)
        where
          by : (x : List ℕ) → map.get m (file_at order at.0) ≡ Some x → ComesBefore x c.name → (at.0 < i) ⊎ (i ≤ at.0) → (at.0 ≡ i) ⊎ (at.0 ≢ i) → place ≤ i
          by x x_is before (inl lt) _ = omega (arith, at.3)
          by x x_is before (inr ge) (inl e) = absurd (before_itself c.name
              (subst (λ t. ComesBefore t c.name) (one_value (map.get m (file_at order i)) x c.name (ap (λ k. map.get m (file_at order k)) (sym e) ∙ x_is) is) before))
          by x x_is before (inr ge) (inr ne) = absurd (before_back x c.name before (o.rises i at.0 c.name x (omega arith) at.1 is x_is))

  pub none_later : length order ≤ place → (g : ℕ) → ComesLater m after g → ⊥
  none_later far g c = let i = reach g c in absurd (omega (arith, i.1, i.2))

  module _ (inside : place < length order) (f : ℕ) (here : file_at order place ≡ f) where
    -- what stands there, or comes before what stands further on
    no_sooner : (name : List ℕ) → map.get m (file_at order place) ≡ Some name → (g : ℕ) (c : ComesLater m after g) → (name ≡ c.name) ⊎ ComesBefore name c.name
    no_sooner name is g c = let i = reach g c in by i.0 i.1 i.2 (ap (λ k. map.get m k) i.3 ∙ c.stands) (cases_eq i.0 place)
      where
        by : (i : ℕ) → place ≤ i → i < length order → map.get m (file_at order i) ≡ Some c.name → (i ≡ place) ⊎ (i ≢ place) → (name ≡ c.name) ⊎ ComesBefore name c.name
        by i ge less at (inl e) = inl (one_value (map.get m (file_at order i)) name c.name (ap (λ k. map.get m (file_at order k)) e ∙ is) at)
        by i ge less at (inr ne) = inr (o.rises place i name c.name (omega arith) less is at)

    pub following : IsFollowing m after f
    following =
        let n = named_at m order o place inside in
        record {
          comes = record { name = n.0; stands = ap (λ k. map.get m k) (sym here) ∙ n.1; behind = later n.0 n.1 after b };
          first = λ g c before. sooner n.0 g c before (no_sooner n.0 n.1 g c);
        }
      where
        later : (name : List ℕ) → map.get m (file_at order place) ≡ Some name → (a : Option FileNo) → IsBehind order a place
            → IfSome a (λ x. IfSome (map.get m x.0) (λ before. ComesBefore before name))
        later name is None _ = tt
        later name is (Some x) at =
            let y = named_at m order o at.0 at.1 in
            subst (λ p. IfSome p (λ t. ComesBefore t name)) (sym (ap (λ k. map.get m k) (sym at.2) ∙ y.1))
            (o.rises at.0 place y.0 name (omega (arith, at.3)) inside y.1 is)

        sooner : (name : List ℕ) (g : ℕ) (c : ComesLater m after g) → ComesBefore c.name name → (name ≡ c.name) ⊎ ComesBefore name c.name → ⊥
        sooner name g c before (inl e) = before_itself name (subst (λ t. ComesBefore t name) (sym e) before)
        sooner name g c before (inr h) = before_back name c.name h before
