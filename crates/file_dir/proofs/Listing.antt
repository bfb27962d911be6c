-- The next file of a directory stands at the first place that is in the directory's part of the order and behind the file given.
use Rattle.std.proofs.Common.{◌≡◌, ◌≢◌, ◌⊎◌, inl, inr, ℕ, ◌<◌, ◌≤◌, List, [], ◌∷◌, ◌++◌, length, Bool, true, false, Option, Some, None, refl, sym, ◌∙◌, ap, subst, arith, append_assoc, length-append}
use Rattle.std.specs.Prelude.{IfSome, MatchOption, max}
use Rattle.std.specs.Bool.{then_some}
use Rattle.std.proofs.lemmas.Bool.{cases_eq, cases_lt}
use Rattle.std.specs.FinMap as map
use Rattle.machine_names.specs.declared.names.FileNo.{FileNo}
use Rattle.plain_files.specs.Directory.{AreFiles, ComesAfter, ComesBefore, Files, IsInDirectory, IsNext}
use Rattle.file_dir.specs.Order.{IsBehind, IsOrder, file_at}
use Rattle.file_dir.proofs.Texts.{before_itself, before_back, between, front_first}
use Rattle.file_dir.proofs.Places.{IsSplit, named_at, one_value, there}

-- what the full name of each file of a directory begins with
abbrev pub front_of : List ℕ → List ℕ
front_of dir = 60 ∷ (dir ++ 62 ∷ [])

pub opened : (dir file : List ℕ) → front_of dir ++ file ≡ 60 ∷ (dir ++ 62 ∷ file)
opened dir file = ap (λ t. 60 ∷ t) (append_assoc dir (62 ∷ []) file)

pub in_directory : (dir name file : List ℕ) → name ≡ front_of dir ++ file → IsInDirectory dir name
in_directory dir name file is = (file, is ∙ opened dir file)

module _ (m : Files) (order : List FileNo) (o : IsOrder m order) (dir : List ℕ) (after : Option FileNo) where
  module _ (first behind place : ℕ) (s : IsSplit m order o (front_of dir) first) (b : IsBehind order after behind) (le_first : first ≤ place)
      (le_behind : behind ≤ place) (least : place ≤ max first behind) where
    -- each file that comes after stands at this place or behind it
    reach : (g : ℕ) → ComesAfter m dir after g → (i : ℕ) × (place ≤ i) × (i < length order) × (file_at order i ≡ g)
    reach g c =
        let at = o.whole g (there (map.get m g) c.name c.stands) in (
          at.0,
          omega (
            arith,
            in_part at.0 at.1 (ap (λ k. map.get m k) at.2 ∙ c.stands) (cases_lt at.0 first),
            past after b c.behind at.0 at.1
                (ap (λ k. map.get m k) at.2 ∙ c.stands),
          ),
          at.1,
          at.2,
        )
      where
        in_part : (i : ℕ) → i < length order → map.get m (file_at order i) ≡ Some c.name → (i < first) ⊎ (first ≤ i) → first ≤ i
        in_part i less is (inl low) =
            let before = s.front i c.name low is in
            absurd (front_first (front_of dir) c.within.0 (subst (λ t. ComesBefore t (front_of dir)) (c.within.1 ∙ sym (opened dir c.within.0)) before))
        in_part i less is (inr ge) = ge

        past : (a : Option FileNo) → IsBehind order a behind → IfSome a (λ f. IfSome (map.get m f.0) (λ before. ComesBefore before c.name)) → (i : ℕ)
            → i < length order → map.get m (file_at order i) ≡ Some c.name → behind ≤ i
        past None zero_is _ i less is = omega arith
        past (Some f) at before i less is =
            let a = named_at m order o at.0 at.1 in
            let name_before : ComesBefore a.0 c.name = subst (λ p. IfSome p (λ t. ComesBefore t c.name)) (ap (λ k. map.get m k) (sym at.2) ∙ a.1) before in
            by a.0 a.1 name_before (cases_lt at.0 i) (cases_eq at.0 i)
          where
            by : (x : List ℕ) → map.get m (file_at order at.0) ≡ Some x → ComesBefore x c.name → (at.0 < i) ⊎ (i ≤ at.0) → (at.0 ≡ i) ⊎ (at.0 ≢ i) → behind ≤ i
            by x x_is before (inl lt) _ = omega (arith, at.3)
            by x x_is before (inr ge) (inl e) = absurd (before_itself c.name
                (subst (λ t. ComesBefore t c.name) (one_value (map.get m (file_at order i)) x c.name (ap (λ k. map.get m (file_at order k)) (sym e) ∙ x_is) is) before))
            by x x_is before (inr ge) (inr ne) = absurd (before_back x c.name before (o.rises i at.0 c.name x (omega arith) at.1 is x_is))

    pub none_after : length order ≤ place → (g : ℕ) → ComesAfter m dir after g → ⊥
    none_after far g c = let i = reach g c in absurd (omega (arith, i.1, i.2))

    module _ (inside : place < length order) (f : ℕ) (here : file_at order place ≡ f) (name : List ℕ) (is : map.get m f ≡ Some name) where
      name_here : map.get m (file_at order place) ≡ Some name
      name_here = ap (λ k. map.get m k) here ∙ is

      -- what stands there, or comes before what stands further on
      no_sooner : (g : ℕ) (c : ComesAfter m dir after g) → (name ≡ c.name) ⊎ ComesBefore name c.name
      no_sooner g c = let i = reach g c in by i.0 i.1 i.2 (ap (λ k. map.get m k) i.3 ∙ c.stands) (cases_eq i.0 place)
        where
          by : (i : ℕ) → place ≤ i → i < length order → map.get m (file_at order i) ≡ Some c.name → (i ≡ place) ⊎ (i ≢ place) → (name ≡ c.name) ⊎ ComesBefore name c.name
          by i ge less at (inl e) = inl (one_value (map.get m (file_at order i)) name c.name (ap (λ k. map.get m (file_at order k)) e ∙ name_here) at)
          by i ge less at (inr ne) = inr (o.rises place i name c.name (omega arith) less name_here at)

      pub next_is : (file : List ℕ) → name ≡ front_of dir ++ file → IsNext m dir after f
      next_is file front = record {
        comes = record { name = name; stands = is; within = in_directory dir name file front; behind = later after b };
        first = λ g c before. sooner g c before (no_sooner g c);
      }
        where
          later : (a : Option FileNo) → IsBehind order a behind → IfSome a (λ x. IfSome (map.get m x.0) (λ before. ComesBefore before name))
          later None _ = tt
          later (Some x) at =
              let y = named_at m order o at.0 at.1 in
              subst (λ p. IfSome p (λ t. ComesBefore t name)) (sym (ap (λ k. map.get m k) (sym at.2) ∙ y.1))
              (o.rises at.0 place y.0 name (omega (arith, at.3)) inside y.1 name_here)

          sooner : (g : ℕ) (c : ComesAfter m dir after g) → ComesBefore c.name name → (name ≡ c.name) ⊎ ComesBefore name c.name → ⊥
          sooner g c before (inl e) = before_itself name (subst (λ t. ComesBefore t name) (sym e) before)
          sooner g c before (inr h) = before_back name c.name h before

      pub none_there : ((file : List ℕ) → name ≡ front_of dir ++ file → ⊥) → (g : ℕ) → ComesAfter m dir after g → ⊥
      none_there other g c = by (no_sooner g c)
        where
          front : c.name ≡ front_of dir ++ c.within.0
          front = c.within.1 ∙ sym (opened dir c.within.0)

          by : (name ≡ c.name) ⊎ ComesBefore name c.name → ⊥
          by (inl e) = other c.within.0 (e ∙ front)
          by (inr h) =
              let begins = between (front_of dir) name c.within.0 (λ before. s.back place name le_first inside name_here before) (subst (ComesBefore name) front h) in
              other begins.0 begins.1

      -- the file at the place is the next one, or there is none
      pub listed : (begins : Bool) (x : FileNo) → x.0 ≡ f → (begins ≡ true → (file : List ℕ) × (name ≡ front_of dir ++ file))
          → ((file : List ℕ) → name ≡ front_of dir ++ file → begins ≡ true)
          → MatchOption (then_some begins x) ((g : ℕ) → ComesAfter m dir after g → ⊥) (λ y. IsNext m dir after y.0)
      listed true x e holds fails = subst (IsNext m dir after) (sym e) (next_is (holds refl).0 (holds refl).1)
      listed false x e holds fails = none_there (λ file front. let never : false ≡ true = fails file front in cc never)

  -- a directory whose name is too long has no file
  pub none_so_long : AreFiles m → 39 < length (front_of dir) → (g : ℕ) → ComesAfter m dir after g → ⊥
  none_so_long a long g c =
      let named = a.named g c.name c.stands in
      let whole : length c.name ≡ length (front_of dir ++ c.within.0) = ap length (c.within.1 ∙ sym (opened dir c.within.0)) in
      absurd (omega (arith, long, named.short, whole, length-append (front_of dir) c.within.0))
