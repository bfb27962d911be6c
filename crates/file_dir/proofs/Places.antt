-- The files in the order of their names, and what a file more or less leaves of it.
use Rattle.std.proofs.Common.{◌≡◌, ◌≢◌, ◌⊎◌, inl, inr, ℕ, ◌+◌, ◌-◌, ◌<◌, ◌≤◌, List, [], length, get_or, Option, Some, None, Bool, true, false, cond, refl, sym, ◌∙◌, ap, subst, arith}
use Rattle.std.specs.Prelude.{IsSome, is_some, MatchOption, nat_eq}
use Rattle.std.specs.Bool.{then_some}
use Rattle.std.specs.Cmp.Lexicographic.{pointwise, bytes_decides}
use Rattle.std.specs.List.{insert, remove}
use Rattle.std.specs.List.Sorted.{IsPartitionPoint, IsPartitionedBy}
use Rattle.std.proofs.lemmas.Bool.{cases_eq, cases_lt}
use Rattle.std.proofs.lemmas.Cmp.{nat_cmp_total}
use Rattle.std.proofs.lemmas.List.{get_or_default}
use Rattle.std.proofs.lemmas.List.Edits.{length-insert, get_or-insert_below, get_or-insert_at, get_or-insert_above, length-remove, get_or-remove_below, get_or-remove_above}
use Rattle.std.specs.Ordering.{nat_cmp}
use Rattle.std.specs.FinMap as map
use Rattle.number_map.proofs.Keys.{get_put, get_put_other, get_gone, get_gone_other}
use Rattle.machine_names.specs.declared.names.FileNo.{FileNo}
use Rattle.machine_names.specs.Bounds.{IsFileName}
use Rattle.machine_names.specs.declared.names.TheConstants.{MOST_FILES}
use Rattle.plain_files.specs.Directory.{AreFiles, ComesBefore, Files, IsAbsent}
use Rattle.file_dir.specs.Order.{IsOrder, file_at, is_before, precedes}
use Rattle.file_dir.proofs.Texts.{before_itself, before_both, before_is, is_before_true, not_before, compared}

abbrev pub no_file : FileNo
no_file = record { 0 = 0 }

pub held : {A : Type 0} (o : Option A) → IsSome o → (x : A) × (o ≡ Some x)
held None h = absurd (cc h)
held (Some x) h = (x, refl)

pub there : {A : Type 0} (o : Option A) (x : A) → o ≡ Some x → IsSome o
there o x e = ap is_some e

pub not_both : {A : Type 0} (o : Option A) (x : A) → o ≡ None → o ≡ Some x → ⊥
not_both o x p q = let e : None ≡ Some x = sym p ∙ q in cc e

pub one_value : {A : Type 0} (o : Option A) (x y : A) → o ≡ Some x → o ≡ Some y → x ≡ y
one_value o x y p q = let e : Some x ≡ Some y = sym p ∙ q in cc e

-- where a place stands when another one is put in, and when it is taken out
abbrev Shifted : ℕ → ℕ → ℕ → Type 0
Shifted place k i = ((i ≡ k) × (k < place)) ⊎ ((i ≡ k + 1) × (place ≤ k))

abbrev ClosedUp : ℕ → ℕ → ℕ → Type 0
ClosedUp place k i = ((i ≡ k) × (k < place)) ⊎ ((k ≡ i + 1) × (place ≤ i))

-- a file stands at a place of an order
abbrev Found : ℕ → List FileNo → Type 0
Found g order = (i : ℕ) × (i < length order) × (file_at order i ≡ g)

module _ (m : Files) (order : List FileNo) (o : IsOrder m order) where
  -- the name of the file at a place
  pub named_at : (i : ℕ) → i < length order → (name : List ℕ) × (map.get m (file_at order i) ≡ Some name)
  named_at i h = held (map.get m (file_at order i)) (o.there i h)

  -- a file stands at one place
  pub one_place : (i j : ℕ) → i < length order → j < length order → file_at order i ≡ file_at order j → i ≡ j
  one_place i j hi hj same = by (cases_lt i j) (cases_lt j i)
    where
      name : List ℕ
      name = (named_at i hi).0

      at_i : map.get m (file_at order i) ≡ Some name
      at_i = (named_at i hi).1

      at_j : map.get m (file_at order j) ≡ Some name
      at_j = ap (λ f. map.get m f) (sym same) ∙ at_i

      by : (i < j) ⊎ (j ≤ i) → (j < i) ⊎ (i ≤ j) → i ≡ j
      by (inl less) _ = absurd (before_itself name (o.rises i j name name less hj at_i at_j))
      by (inr le) (inl less) = absurd (before_itself name (o.rises j i name name less hi at_j at_i))
      by (inr le) (inr ge) = omega arith

  module _ (text : List ℕ) where
    precedes_is : (f : ℕ) (a : List ℕ) (p : Option (List ℕ)) → p ≡ Some a → is_before text p ≡ true → ComesBefore a text
    precedes_is f a p is h = before_is a text (sym (ap (is_before text) is) ∙ h)

    pub partitioned : IsPartitionedBy (precedes m text) order
    partitioned i j d le less h = by (cases_lt i j)
      where
        low : i < length order
        low = omega (arith, le, less)

        at : (k : ℕ) → k < length order → map.get m (get_or order k d).0 ≡ map.get m (file_at order k)
        at k within = ap (λ (f : FileNo). map.get m f.0) (get_or_default order k d no_file within)

        by : (i < j) ⊎ (j ≤ i) → precedes m text (get_or order i d) ≡ true
        by (inr ge) = let same : i ≡ j = omega (arith, le, ge) in subst (λ k. precedes m text (get_or order k d) ≡ true) (sym same) h
        by (inl lt) =
            let a = named_at i low in
            let b = named_at j less in
            let before : ComesBefore b.0 text = precedes_is (file_at order j) b.0 (map.get m (get_or order j d).0) (at j less ∙ b.1) h in
            ap (is_before text) (at i low ∙ a.1) ∙ is_before_true a.0 text (before_both a.0 b.0 text (o.rises i j a.0 b.0 lt less a.1 b.1) before)

  -- the files before a place are those whose names come before a text
  pub record IsSplit (text : List ℕ) (place : ℕ) : Type 0 where
    pub within : place ≤ length order
    pub front : (i : ℕ) (a : List ℕ) → i < place → map.get m (file_at order i) ≡ Some a → ComesBefore a text
    pub back : (i : ℕ) (a : List ℕ) → place ≤ i → i < length order → map.get m (file_at order i) ≡ Some a → ComesBefore a text → ⊥

  pub split : (text : List ℕ) (place : ℕ) → IsPartitionPoint (λ f. precedes m text f ≡ true) (λ f. precedes m text f ≡ false) order place → place ≤ length order
      → IsSplit text place
  split text place parts within = record {
    within = within;
    front = λ i a less is. before_is a text (sym (ap (is_before text) is) ∙ parts.0 i no_file (omega arith) less);
    back = λ i a ge less is. not_before a text (sym (ap (is_before text) is) ∙ parts.1 i no_file ge less);
  }

  -- as a search in another reading of the order and of the text says it
  pub split_on : (xs : List FileNo) (text name : List ℕ) (place : ℕ) → xs ≡ order → text ≡ name
      → IsPartitionPoint (λ f. precedes m text f ≡ true) (λ f. precedes m text f ≡ false) xs place → place ≤ length xs → IsSplit name place
  split_on xs text name place same is parts within =
      split name place (subst (λ ys. IsPartitionPoint (λ f. precedes m name f ≡ true) (λ f. precedes m name f ≡ false) ys place) same
      (subst (λ t. IsPartitionPoint (λ f. precedes m t f ≡ true) (λ f. precedes m t f ≡ false) xs place) is parts)) (subst (λ ys. place ≤ length ys) same within)

  module _ (text : List ℕ) (place : ℕ) (s : IsSplit text place) where
    -- the file with that name stands at the place
    pub place_is : (f : ℕ) → map.get m f ≡ Some text → (place < length order) × (file_at order place ≡ f)
    place_is f is =
        let at = o.whole f (there (map.get m f) text is) in
        by at.0 at.1 at.2 (ap (λ k. map.get m k) at.2 ∙ is) (cases_lt at.0 place) (cases_lt place at.0)
      where
        by : (i : ℕ) → i < length order → file_at order i ≡ f → map.get m (file_at order i) ≡ Some text → (i < place) ⊎ (place ≤ i) → (place < i) ⊎ (i ≤ place)
            → (place < length order) × (file_at order place ≡ f)
        by i less at name (inl low) _ = absurd (before_itself text (s.front i text low name))
        by i less at name (inr le) (inl high) =
            let b = named_at place (omega arith) in
            absurd (s.back place b.0 (omega arith) (omega arith) b.1 (o.rises place i b.0 text high less b.1 name))
        by i less at name (inr le) (inr ge) = let same : place ≡ i = omega arith in (omega arith, ap (file_at order) same ∙ at)

    -- no file has that name where the one at the place has another
    pub absent_else : (a : List ℕ) → map.get m (file_at order place) ≡ Some a → (a ≡ text → ⊥) → IsAbsent m text
    absent_else a is other f name =
        let at = place_is f name in
        other (one_value (map.get m f) a text (ap (λ k. map.get m k) (sym at.1) ∙ is) name)

    -- the file at the place is the one with that name, or there is none
    pub found_or_absent : (f : FileNo) (a : List ℕ) (equal : Bool) → file_at order place ≡ f.0 → map.get m f.0 ≡ Some a → equal ≡ pointwise nat_eq a text
        → MatchOption (then_some equal f) (IsAbsent m text) (λ g. map.get m g.0 ≡ Some text)
    found_or_absent f a true here is e = is ∙ ap (λ t. Some t) ((bytes_decides a text).0 (sym e))
    found_or_absent f a false here is e =
        absent_else a (ap (λ k. map.get m k) here ∙ is) (λ same. absurd (let holds = (bytes_decides a text).1 same in cc (holds, e)))

    pub absent_end : length order ≤ place → IsAbsent m text
    absent_end far f name = absurd (omega (arith, (place_is f name).0, far))

  -- a file more stands where its name splits the order
  module _ (f : FileNo) (name : List ℕ) (place : ℕ) (free : map.get m f.0 ≡ None) (absent : IsAbsent m name) (s : IsSplit name place) where
    abbrev new_files : Files
    new_files = map.insert m f.0 name

    below_at : (i : ℕ) → i < place → file_at (insert order place f) i ≡ file_at order i
    below_at i less = ap (λ (g : FileNo). g.0) (get_or-insert_below order place f no_file i less s.within)

    at_place : (i : ℕ) → i ≡ place → file_at (insert order place f) i ≡ f.0
    at_place i is = ap (λ k. file_at (insert order place f) k) is ∙ ap (λ (g : FileNo). g.0) (get_or-insert_at order place f no_file s.within)

    above_at : (i k : ℕ) → place ≤ k → i ≡ k + 1 → file_at (insert order place f) i ≡ file_at order k
    above_at i k ge is = ap (λ j. file_at (insert order place f) j) is ∙ ap (λ (g : FileNo). g.0) (get_or-insert_above order place f no_file k ge s.within)

    -- what stands at a place of the new order
    data At (i : ℕ) : Type 0 where
      old : (k : ℕ) (a : List ℕ) → k < length order → file_at (insert order place f) i ≡ file_at order k → map.get m (file_at order k) ≡ Some a
          → map.get new_files (file_at order k) ≡ Some a → Shifted place k i → At i
      new : i ≡ place → file_at (insert order place f) i ≡ f.0 → map.get new_files f.0 ≡ Some name → At i

    stays : (k : ℕ) (a : List ℕ) → map.get m (file_at order k) ≡ Some a → map.get new_files (file_at order k) ≡ Some a
    stays k a is = get_put_other m f.0 (file_at order k) name (λ e. not_both (map.get m f.0) a free (ap (λ j. map.get m j) (sym e) ∙ is)) ∙ is

    size_is : length (insert order place f) ≡ length order + 1
    size_is = length-insert order place f s.within

    at : (i : ℕ) → i < length order + 1 → At i
    at i less = by (cases_lt i place) (cases_eq i place)
      where
        by : (i < place) ⊎ (place ≤ i) → (i ≡ place) ⊎ (i ≢ place) → At i
        by (inl low) _ = let a = named_at i (omega (arith, s.within)) in old i a.0 (omega (arith, s.within)) (below_at i low) a.1 (stays i a.0 a.1) (inl (refl, low))
        by (inr ge) (inl is) = new is (at_place i is) (get_put m f.0 f.0 name refl)
        by (inr ge) (inr ne) =
            let k : ℕ = i - 1 in
            let before : i ≡ k + 1 = omega arith in
            let a = named_at k (omega arith) in
            old k a.0 (omega arith) (above_at i k (omega arith) before) a.1 (stays k a.0 a.1) (inr (before, omega arith))

    pub order_put : IsOrder (map.insert m f.0 name) (insert order place f)
    order_put = record {
      size = size_is ∙ (ap (λ n. n + 1) o.size ∙ sym (map.len-insert nat_cmp_total m f.0 name ∙ ap (λ p. cond (is_some p) (map.len m) (map.len m + 1)) free));
      there = λ i less. some_at i (at i (omega (arith, size_is)));
      rises = λ i j a b lt less p q. above i j a b lt (at i (omega (arith, size_is))) (at j (omega (arith, size_is))) p q;
      whole = λ g h. found g h (cases_eq g f.0);
    }
      where
        some_at : (i : ℕ) → At i → IsSome (map.get new_files (file_at (insert order place f) i))
        some_at i (old k a _ is _ name_is _) = there (map.get new_files (file_at (insert order place f) i)) a (ap (λ g. map.get new_files g) is ∙ name_is)
        some_at i (new _ is name_is) = there (map.get new_files (file_at (insert order place f) i)) name (ap (λ g. map.get new_files g) is ∙ name_is)

        same : (i g : ℕ) (a b : List ℕ) → file_at (insert order place f) i ≡ g → map.get new_files g ≡ Some b
            → map.get new_files (file_at (insert order place f) i) ≡ Some a → a ≡ b
        same i g a b is name_is p = one_value (map.get new_files g) a b (ap (λ j. map.get new_files j) (sym is) ∙ p) name_is

        above : (i j : ℕ) (a b : List ℕ) → i < j → At i → At j → map.get new_files (file_at (insert order place f) i) ≡ Some a
            → map.get new_files (file_at (insert order place f) j) ≡ Some b → ComesBefore a b
        above i j a b lt (old k x kl is m_is n_is where_i) (old l y ll js mj nj where_j) p q =
            let ordered : k < l = lower i j k l lt where_i where_j in
            subst (λ t. ComesBefore t b) (sym (same i (file_at order k) a x is n_is p))
            (subst (λ t. ComesBefore x t) (sym (same j (file_at order l) b y js nj q)) (o.rises k l x y ordered ll m_is mj))
          where
            lower : (i j k l : ℕ) → i < j → Shifted place k i → Shifted place l j → k < l
            lower i j k l lt (inl u) (inl v) = omega arith
            lower i j k l lt (inl u) (inr v) = omega arith
            lower i j k l lt (inr u) (inl v) = omega arith
            lower i j k l lt (inr u) (inr v) = omega arith
        above i j a b lt (old k x kl is m_is n_is where_i) (new j_is js nj) p q =
            let low : k < place = lower where_i in
            subst (λ t. ComesBefore t b) (sym (same i (file_at order k) a x is n_is p))
            (subst (λ t. ComesBefore x t) (sym (same j f.0 b name js nj q)) (s.front k x low m_is))
          where
            lower : Shifted place k i → k < place
            lower (inl u) = u.1
            lower (inr u) = omega arith
        above i j a b lt (new i_is is ni) (old l y ll js mj nj where_j) p q =
            let high : place ≤ l = upper where_j in
            subst (λ t. ComesBefore t b) (sym (same i f.0 a name is ni p))
            (subst (λ t. ComesBefore name t) (sym (same j (file_at order l) b y js nj q)) (behind l y high ll mj (compared name y)))
          where
            upper : Shifted place l j → place ≤ l
            upper (inl u) = omega arith
            upper (inr u) = u.1

            behind : (l : ℕ) (y : List ℕ) → place ≤ l → l < length order → map.get m (file_at order l) ≡ Some y
                → ComesBefore name y ⊎ ((name ≡ y) ⊎ ComesBefore y name) → ComesBefore name y
            behind l y high ll mj (inl h) = h
            behind l y high ll mj (inr (inl e)) = absurd (absent (file_at order l) (mj ∙ ap (λ t. Some t) (sym e)))
            behind l y high ll mj (inr (inr h)) = absurd (s.back l y high ll mj h)
        above i j a b lt (new i_is is ni) (new j_is js nj) p q = absurd (omega (arith, lt, i_is, j_is))

        found : (g : ℕ) → IsSome (map.get new_files g) → (g ≡ f.0) ⊎ (g ≢ f.0) → Found g (insert order place f)
        found g h (inl e) = (place, omega (arith, size_is, s.within), at_place place refl ∙ sym e)
        found g h (inr ne) =
            let k = o.whole g (subst IsSome (get_put_other m f.0 g name ne) h) in
            shifted k.0 k.1 k.2 (cases_lt k.0 place)
          where
            shifted : (k : ℕ) → k < length order → file_at order k ≡ g → (k < place) ⊎ (place ≤ k) → Found g (insert order place f)
            shifted k less is (inl low) = (k, omega (arith, size_is), below_at k low ∙ is)
            shifted k less is (inr ge) = (k + 1, omega (arith, size_is), above_at (k + 1) k ge refl ∙ is)

  -- a file less: the others keep their order
  module _ (f place : ℕ) (inside : place < length order) (here : file_at order place ≡ f) where
    abbrev left : Files
    left = map.remove m f

    below_gone : (i : ℕ) → i < place → file_at (remove order place) i ≡ file_at order i
    below_gone i less = ap (λ (g : FileNo). g.0) (get_or-remove_below order place no_file i less inside)

    above_gone : (i : ℕ) → place ≤ i → file_at (remove order place) i ≡ file_at order (i + 1)
    above_gone i ge = ap (λ (g : FileNo). g.0) (get_or-remove_above order place no_file i ge inside)

    size_gone : length (remove order place) + 1 ≡ length order
    size_gone = length-remove order place inside

    -- where a place of the rest stood before
    abbrev Stood : ℕ → ℕ → Type 0
    Stood i k = (k < length order) × (k ≢ place) × (file_at (remove order place) i ≡ file_at order k) × ClosedUp place k i

    stood : (i : ℕ) → i < length (remove order place) → (k : ℕ) × Stood i k
    stood i less = by (cases_lt i place)
      where
        by : (i < place) ⊎ (place ≤ i) → (k : ℕ) × Stood i k
        by (inl low) = (i, (omega (arith, size_gone), (λ e. absurd (omega (arith, low, e))), below_gone i low, inl (refl, low)))
        by (inr ge) = (i + 1, (omega (arith, size_gone), (λ e. absurd (omega (arith, ge, e))), above_gone i ge, inr (refl, ge)))

    others : (k : ℕ) → k < length order → k ≢ place → map.get left (file_at order k) ≡ map.get m (file_at order k)
    others k less ne = get_gone_other m f (file_at order k) (λ e. ne (one_place k place less inside (e ∙ sym here)))

    pub order_gone : IsOrder (map.remove m f) (remove order place)
    order_gone = record {
      size = gone_size (named_at place inside);
      there = λ i less. let k = stood i less in
          subst IsSome (sym (ap (λ g. map.get left g) k.1.2 ∙ others k.0 k.1.0 k.1.1)) (o.there k.0 k.1.0);
      rises = λ i j a b lt less p q.
          let k = stood i (omega arith) in
          let l = stood j less in
          o.rises k.0 l.0 a b (lower i j k.0 l.0 lt k.1.3 l.1.3) l.1.0
          (sym (ap (λ g. map.get left g) k.1.2 ∙ others k.0 k.1.0 k.1.1) ∙ p) (sym (ap (λ g. map.get left g) l.1.2 ∙ others l.0 l.1.0 l.1.1) ∙ q);
      whole = λ g h. found g h (cases_eq g f);
    }
      where
        gone_size : (name : List ℕ) × (map.get m (file_at order place) ≡ Some name) → length (remove order place) ≡ map.len (map.remove m f)
        gone_size a =
            let is : map.get m f ≡ Some a.0 = ap (λ g. map.get m g) (sym here) ∙ a.1 in
            let less : map.len (map.remove m f) ≡ map.len m - 1 = map.len-remove nat_cmp_total m f ∙ ap (λ p. cond (is_some p) (map.len m - 1) (map.len m)) is in
            omega (arith, size_gone, o.size)

        lower : (i j k l : ℕ) → i < j → ClosedUp place k i → ClosedUp place l j → k < l
        lower i j k l lt (inl u) (inl v) = omega arith
        lower i j k l lt (inl u) (inr v) = omega arith
        lower i j k l lt (inr u) (inl v) = omega arith
        lower i j k l lt (inr u) (inr v) = omega arith

        found : (g : ℕ) → IsSome (map.get left g) → (g ≡ f) ⊎ (g ≢ f) → Found g (remove order place)
        found g h (inl e) = absurd (let none : IsSome {T = List ℕ} None = subst IsSome (get_gone m f g e) h in cc none)
        found g h (inr ne) =
            let k = o.whole g (subst IsSome (get_gone_other m f g ne) h) in
            shifted k.0 k.1 k.2 (cases_lt k.0 place) (cases_eq k.0 place)
          where
            shifted : (k : ℕ) → k < length order → file_at order k ≡ g → (k < place) ⊎ (place ≤ k) → (k ≡ place) ⊎ (k ≢ place) → Found g (remove order place)
            shifted k less is (inl low) _ = (k, omega (arith, size_gone), below_gone k low ∙ is)
            shifted k less is (inr ge) (inl e) = absurd (ne (sym is ∙ (ap (file_at order) e ∙ here)))
            shifted k less is (inr ge) (inr other) =
                let next : (k - 1) + 1 ≡ k = omega arith in
                (k - 1, omega (arith, size_gone), above_gone (k - 1) (omega arith) ∙ (ap (file_at order) next ∙ is))

-- a file more or less leaves every name its own
module _ (m : Files) (a : AreFiles m) (f : ℕ) where
  pub files_put : (name : List ℕ) → f < MOST_FILES → IsFileName name → IsAbsent m name → AreFiles (map.insert m f name)
  files_put name within named absent = record {
    below = λ g far. get_put_other m f g name (λ e. absurd (omega (arith, within, far, e))) ∙ a.below g far;
    named = λ g other is. named_is g other is (cases_eq g f);
    once = λ g h other p q. one g h other p q (cases_eq g f) (cases_eq h f);
  }
    where
      at_f : (g : ℕ) (other : List ℕ) → g ≡ f → map.get (map.insert m f name) g ≡ Some other → other ≡ name
      at_f g other e is = one_value (map.get (map.insert m f name) g) other name is (get_put m f g name e)

      old : (g : ℕ) (other : List ℕ) → g ≢ f → map.get (map.insert m f name) g ≡ Some other → map.get m g ≡ Some other
      old g other ne is = sym (get_put_other m f g name ne) ∙ is

      named_is : (g : ℕ) (other : List ℕ) → map.get (map.insert m f name) g ≡ Some other → (g ≡ f) ⊎ (g ≢ f) → IsFileName other
      named_is g other is (inl e) = subst IsFileName (sym (at_f g other e is)) named
      named_is g other is (inr ne) = a.named g other (old g other ne is)

      one : (g h : ℕ) (other : List ℕ) → map.get (map.insert m f name) g ≡ Some other → map.get (map.insert m f name) h ≡ Some other → (g ≡ f) ⊎ (g ≢ f)
          → (h ≡ f) ⊎ (h ≢ f) → g ≡ h
      one g h other p q (inl e) (inl d) = e ∙ sym d
      one g h other p q (inl e) (inr d) = absurd (absent h (old h other d q ∙ ap (λ t. Some t) (at_f g other e p)))
      one g h other p q (inr e) (inl d) = absurd (absent g (old g other e p ∙ ap (λ t. Some t) (at_f h other d q)))
      one g h other p q (inr e) (inr d) = a.once g h other (old g other e p) (old h other d q)

  pub files_gone : AreFiles (map.remove m f)
  files_gone = record {
    below = λ g far. none g (a.below g far) (cases_eq g f);
    named = λ g name is. a.named g name (old g name is (cases_eq g f));
    once = λ g h name p q. a.once g h name (old g name p (cases_eq g f)) (old h name q (cases_eq h f));
  }
    where
      none : (g : ℕ) → map.get m g ≡ None → (g ≡ f) ⊎ (g ≢ f) → map.get (map.remove m f) g ≡ None
      none g is (inl e) = get_gone m f g e
      none g is (inr ne) = get_gone_other m f g ne ∙ is

      old : (g : ℕ) (name : List ℕ) → map.get (map.remove m f) g ≡ Some name → (g ≡ f) ⊎ (g ≢ f) → map.get m g ≡ Some name
      old g name is (inl e) = absurd (not_both (map.get (map.remove m f) g) name (get_gone m f g e) is)
      old g name is (inr ne) = sym (get_gone_other m f g ne) ∙ is

-- no file stands nowhere
pub no_order : (order : List FileNo) → order ≡ [] → IsOrder map.empty order
no_order order none = record {
  size = ap length none ∙ sym (map.len-empty nat_cmp (List ℕ));
  there = λ i less. absurd (omega (arith, less, ap length none));
  rises = λ i j a b lt less p q. absurd (omega (arith, less, ap length none));
  whole = λ f h. absurd (let is : IsSome {T = List ℕ} None = subst IsSome (map.get-empty {X = List ℕ} nat_cmp f) h in cc is);
}

pub no_files : AreFiles map.empty
no_files = record {
  below = λ g far. map.get-empty nat_cmp g;
  named = λ g name is. absurd (not_both (map.get map.empty g) name (map.get-empty nat_cmp g) is);
  once = λ g h name p q. absurd (not_both (map.get map.empty g) name (map.get-empty nat_cmp g) p);
}
