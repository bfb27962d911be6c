-- What is kept for the numbers of files, by the names of the files.
use Rattle.std.proofs.Common.{◌≡◌, ◌≢◌, ◌↔◌, ℕ, ◌+◌, ◌<◌, ◌≤◌, zero, suc, true, false, cond, List, [], Option, Some, None, refl, sym, ◌∙◌, ap, arith, ◌⊎◌, inl, inr}
use Rattle.std.specs.Prelude.{is_some}
use Rattle.std.specs.Option.{option_map, unwrap_or}
use Rattle.std.specs.Ordering.{eq_by_cmp, nat_cmp}
use Rattle.std.specs.Cmp.{IsTotalOrder, nat_cmp_total}
use Rattle.std.specs.Cmp.Lexicographic.{nat_list_cmp_total}
use Rattle.std.proofs.lemmas.Bool.{cases_eq}
use Rattle.std.specs.FinMap as map
use Rattle.std.specs.FinMap.{IsAntisymmetric, nat_cmp-IsAntisymmetric, slice_cmp-IsAntisymmetric}
use Rattle.number_map.proofs.Keys.{same, tied, untied, get_gone as number_gone, get_gone_other as number_gone_other, get_put as number_put, get_put_other as number_put_other}
use Rattle.number_map.proofs.Places.{put_back}
use Rattle.machine_names.specs.Orders.{name_cmp}
use Rattle.machine_names.specs.declared.names.TheConstants.{MOST_FILES}
use Rattle.plain_files.specs.Directory.{Files, IsAbsent}
use Rattle.plain_files.specs.NamedFiles.{AreNumbers, by_name, name_of, number_of}
use Rattle.machine_names.proofs.Keys.{cases_key, get_put, get_put_other, get_gone, get_gone_other, parts, same_key, ties}
use Rattle.file_tables.proofs.Rekeyed.{Each, each_there, one_or_none, rekeyed_at, rekeyed_none, weaker}

pub name_total : IsTotalOrder name_cmp
name_total = nat_list_cmp_total

pub name_apart : IsAntisymmetric name_cmp
name_apart = slice_cmp-IsAntisymmetric nat_cmp-IsAntisymmetric

pub cases_name : (a b : List ℕ) → (a ≡ b) ⊎ (a ≢ b)
cases_name = cases_key name_total name_apart

-- two values that one look finds
pub one_value : {A : Type 0} (o : Option A) (x y : A) → o ≡ Some x → o ≡ Some y → x ≡ y
one_value o x y a b = cc (a, b)

pub not_both : {A : Type 0} (o : Option A) (x : A) → o ≡ None → o ≡ Some x → ⊥
not_both o x none some = absurd (cc (none, some))

-- the name of a file that is there
pub named : (m : Files) (f : ℕ) → map.contains_key m f ≡ true → map.get m f ≡ Some (name_of m f)
named m f there = by (map.get m f) refl
  where
    by : (o : Option (List ℕ)) → map.get m f ≡ o → map.get m f ≡ Some (name_of m f)
    by None is = absurd (let not_there : false ≡ true = sym (ap is_some is) ∙ there in cc not_there)
    by (Some name) is = is ∙ ap (λ x. Some x) (sym (ap (λ o. unwrap_or o []) is))

module _ (m : Files) (a : AreNumbers m) where
  -- a name and a number stand for each other
  alike : (f : ℕ) (name : List ℕ) → map.get m f ≡ Some name → (e : ℕ × List ℕ) → map.get m e.0 ≡ Some e.1 → eq_by_cmp name_cmp name e.1 ≡ eq_by_cmp nat_cmp f e.0
  alike f name is e there = by (cases_eq f e.0)
    where
      by : (f ≡ e.0) ⊎ (f ≢ e.0) → eq_by_cmp name_cmp name e.1 ≡ eq_by_cmp nat_cmp f e.0
      by (inl same_number) =
          ties name_total name_apart name e.1 (one_value (map.get m f) name e.1 is (ap (λ k. map.get m k) same_number ∙ there))
          ∙ sym (tied f e.0 same_number)
      by (inr other) =
          parts name_total name_apart name e.1 (λ same_name. other (a.once f e.0 name is (there ∙ ap (λ x. Some x) (sym same_name))))
          ∙ sym (untied f e.0 other)

  -- a name is that of a file, or of none
  pub cases_file : (name : List ℕ) → ((f : ℕ) × (map.get m f ≡ Some name)) ⊎ IsAbsent m name
  cases_file name = by (one_or_none (λ e. eq_by_cmp name_cmp name e.1) (λ e. map.get m e.0 ≡ Some e.1) (map.entries m) (each_there nat_cmp_total nat_cmp-IsAntisymmetric m))
    where
      Passes : Type 0
      Passes = (e : ℕ × List ℕ) × (map.get m e.0 ≡ Some e.1) × (eq_by_cmp name_cmp name e.1 ≡ true)

      by : Passes ⊎ Each (λ e. (map.get m e.0 ≡ Some e.1) × (eq_by_cmp name_cmp name e.1 ≡ false)) (map.entries m)
          → ((f : ℕ) × (map.get m f ≡ Some name)) ⊎ IsAbsent m name
      by (inl found) = inl (found.0.0, found.1 ∙ ap (λ x. Some x) (sym (same_key name_total name_apart name found.0.1 found.2)))
      by (inr none) = inr (λ f is. not_both _ f (rekeyed_none nat_cmp_total nat_cmp-IsAntisymmetric name_total (λ k x. x) (λ k x. k) name m
          (weaker (λ e. (map.get m e.0 ≡ Some e.1) × (eq_by_cmp name_cmp name e.1 ≡ false)) (λ e. eq_by_cmp name_cmp name e.1 ≡ false) (map.entries m) (λ e both. both.1) none))
          (rekeyed_at nat_cmp_total nat_cmp-IsAntisymmetric name_total (λ k x. x) (λ k x. k) name m f (alike f name is) ∙ ap (option_map (λ x. f)) is))

  module _ {V : Type 0} (kept : ℕ → V) where
    pub by_name_at : (f : ℕ) (name : List ℕ) → map.get m f ≡ Some name → map.get (by_name m kept) name ≡ Some (kept f)
    unfolding by_name
    by_name_at f name is =
        rekeyed_at nat_cmp_total nat_cmp-IsAntisymmetric name_total (λ k x. x) (λ k x. kept k) name m f (alike f name is)
        ∙ ap (option_map (λ x. kept f)) is

    pub by_name_none : (name : List ℕ) → IsAbsent m name → map.get (by_name m kept) name ≡ None
    unfolding by_name
    by_name_none name absent =
        rekeyed_none nat_cmp_total nat_cmp-IsAntisymmetric name_total (λ k x. x) (λ k x. kept k) name m
        (weaker (λ e. map.get m e.0 ≡ Some e.1) (λ e. eq_by_cmp name_cmp name e.1 ≡ false) (map.entries m)
        (λ e there. parts name_total name_apart name e.1 (λ same_name. absent e.0 (there ∙ ap (λ x. Some x) (sym same_name))))
        (each_there nat_cmp_total nat_cmp-IsAntisymmetric m))

    -- where nothing is under a name, no file has it
    pub absent_by_name : (name : List ℕ) → map.get (by_name m kept) name ≡ None → IsAbsent m name
    absent_by_name name none f is = not_both (map.get (by_name m kept) name) (kept f) none (by_name_at f name is)

    -- what answers as this does is this
    pub by_name_is : (n : map.FinMap name_cmp V) → ((f : ℕ) (name : List ℕ) → map.get m f ≡ Some name → map.get n name ≡ Some (kept f))
        → ((name : List ℕ) → IsAbsent m name → map.get n name ≡ None) → by_name m kept ≡ n
    by_name_is n found none = map.same_map name_total name_apart (by_name m kept) n (λ name. at name (cases_file name))
      where
        at : (name : List ℕ) → ((f : ℕ) × (map.get m f ≡ Some name)) ⊎ IsAbsent m name → map.get (by_name m kept) name ≡ map.get n name
        at name (inl there) = by_name_at there.0 name there.1 ∙ sym (found there.0 name there.1)
        at name (inr absent) = by_name_none name absent ∙ sym (none name absent)

  -- a name has the number that stands for it
  pub number_is : (name : List ℕ) (f : ℕ) → (number_of m name ≡ Some f) ↔ (map.get m f ≡ Some name)
  number_is name f = (λ e. by e (cases_file name), λ is. by_name_at (λ k. k) f name is)
    where
      by : number_of m name ≡ Some f → ((g : ℕ) × (map.get m g ≡ Some name)) ⊎ IsAbsent m name → map.get m f ≡ Some name
      by e (inl there) = ap (λ k. map.get m k) (one_value (number_of m name) f there.0 e (by_name_at (λ k. k) there.0 name there.1)) ∙ there.1
      by e (inr absent) = absurd (not_both (number_of m name) f (by_name_none (λ k. k) name absent) e)

module _ (m : Files) (a : AreNumbers m) where
  -- what a file that is taken away leaves
  module _ (f : ℕ) (name : List ℕ) (there : map.get m f ≡ Some name) where
    stays : (g : ℕ) (other : List ℕ) → map.get (map.remove m f) g ≡ Some other → (g ≢ f) × (map.get m g ≡ Some other)
    stays g other is = by (cases_eq g f)
      where
        by : (g ≡ f) ⊎ (g ≢ f) → (g ≢ f) × (map.get m g ≡ Some other)
        by (inl e) = absurd (not_both (map.get (map.remove m f) g) other (number_gone m f g e) is)
        by (inr ne) = (ne, sym (number_gone_other m f g ne) ∙ is)

    pub numbers_gone : AreNumbers (map.remove m f)
    numbers_gone = record {
      below = λ g other is. a.below g other (stays g other is).1;
      once = λ g h other is also. a.once g h other (stays g other is).1 (stays h other also).1;
    }

    other_name : (g : ℕ) (other : List ℕ) → g ≢ f → map.get m g ≡ Some other → other ≢ name
    other_name g other ne is e = ne (a.once g f other is (there ∙ ap (λ x. Some x) (sym e)))

    other_file : (g : ℕ) (other : List ℕ) → other ≢ name → map.get m g ≡ Some other → g ≢ f
    other_file g other ne is e = ne (one_value (map.get m f) other name (ap (λ k. map.get m k) (sym e) ∙ is) there)

    absent_too : (other : List ℕ) → other ≢ name → IsAbsent (map.remove m f) other → IsAbsent m other
    absent_too other ne absent g is = absent g (number_gone_other m f g (other_file g other ne is) ∙ is)

    pub by_name_gone : {V : Type 0} (kept : ℕ → V) → by_name (map.remove m f) kept ≡ map.remove (by_name m kept) name
    by_name_gone kept =
        by_name_is (map.remove m f) numbers_gone kept (map.remove (by_name m kept) name)
        (λ g other is. get_gone_other name_total name_apart (by_name m kept) name other (other_name g other (stays g other is).0 (stays g other is).1)
        ∙ by_name_at m a kept g other (stays g other is).1)
        (λ other absent. none other absent (cases_name other name))
      where
        none : (other : List ℕ) → IsAbsent (map.remove m f) other → (other ≡ name) ⊎ (other ≢ name) → map.get (map.remove (by_name m kept) name) other ≡ None
        none other absent (inl e) = get_gone name_total name_apart (by_name m kept) name other e
        none other absent (inr ne) =
            get_gone_other name_total name_apart (by_name m kept) name other ne ∙ by_name_none m a kept other (absent_too other ne absent)

    -- another value under the name of one file
    pub by_name_set : {V : Type 0} (kept was : ℕ → V) → ((g : ℕ) → g ≢ f → kept g ≡ was g) → by_name m kept ≡ map.insert (by_name m was) name (kept f)
    by_name_set kept was others =
        by_name_is m a kept (map.insert (by_name m was) name (kept f)) (λ g other is. found g other is (cases_eq g f))
        (λ other absent. get_put_other name_total name_apart (by_name m was) name other (kept f) (λ e. absent f (there ∙ ap (λ x. Some x) (sym e)))
        ∙ by_name_none m a was other absent)
      where
        found : (g : ℕ) (other : List ℕ) → map.get m g ≡ Some other → (g ≡ f) ⊎ (g ≢ f) → map.get (map.insert (by_name m was) name (kept f)) other ≡ Some (kept g)
        found g other is (inl e) =
            get_put name_total name_apart (by_name m was) name other (kept f) (one_value (map.get m f) other name (ap (λ k. map.get m k) (sym e) ∙ is) there)
            ∙ ap (λ k. Some (kept k)) (sym e)
        found g other is (inr ne) =
            get_put_other name_total name_apart (by_name m was) name other (kept f) (other_name g other ne is)
            ∙ (by_name_at m a was g other is ∙ ap (λ x. Some x) (sym (others g ne)))

  -- what a file that is made leaves
  module _ (f : ℕ) (name : List ℕ) (below : f < MOST_FILES) (free : map.get m f ≡ None) (absent : IsAbsent m name) where
    made_or_there : (g : ℕ) (other : List ℕ) → map.get (map.insert m f name) g ≡ Some other → ((g ≡ f) × (other ≡ name)) ⊎ ((g ≢ f) × (map.get m g ≡ Some other))
    made_or_there g other is = by (cases_eq g f)
      where
        by : (g ≡ f) ⊎ (g ≢ f) → ((g ≡ f) × (other ≡ name)) ⊎ ((g ≢ f) × (map.get m g ≡ Some other))
        by (inl e) = inl (e, one_value (map.get (map.insert m f name) g) other name is (number_put m f g name e))
        by (inr ne) = inr (ne, sym (number_put_other m f g name ne) ∙ is)

    pub numbers_put : AreNumbers (map.insert m f name)
    numbers_put = record {
      below = λ g other is. low g other (made_or_there g other is);
      once = λ g h other is also. one g h other (made_or_there g other is) (made_or_there h other also);
    }
      where
        Cases : ℕ → List ℕ → Type 0
        Cases g other = ((g ≡ f) × (other ≡ name)) ⊎ ((g ≢ f) × (map.get m g ≡ Some other))

        low : (g : ℕ) (other : List ℕ) → Cases g other → g < MOST_FILES
        low g other (inl made) = omega (arith, made.0, below)
        low g other (inr there) = a.below g other there.1

        one : (g h : ℕ) (other : List ℕ) → Cases g other → Cases h other → g ≡ h
        one g h other (inl made) (inl also) = made.0 ∙ sym also.0
        one g h other (inl made) (inr there) = absurd (absent h (there.1 ∙ ap (λ x. Some x) made.1))
        one g h other (inr there) (inl made) = absurd (absent g (there.1 ∙ ap (λ x. Some x) made.1))
        one g h other (inr there) (inr also) = a.once g h other there.1 also.1

    pub by_name_put : {V : Type 0} (kept was : ℕ → V) → ((g : ℕ) → g ≢ f → kept g ≡ was g) → by_name (map.insert m f name) kept ≡ map.insert (by_name m was) name (kept f)
    by_name_put kept was others =
        by_name_is (map.insert m f name) numbers_put kept (map.insert (by_name m was) name (kept f)) (λ g other is. found g other (made_or_there g other is))
        (λ other gone. get_put_other name_total name_apart (by_name m was) name other (kept f) (λ e. gone f (number_put m f f name refl ∙ ap (λ x. Some x) (sym e)))
        ∙ by_name_none m a was other (λ g is. gone g (number_put_other m f g name (λ e. not_both (map.get m f) other free (ap (λ k. map.get m k) (sym e) ∙ is)) ∙ is)))
      where
        found : (g : ℕ) (other : List ℕ) → ((g ≡ f) × (other ≡ name)) ⊎ ((g ≢ f) × (map.get m g ≡ Some other))
            → map.get (map.insert (by_name m was) name (kept f)) other ≡ Some (kept g)
        found g other (inl made) =
            get_put name_total name_apart (by_name m was) name other (kept f) made.1 ∙ ap (λ k. Some (kept k)) (sym made.0)
        found g other (inr there) =
            get_put_other name_total name_apart (by_name m was) name other (kept f) (λ e. absent g (there.1 ∙ ap (λ x. Some x) e))
            ∙ (by_name_at m a was g other there.1 ∙ ap (λ x. Some x) (sym (others g there.0)))

-- no file, nothing under a name
pub no_numbers : AreNumbers map.empty
no_numbers = record {
  below = λ f name is. absurd (not_both (map.get map.empty f) name (map.get-empty nat_cmp f) is);
  once = λ f g name is also. absurd (not_both (map.get map.empty f) name (map.get-empty nat_cmp f) is);
}

pub by_no_name : {V : Type 0} (kept : ℕ → V) → by_name map.empty kept ≡ map.empty
by_no_name {V} kept =
    by_name_is map.empty no_numbers kept map.empty (λ f name is. absurd (not_both (map.get map.empty f) name (map.get-empty nat_cmp f) is))
    (λ name absent. map.get-empty {X = V} name_cmp name)

len_with : (m : Files) (n : ℕ) (name : List ℕ) → map.get m n ≡ Some name → map.len m ≡ map.len (map.remove m n) + 1
len_with m n name is =
    ap map.len (put_back m n name is)
    ∙ (map.len-insert nat_cmp_total (map.remove m n) n name
    ∙ ap (λ o. cond (is_some o) (map.len (map.remove m n)) (map.len (map.remove m n) + 1)) (number_gone m n n refl))

-- there are as many names as numbers
len_below : {V : Type 0} (kept : ℕ → V) (n : ℕ) (m : Files) → AreNumbers m → ((k : ℕ) → n ≤ k → map.get m k ≡ None) → map.len (by_name m kept) ≡ map.len m
len_below {V} kept zero m a none =
    let empty : m ≡ map.empty = same m map.empty (λ q. none q (omega arith) ∙ sym (map.get-empty nat_cmp q)) in
    ap (λ (x : Files). map.len (by_name x kept)) empty
    ∙ (ap map.len (by_no_name kept) ∙ (map.len-empty name_cmp V ∙ sym (ap map.len empty ∙ map.len-empty nat_cmp (List ℕ))))
len_below {V} kept (suc n) m a none = by (λ x. len_below kept n x) (map.get m n) refl
  where
    far : (k : ℕ) → n ≤ k → map.get (map.remove m n) k ≡ None
    far k high = at (cases_eq k n)
      where
        at : (k ≡ n) ⊎ (k ≢ n) → map.get (map.remove m n) k ≡ None
        at (inl e) = number_gone m n k e
        at (inr ne) = number_gone_other m n k ne ∙ none k (omega arith)

    by : ((x : Files) → AreNumbers x → ((k : ℕ) → n ≤ k → map.get x k ≡ None) → map.len (by_name x kept) ≡ map.len x)
        → (o : Option (List ℕ)) → map.get m n ≡ o → map.len (by_name m kept) ≡ map.len m
    by fewer None is = fewer m a (λ k high. at k high (cases_eq k n))
      where
        at : (k : ℕ) → n ≤ k → (k ≡ n) ⊎ (k ≢ n) → map.get m k ≡ None
        at k high (inl e) = ap (λ q. map.get m q) e ∙ is
        at k high (inr ne) = none k (omega arith)
    by fewer (Some name) is =
        let rest = map.remove m n in
        let gone : IsAbsent rest name = λ g there. (stays m a n name is g name there).0 (a.once g n name (stays m a n name is g name there).1 is) in
        let without : map.get (by_name rest kept) name ≡ None = by_name_none rest (numbers_gone m a n name is) kept name gone in
        ap (λ (x : Files). map.len (by_name x kept)) (put_back m n name is)
        ∙ (ap map.len (by_name_put rest (numbers_gone m a n name is) n name (a.below n name is) (number_gone m n n refl) gone kept kept (λ g ne. refl))
        ∙ (map.len-insert name_total (by_name rest kept) name (kept n)
        ∙ (ap (λ o. cond (is_some o) (map.len (by_name rest kept)) (map.len (by_name rest kept) + 1)) without
        ∙ (ap (λ k. k + 1) (fewer rest (numbers_gone m a n name is) far) ∙ sym (len_with m n name is)))))

pub by_name_len : {V : Type 0} (kept : ℕ → V) (m : Files) → AreNumbers m → map.len (by_name m kept) ≡ map.len m
by_name_len kept m a = len_below kept MOST_FILES m a (λ k high. none k high (map.get m k) refl)
  where
    none : (k : ℕ) → MOST_FILES ≤ k → (o : Option (List ℕ)) → map.get m k ≡ o → map.get m k ≡ None
    none k high None is = is
    none k high (Some name) is = absurd (omega (arith, high, a.below k name is))
