-- A file is named as often as there are JFNs that stand for it.
use Rattle.std.proofs.Common.{◌≡◌, ◌≢◌, ◌↔◌, ℕ, zero, suc, ◌+◌, ◌<◌, ◌≤◌, true, false, cond, List, [], ◌∷◌, map as each, get_or, Option, Some, None, refl, sym, ◌∙◌, ap, subst, arith, get_or-set_same, get_or-set_other, ◌⊎◌, inl, inr}
use Rattle.std.specs.Prelude.{count_by, length, slice_set}
use Rattle.std.specs.Option.{IsSomeAnd}
use Rattle.std.specs.Ordering.{nat_cmp}
use Rattle.std.specs.Cmp.{nat_cmp_total}
use Rattle.std.proofs.lemmas.Bool.{cases_eq, cases_lt}
use Rattle.std.proofs.lemmas.List.{get_or_past}
use Rattle.std.proofs.lemmas.List.Sums.{sum_by-cons, sum_by-set}
use Rattle.std.specs.FinMap as map
use Rattle.std.specs.FinMap.{nat_cmp-IsAntisymmetric}
use Rattle.number_map.proofs.Keys.{get_gone, get_gone_other}
use Rattle.plain_files.specs.OpenFiles.{IsNamed, IsNamedBesides, Names, OpenFile, OpenFiles, is_for, open_at, times_open, times_open_in_all}
use Rattle.jfn_table.proofs.Entries.{passing_gone}
use Rattle.machine_names.proofs.Keys.{same_key, ties}
use Rattle.file_tables.proofs.Names.{name_apart, name_total}
use Rattle.file_tables.proofs.Rekeyed.{Each, each_there, one_or_none}

module _ (name : List ℕ) where
  counted : List (ℕ × OpenFile) → ℕ
  counted es = count_by (is_for name) (each (λ e. e.1) es)

  counted_none : (P : ℕ × OpenFile → Type 0) (es : List (ℕ × OpenFile)) → Each (λ e. P e × (is_for name e.1 ≡ false)) es → counted es ≡ 0
  unfolding counted
  counted_none P [] none = refl
  counted_none P (e ∷ es) none =
      sum_by-cons (λ j. cond (is_for name j) 1 0) e.1 (each (λ (x : ℕ × OpenFile). x.1) es)
      ∙ (λ i. cond (none.0.1 i) 1 0 + counted_none P es none.1 i)

  -- what the job holds for the file of a name
  one_names : (m : OpenFiles) → 0 < times_open m name → (n : ℕ) × Names m n name
  unfolding times_open counted
  one_names m some = by (one_or_none (λ e. is_for name e.1) (λ e. map.get m e.0 ≡ Some e.1) (map.entries m) (each_there nat_cmp_total nat_cmp-IsAntisymmetric m))
    where
      by : ((e : ℕ × OpenFile) × (map.get m e.0 ≡ Some e.1) × (is_for name e.1 ≡ true)) ⊎ Each (λ e. (map.get m e.0 ≡ Some e.1) × (is_for name e.1 ≡ false)) (map.entries m)
          → (n : ℕ) × Names m n name
      by (inl (e, there, is)) = (e.0, subst (λ o. IsSomeAnd o (λ (j : OpenFile). j.file ≡ name)) (sym there) (same_key name_total name_apart e.1.file name is))
      by (inr none) = absurd (omega (arith, some, counted_none (λ e. map.get m e.0 ≡ Some e.1) (map.entries m) none))

  names_once : (m : OpenFiles) (n : ℕ) → Names m n name → times_open m name ≡ times_open (map.remove m n) name + 1
  unfolding times_open
  names_once m n names = by (map.get m n) refl names
    where
      by : (o : Option OpenFile) → map.get m n ≡ o → IsSomeAnd o (λ (j : OpenFile). j.file ≡ name) → times_open m name ≡ times_open (map.remove m n) name + 1
      by None is h = absurd h
      by (Some j) is h =
          passing_gone (is_for name) m n j is
          ∙ ap (λ b. times_open (map.remove m n) name + cond b 1 0) (ties name_total name_apart j.file name h)

  all_cons : (m : OpenFiles) (jobs : List OpenFiles) → times_open_in_all (m ∷ jobs) name ≡ times_open m name + times_open_in_all jobs name
  all_cons m jobs = sum_by-cons (λ h. times_open h name) m jobs

  some_job : (jobs : List OpenFiles) → 0 < times_open_in_all jobs name → IsNamed jobs name
  some_job [] some = absurd (omega (arith, some))
  some_job (m ∷ jobs) some = by (cases_lt 0 (times_open m name)) (some_job jobs)
    where
      by : (0 < times_open m name) ⊎ (times_open m name ≤ 0) → (0 < times_open_in_all jobs name → IsNamed jobs name) → IsNamed (m ∷ jobs) name
      by (inl here) rest = let there = one_names m here in (0, there.0, there.1)
      by (inr none) rest = let there = rest (omega (arith, some, none, all_cons m jobs)) in (suc there.0, there.1, there.2)

  in_job : (jobs : List OpenFiles) (t n : ℕ) → Names (open_at jobs t) n name → 0 < times_open_in_all jobs name
  in_job [] t n names = absurd (subst (λ o. IsSomeAnd o (λ (j : OpenFile). j.file ≡ name)) (map.get-empty nat_cmp n) names)
  in_job (m ∷ jobs) zero n names = omega (arith, all_cons m jobs, names_once m n names)
  in_job (m ∷ jobs) (suc t) n names = omega (arith, all_cons m jobs, in_job jobs t n names)

  pub named_by_some : (jobs : List OpenFiles) → (0 < times_open_in_all jobs name) ↔ IsNamed jobs name
  named_by_some jobs = (some_job jobs, λ is. in_job jobs is.0 is.1 is.2)

  module _ (jobs : List OpenFiles) (t n : ℕ) (own : Names (open_at jobs t) n name) where
    inside : t < length jobs
    inside = by (cases_lt t (length jobs))
      where
        by : (t < length jobs) ⊎ (length jobs ≤ t) → t < length jobs
        by (inl is) = is
        by (inr past) =
            absurd (subst (λ o. IsSomeAnd o (λ (j : OpenFile). j.file ≡ name)) (ap (λ (m : OpenFiles). map.get m n) (get_or_past jobs t map.empty past) ∙ map.get-empty nat_cmp n) own)

    -- the JFNs of all jobs without this one
    others : List OpenFiles
    others = slice_set jobs t (map.remove (open_at jobs t) n)

    one_more : times_open_in_all jobs name ≡ times_open_in_all others name + 1
    unfolding others
    one_more =
        omega (arith, sum_by-set (λ m. times_open m name) jobs t (map.remove (open_at jobs t) n) map.empty inside, names_once (open_at jobs t) n own)

    there_same : (u k : ℕ) → u ≡ t → map.get (open_at others u) k ≡ map.get (map.remove (open_at jobs t) n) k
    unfolding others
    there_same u k e = ap (λ (m : OpenFiles). map.get m k) (ap (λ x. get_or others x map.empty) e ∙ get_or-set_same jobs t (map.remove (open_at jobs t) n) map.empty inside)

    there_other : (u k : ℕ) → u ≢ t → map.get (open_at others u) k ≡ map.get (open_at jobs u) k
    unfolding others
    there_other u k ne = ap (λ (m : OpenFiles). map.get m k) (get_or-set_other jobs t u (map.remove (open_at jobs t) n) map.empty ne)

    besides : IsNamed others name → IsNamedBesides jobs t n name
    besides (u, k, names) = by (cases_eq u t) (cases_eq k n)
      where
        by : (u ≡ t) ⊎ (u ≢ t) → (k ≡ n) ⊎ (k ≢ n) → IsNamedBesides jobs t n name
        by (inr ne) at = (u, k, inl ne, subst (λ o. IsSomeAnd o (λ (j : OpenFile). j.file ≡ name)) (there_other u k ne) names)
        by (inl e) (inl gone) =
            absurd (subst (λ o. IsSomeAnd o (λ (j : OpenFile). j.file ≡ name)) (there_same u k e ∙ get_gone (open_at jobs t) n k gone) names)
        by (inl e) (inr ne) = (
          u,
          k,
          inr ne,
          subst (λ o. IsSomeAnd o (λ (j : OpenFile). j.file ≡ name))
              (there_same u k e ∙ (get_gone_other (open_at jobs t) n k ne ∙ ap (λ x. map.get (open_at jobs x) k) (sym e))) names,
        )

    without : IsNamedBesides jobs t n name → IsNamed others name
    without (u, k, apart, names) = (u, k, by (cases_eq u t) apart)
      where
        by : (u ≡ t) ⊎ (u ≢ t) → (u ≢ t) ⊎ (k ≢ n) → Names (open_at others u) k name
        by (inr ne) at = subst (λ o. IsSomeAnd o (λ (j : OpenFile). j.file ≡ name)) (sym (there_other u k ne)) names
        by (inl e) (inl ne) = absurd (ne e)
        by (inl e) (inr ne) = subst (λ o. IsSomeAnd o (λ (j : OpenFile). j.file ≡ name))
            (sym (there_same u k e ∙ (get_gone_other (open_at jobs t) n k ne ∙ ap (λ x. map.get (open_at jobs x) k) (sym e)))) names

    pub named_besides : (1 < times_open_in_all jobs name) ↔ IsNamedBesides jobs t n name
    named_besides = (
      λ more. besides (some_job others (omega (arith, more, one_more))),
      λ other. let there = without other in omega (arith, one_more, in_job others there.0 there.1 there.2),
    )
