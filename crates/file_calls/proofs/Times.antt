-- How many JFNs of all jobs stand for a file.
use Rattle.std.proofs.Common.{◌≡◌, ◌≢◌, ℕ, zero, suc, ◌+◌, ◌<◌, ◌≤◌, cond, List, [], ◌∷◌, map as each, length, take, Option, Some, None, refl, sym, ◌∙◌, ap, arith, ◌⊎◌, inl, inr}
use Rattle.std.specs.Option.{option_map, option_map_or}
use Rattle.std.specs.List.{sum_by}
use Rattle.std.specs.Ordering.{nat_cmp, is_eq}
use Rattle.std.specs.Cmp.{nat_cmp_total}
use Rattle.std.specs.declared.cmp.Ordering.TheVariants.{Less, Equal, Greater}
use Rattle.std.proofs.lemmas.Bool.{cases_eq}
use Rattle.std.proofs.lemmas.List.{get_or_past, take_all}
use Rattle.std.proofs.lemmas.List.Sums.{sum_by-cons, sum_by_more}
use Rattle.std.specs.FinMap as map
use Rattle.std.specs.FinMap.{find, put, nat_cmp-IsAntisymmetric}
use Rattle.std.specs.FinMap.Entries.{by_order}
use Rattle.number_map.proofs.Keys.{get_gone, get_gone_other}
use Rattle.number_map.proofs.Places.{put_back}
use Rattle.plain_files.specs.OpenFiles.{OpenFile, OpenFiles, is_for, open_at, times_open, times_open_in_all}
use Rattle.plain_model.specs.State.{PlainJob}
use Rattle.plain_model.specs.FileCalls.{Jobs, times_held}
use Rattle.jfn_table.proofs.Entries.{passing_most}
use Rattle.file_tables.proofs.Rekeyed.{Each, each_there}
use Rattle.file_calls.specs.Jobs.{AreHeld, holding, jobs_holding}
use Rattle.file_calls.proofs.Holding.{named}

-- a sum over the values of a map
module _ (weight : PlainJob → ℕ) where
  summed : List (ℕ × PlainJob) → ℕ
  summed es = sum_by weight (each (λ e. e.1) es)

  summed_cons : (e : ℕ × PlainJob) (es : List (ℕ × PlainJob)) → summed (e ∷ es) ≡ weight e.1 + summed es
  unfolding summed
  summed_cons e es = sum_by-cons weight e.1 (each (λ (x : ℕ × PlainJob). x.1) es)

  summed_put : (n : ℕ) (v : PlainJob) (es : List (ℕ × PlainJob)) → find nat_cmp n es ≡ None → summed (put nat_cmp n v es) ≡ summed es + weight v
  summed_put n v [] none = summed_cons (n, v) [] ∙ omega arith
  summed_put n v (e ∷ es) none =
      elim (nat_cmp n e.0) as (λ r. nat_cmp n e.0 ≡ r → cond (is_eq r) (Some e.1) (find nat_cmp n es) ≡ None
      → summed (by_order r ((n, v) ∷ e ∷ es) ((e.0, v) ∷ es) (e ∷ put nat_cmp n v es)) ≡ summed (e ∷ es) + weight v) [
        | Less ↦ λ is no. omega (arith, summed_cons (n, v) (e ∷ es))
        | Equal ↦ λ is no. absurd (cc no)
        | Greater ↦ λ is no. omega (arith, summed_cons e (put nat_cmp n v es), summed_cons e es, summed_put n v es no)
      ] refl none

  abbrev in_all : Jobs → ℕ
  in_all m = summed (map.entries m)

  -- one job fewer
  gone : (m : Jobs) (n : ℕ) (v : PlainJob) → map.get m n ≡ Some v → in_all m ≡ in_all (map.remove m n) + weight v
  gone m n v there =
      ap in_all (put_back m n v there) ∙ ap summed (map.entries-insert nat_cmp_total (map.remove m n) n v)
      ∙ summed_put n v (map.entries (map.remove m n)) (sym (map.get-entries (map.remove m n) n) ∙ get_gone m n n refl)

  light : (P : ℕ × PlainJob → Type 0) → ((e : ℕ × PlainJob) → P e → weight e.1 ≡ 0) → (es : List (ℕ × PlainJob)) → Each P es → summed es ≡ 0
  unfolding summed
  light P none [] h = refl
  light P none (e ∷ es) h = omega (arith, summed_cons e es, none e h.0, light P none es h.1)

module _ (name : List ℕ) where
  abbrev times : PlainJob → ℕ
  times j = times_open j.jfns name

  none_open : times_open map.empty name ≡ 0
  unfolding times_open
  none_open = omega (arith, passing_most (is_for name) map.empty, map.len-empty nat_cmp OpenFile)

  abbrev jfns_in : Jobs → ℕ → OpenFiles
  jfns_in m t = option_map_or (λ (j : PlainJob). j.jfns) (map.get m t) map.empty

  job_times : (m : Jobs) (t : ℕ) (j : PlainJob) → map.get m t ≡ Some j → times j ≡ times_open (jfns_in m t) name
  job_times m t j there = ap (λ (o : Option PlainJob). times_open (option_map_or (λ (k : PlainJob). k.jfns) o map.empty) name) (sym there)

  module _ (opens : List OpenFiles) where
    -- the first terminals have these JFNs, and the others none
    record AreFirst (n : ℕ) (m : Jobs) : Type 0 where
      these : (t : ℕ) → t < n → jfns_in m t ≡ open_at opens t
      others : (t : ℕ) → n ≤ t → jfns_in m t ≡ map.empty

    first_sum : (n : ℕ) (m : Jobs) → n ≤ length opens → AreFirst n m → in_all times m ≡ sum_by (λ h. times_open h name) (take n opens)
    first_sum zero m less first =
        light times (λ e. map.get m e.0 ≡ Some e.1) (λ e there. job_times m e.0 e.1 there ∙ ap (λ h. times_open h name) (first.others e.0 (omega arith)) ∙ none_open) (map.entries m)
        (each_there nat_cmp_total nat_cmp-IsAntisymmetric m)
    first_sum (suc n) m less first = by (map.get m n) refl (λ k one_less f. first_sum n k one_less f)
      where
        here : jfns_in m n ≡ open_at opens n
        here = first.these n (omega arith)

        more : sum_by (λ h. times_open h name) (take (suc n) opens) ≡ sum_by (λ h. times_open h name) (take n opens) + times_open (open_at opens n) name
        more = ap (λ (k : ℕ). sum_by (λ h. times_open h name) (take k opens)) (let next : suc n ≡ n + 1 = omega arith in next) ∙ sum_by_more (λ h. times_open h name) opens n map.empty (omega (arith, less))

        by : (o : Option PlainJob) → map.get m n ≡ o → ((k : Jobs) → n ≤ length opens → AreFirst n k → in_all times k ≡ sum_by (λ h. times_open h name) (take n opens)) → in_all times m ≡ sum_by (λ h. times_open h name) (take (suc n) opens)
        by None is before =
            let nothing : jfns_in m n ≡ map.empty = ap (λ (o : Option PlainJob). option_map_or (λ (j : PlainJob). j.jfns) o map.empty) is in
            let none : times_open (open_at opens n) name ≡ 0 = ap (λ h. times_open h name) (sym here ∙ nothing) ∙ none_open in
            let rest : AreFirst n m = record {
              these = λ t low. first.these t (omega (arith, low));
              others = λ t high. at t high (cases_eq t n) nothing;
            } in
            omega (arith, before m (omega (arith, less)) rest, more, none)
          where
            at : (t : ℕ) → n ≤ t → (t ≡ n) ⊎ (t ≢ n) → jfns_in m n ≡ map.empty → jfns_in m t ≡ map.empty
            at t high (inl e) nothing = ap (jfns_in m) e ∙ nothing
            at t high (inr ne) nothing = first.others t (omega (arith, high, ne))
        by (Some j) is before =
            let one : times j ≡ times_open (open_at opens n) name = job_times m n j is ∙ ap (λ h. times_open h name) here in
            omega (arith, gone times m n j is, before (map.remove m n) (omega (arith, less)) rest, more, one)
          where
            same : (t : ℕ) → t ≢ n → jfns_in (map.remove m n) t ≡ jfns_in m t
            same t ne = ap (λ (o : Option PlainJob). option_map_or (λ (k : PlainJob). k.jfns) o map.empty) (get_gone_other m n t ne)

            at : (t : ℕ) → n ≤ t → (t ≡ n) ⊎ (t ≢ n) → jfns_in (map.remove m n) t ≡ map.empty
            at t high (inl e) = ap (λ (o : Option PlainJob). option_map_or (λ (k : PlainJob). k.jfns) o map.empty) (get_gone m n t e)
            at t high (inr ne) = same t ne ∙ first.others t (omega (arith, high, ne))

            rest : AreFirst n (map.remove m n)
            rest = record {
              these = λ t low. same t (λ e. absurd (omega (arith, low, e))) ∙ first.these t (omega (arith, low));
              others = λ t high. at t high (cases_eq t n);
            }

  pub times_are : (jobs : Jobs) (opens : List OpenFiles) → AreHeld jobs opens → times_held (jobs_holding jobs opens) name ≡ times_open_in_all opens name
  unfolding times_held summed
  times_are jobs opens held =
      first_sum opens (length opens) (jobs_holding jobs opens) (omega arith) (record { these = λ t low. is t; others = λ t high. is t ∙ get_or_past opens t map.empty high })
      ∙ ap (λ (hs : List OpenFiles). sum_by (λ h. times_open h name) hs) (take_all (length opens) opens (omega arith))
    where
      is : (t : ℕ) → jfns_in (jobs_holding jobs opens) t ≡ open_at opens t
      is t = ap (λ (o : Option PlainJob). option_map_or (λ (j : PlainJob). j.jfns) o map.empty) (named jobs opens t) ∙ by (map.get jobs t) refl
        where
          by : (o : Option PlainJob) → map.get jobs t ≡ o → option_map_or (λ (j : PlainJob). j.jfns) (option_map (holding opens t) o) map.empty ≡ open_at opens t
          by None none = sym (held t none)
          by (Some j) there = refl
