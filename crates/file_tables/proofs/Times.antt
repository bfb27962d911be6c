-- How often files are named, by name as by number.
use Rattle.std.proofs.Common.{◌≡◌, ◌≢◌, ℕ, zero, suc, ◌+◌, ◌≤◌, ◌==◌, true, false, cond, List, [], ◌∷◌, Option, Some, None, refl, sym, ◌∙◌, ap, arith, rules, ◌⊎◌, inl, inr}
use Rattle.std.specs.Option.{option_map}
use Rattle.std.specs.Ordering.{eq_by_cmp, nat_cmp}
use Rattle.std.proofs.lemmas.Bool.{cases_eq}
use Rattle.std.proofs.lemmas.List.Sums.{sum_by-cons}
use Rattle.std.specs.FinMap as map
use Rattle.number_map.proofs.Keys.{same, get_gone, get_gone_other}
use Rattle.machine_names.specs.Orders.{name_cmp}
use Rattle.plain_files.specs.declared.jfn.Jfn.{Jfn}
use Rattle.plain_files.specs.declared.bounds.TheConstants.{MOST_JFNS}
use Rattle.plain_files.specs.Directory.{Files}
use Rattle.plain_files.specs.JobFiles.{Held, names_in}
use Rattle.plain_files.specs.Jobs.{jfns_of, names_in_all}
use Rattle.plain_files.specs.NamedFiles.{AreNumbers, IsHeld, jobs_named, name_of, open_file, open_named}
use Rattle.plain_files.specs.OpenFiles.{OpenFile, is_for, times_open, times_open_in_all}
use Rattle.jfn_table.proofs.Changes.{names_gone, names_none}
use Rattle.jfn_table.proofs.Entries.{passing_gone, passing_most}
use Rattle.machine_names.proofs.Keys.{parts, ties}
use Rattle.file_tables.proofs.Names.{name_apart, name_total, named, one_value}
use Rattle.file_tables.proofs.Opened.{open_get, open_gone, open_none}

same_number : (a b : ℕ) → a ≡ b → (a == b) ≡ true
same_number a b e = grind (arith, rules)

other_number : (a b : ℕ) → a ≢ b → (a == b) ≡ false
other_number a b ne = grind (arith, rules)

module _ (m : Files) (a : AreNumbers m) (f : ℕ) (name : List ℕ) (is : map.get m f ≡ Some name) where
  -- a JFN is for the file of a name where it is for the number
  alike_for : (jfn : Jfn) → map.contains_key m jfn.file.0 ≡ true → is_for name (open_file m jfn) ≡ (jfn.file.0 == f)
  alike_for jfn there = by (cases_eq jfn.file.0 f)
    where
      other : List ℕ
      other = name_of m jfn.file.0

      by : (jfn.file.0 ≡ f) ⊎ (jfn.file.0 ≢ f) → eq_by_cmp name_cmp other name ≡ (jfn.file.0 == f)
      by (inl e) =
          ties name_total name_apart other name (one_value (map.get m f) other name (ap (λ k. map.get m k) (sym e) ∙ named m jfn.file.0 there) is)
          ∙ sym (same_number jfn.file.0 f e)
      by (inr ne) =
          parts name_total name_apart other name (λ e. ne (a.once jfn.file.0 f name (named m jfn.file.0 there ∙ ap (λ x. Some x) e) is))
          ∙ sym (other_number jfn.file.0 f ne)

  times_none : times_open (open_named m map.empty) name ≡ names_in map.empty f
  unfolding times_open
  times_none =
      omega (arith, ap (λ h. times_open h name) (open_none m), passing_most (is_for name) map.empty, map.len-empty nat_cmp OpenFile, names_none f)

  times_gone : (held : Held) (n : ℕ) (jfn : Jfn) → map.get held n ≡ Some jfn → map.contains_key m jfn.file.0 ≡ true
      → times_open (open_named m (map.remove held n)) name ≡ names_in (map.remove held n) f → times_open (open_named m held) name ≡ names_in held f
  unfolding times_open
  times_gone held n jfn held_is there rest =
      passing_gone (is_for name) (open_named m held) n (open_file m jfn) (open_get m held n ∙ ap (option_map (open_file m)) held_is)
      ∙ ((λ i. times_open (sym (open_gone m held n) i) name + cond (alike_for jfn there i) 1 0)
      ∙ (ap (λ k. k + cond (jfn.file.0 == f) 1 0) rest ∙ sym (names_gone held n jfn f held_is)))

  times_below : (n : ℕ) (held : Held) → ((k : ℕ) → n ≤ k → map.get held k ≡ None) → ((k : ℕ) (jfn : Jfn) → map.get held k ≡ Some jfn → map.contains_key m jfn.file.0 ≡ true)
      → times_open (open_named m held) name ≡ names_in held f
  times_below zero held bound there =
      let empty : held ≡ map.empty = same held map.empty (λ q. bound q (omega arith) ∙ sym (map.get-empty nat_cmp q)) in
      ap (λ (h : Held). times_open (open_named m h) name) empty ∙ (times_none ∙ sym (ap (λ (h : Held). names_in h f) empty))
  times_below (suc n) held bound there = by (λ h. times_below n h) (map.get held n) refl
    where
      short : (k : ℕ) → n ≤ k → (k ≡ n) ⊎ (k ≢ n) → map.get (map.remove held n) k ≡ None
      short k high (inl e) = get_gone held n k e
      short k high (inr ne) = get_gone_other held n k ne ∙ bound k (omega arith)

      still : (k : ℕ) (jfn : Jfn) → (k ≡ n) ⊎ (k ≢ n) → map.get (map.remove held n) k ≡ Some jfn → map.contains_key m jfn.file.0 ≡ true
      still k jfn (inl e) held_is = absurd (cc (sym (get_gone held n k e) ∙ held_is))
      still k jfn (inr ne) held_is = there k jfn (sym (get_gone_other held n k ne) ∙ held_is)

      by : ((h : Held) → ((k : ℕ) → n ≤ k → map.get h k ≡ None) → ((k : ℕ) (jfn : Jfn) → map.get h k ≡ Some jfn → map.contains_key m jfn.file.0 ≡ true)
          → times_open (open_named m h) name ≡ names_in h f) → (o : Option Jfn) → map.get held n ≡ o → times_open (open_named m held) name ≡ names_in held f
      by fewer None none = fewer held (λ k high. at k high (cases_eq k n)) there
        where
          at : (k : ℕ) → n ≤ k → (k ≡ n) ⊎ (k ≢ n) → map.get held k ≡ None
          at k high (inl e) = ap (λ q. map.get held q) e ∙ none
          at k high (inr ne) = bound k (omega arith)
      by fewer (Some jfn) held_is =
          times_gone held n jfn held_is (there n jfn held_is)
          (fewer (map.remove held n) (λ k high. short k high (cases_eq k n)) (λ k j. still k j (cases_eq k n)))

  pub times_held : (held : Held) → ((k : ℕ) (jfn : Jfn) → map.get held k ≡ Some jfn → IsHeld m k jfn) → times_open (open_named m held) name ≡ names_in held f
  times_held held holds = times_below (MOST_JFNS + 1) held (λ k high. none k high (map.get held k) refl) (λ k jfn there. (holds k jfn there).there)
    where
      none : (k : ℕ) → MOST_JFNS + 1 ≤ k → (o : Option Jfn) → map.get held k ≡ o → map.get held k ≡ None
      none k high None there = there
      none k high (Some jfn) there = absurd (omega (arith, high, (holds k jfn there).high))

  pub times_in_all : (jobs : List Held) → ((t k : ℕ) (jfn : Jfn) → map.get (jfns_of jobs t) k ≡ Some jfn → IsHeld m k jfn)
      → times_open_in_all (jobs_named m jobs) name ≡ names_in_all jobs f
  times_in_all [] holds = refl
  times_in_all (held ∷ jobs) holds =
      sum_by-cons (λ h. times_open h name) (open_named m held) (jobs_named m jobs)
      ∙ ((λ i. times_held held (holds 0) i + times_in_all jobs (λ t. holds (suc t)) i) ∙ sym (sum_by-cons (λ h. names_in h f) held jobs))
