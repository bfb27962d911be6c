-- What a change leaves of what holds of the tables together.
use Rattle.std.proofs.Common.{◌≡◌, ◌≢◌, ℕ, zero, suc, ◌<◌, ◌≤◌, true, List, [], ◌∷◌, set, get_or, Some, None, refl, sym, ◌∙◌, ap, subst, arith, lit≤, get_or-set_same, get_or-set_other, ◌⊎◌, inl, inr}
use Rattle.std.specs.Prelude.{is_some, length, replicate, slice_set}
use Rattle.std.specs.Ordering.{nat_cmp}
use Rattle.std.proofs.lemmas.Bool.{cases_eq, cases_lt}
use Rattle.std.proofs.lemmas.List.{length-set, length-replicate, get_or_past}
use Rattle.std.proofs.lemmas.List.Sums.{sum_by-cons}
use Rattle.std.specs.FinMap as map
use Rattle.number_map.proofs.Keys.{get_gone_other, get_put, get_put_other}
use Rattle.machine_names.specs.declared.names.TheConstants.{TERMINALS}
use Rattle.plain_files.specs.declared.jfn.Jfn.{Jfn}
use Rattle.machine_names.specs.declared.names.TheConstants.{MOST_FILES}
use Rattle.plain_files.specs.Sizes.{FitsFile, PlainFile, file_at, new_file}
use Rattle.plain_files.specs.Directory.{Files, IsAbsent}
use Rattle.plain_files.specs.JobFiles.{Held, names_in}
use Rattle.plain_files.specs.Jobs.{jfns_of, names_in_all, no_jfns}
use Rattle.plain_files.specs.NamedFiles.{AreTables, IsHeld, jobs_named}
use Rattle.jfn_table.proofs.Changes.{names_gone_some, names_none}
use Rattle.file_tables.specs.Tables.{no_jobs}
use Rattle.file_tables.proofs.Opened.{open_none}
use Rattle.file_tables.proofs.Names.{no_numbers, not_both, numbers_gone, numbers_put}

fits_new : FitsFile new_file
fits_new = ((lit≤ tt, lit≤ tt), omega arith)

-- a job names a file no more often than all jobs do
pub one_of_all : (jobs : List Held) (t f : ℕ) → names_in (jfns_of jobs t) f ≤ names_in_all jobs f
one_of_all [] t f = omega (arith, names_none f)
one_of_all (held ∷ jobs) zero f = omega (arith, sum_by-cons (λ h. names_in h f) held jobs)
one_of_all (held ∷ jobs) (suc t) f = omega (arith, sum_by-cons (λ h. names_in h f) held jobs, one_of_all jobs t f)

-- where no job names a file, no JFN stands for it
pub nobody_holds : (jobs : List Held) (f : ℕ) → names_in_all jobs f ≡ 0 → (t n : ℕ) (jfn : Jfn) → map.get (jfns_of jobs t) n ≡ Some jfn → jfn.file.0 ≢ f
nobody_holds jobs f none t n jfn there e = absurd (omega (arith, none, one_of_all jobs t f, names_gone_some (jfns_of jobs t) n jfn there, ap (λ k. names_in (jfns_of jobs t) k) e))

module _ (m : Files) (files : List PlainFile) (jobs : List Held) (is : AreTables m files jobs) where
  fits_set : (f g : ℕ) (file : PlainFile) → FitsFile file → (g ≡ f) ⊎ (g ≢ f) → FitsFile (file_at (slice_set files f file) g)
  fits_set f g file fits (inl e) = by (cases_lt f (length files))
    where
      by : (f < length files) ⊎ (length files ≤ f) → FitsFile (file_at (slice_set files f file) g)
      by (inl inside) = subst FitsFile (sym (ap (λ k. get_or (set files f file) k new_file) e ∙ get_or-set_same files f file new_file inside)) fits
      by (inr beyond) = subst FitsFile (sym (get_or_past (set files f file) g new_file (omega (arith, e, beyond, length-set files f file)))) fits_new
  fits_set f g file fits (inr ne) = subst FitsFile (sym (get_or-set_other files f g file new_file ne)) (is.fit g)

  pub tables_sized : (f : ℕ) (file : PlainFile) → FitsFile file → AreTables m (slice_set files f file) jobs
  tables_sized f file fits = record {
    numbers = is.numbers;
    size = length-set files f file ∙ is.size;
    fit = λ g. fits_set f g file fits (cases_eq g f);
    terminals = is.terminals;
    held = is.held;
  }

  pub tables_made : (f : ℕ) (name : List ℕ) → f < MOST_FILES → map.get m f ≡ None → IsAbsent m name → AreTables (map.insert m f name) (slice_set files f new_file) jobs
  tables_made f name below free absent = record {
    numbers = numbers_put m is.numbers f name below free absent;
    size = length-set files f new_file ∙ is.size;
    fit = λ g. fits_set f g new_file fits_new (cases_eq g f);
    terminals = is.terminals;
    held = λ t n jfn there. let h = is.held t n jfn there in record { low = h.low; high = h.high; there = still jfn h.there (cases_eq jfn.file.0 f); fits = h.fits };
  }
    where
      still : (jfn : Jfn) → map.contains_key m jfn.file.0 ≡ true → (jfn.file.0 ≡ f) ⊎ (jfn.file.0 ≢ f) → map.contains_key (map.insert m f name) jfn.file.0 ≡ true
      still jfn there (inl e) = ap is_some (get_put m f jfn.file.0 name e)
      still jfn there (inr ne) = ap is_some (get_put_other m f jfn.file.0 name ne) ∙ there

  pub tables_gone : (f : ℕ) (name : List ℕ) → map.get m f ≡ Some name → names_in_all jobs f ≡ 0 → AreTables (map.remove m f) files jobs
  tables_gone f name there none = record {
    numbers = numbers_gone m is.numbers f name there;
    size = is.size;
    fit = is.fit;
    terminals = is.terminals;
    held = λ t n jfn held. let h = is.held t n jfn held in record {
      low = h.low;
      high = h.high;
      there = ap is_some (get_gone_other m f jfn.file.0 (nobody_holds jobs f none t n jfn held)) ∙ h.there;
      fits = h.fits;
    };
  }

  pub tables_held : (t : ℕ) (held : Held) → t < TERMINALS → ((n : ℕ) (jfn : Jfn) → map.get held n ≡ Some jfn → IsHeld m n jfn) → AreTables m files (slice_set jobs t held)
  tables_held t held low holds = record {
    numbers = is.numbers;
    size = is.size;
    fit = is.fit;
    terminals = length-set jobs t held ∙ is.terminals;
    held = λ u n jfn there. at u n jfn there (cases_eq u t);
  }
    where
      at : (u n : ℕ) (jfn : Jfn) → map.get (jfns_of (slice_set jobs t held) u) n ≡ Some jfn → (u ≡ t) ⊎ (u ≢ t) → IsHeld m n jfn
      at u n jfn there (inl e) =
          holds n jfn (ap (λ (h : Held). map.get h n) (sym (ap (λ k. get_or (set jobs t held) k map.empty) e ∙ get_or-set_same jobs t held map.empty (omega (arith, low, is.terminals)))) ∙ there)
      at u n jfn there (inr ne) = is.held u n jfn (ap (λ (h : Held). map.get h n) (sym (get_or-set_other jobs t u held map.empty ne)) ∙ there)

-- how the tables begin
pub first_tables : AreTables map.empty (replicate MOST_FILES new_file) no_jfns
unfolding no_jfns
first_tables = record {
  numbers = no_numbers;
  size = length-replicate {A = PlainFile} MOST_FILES new_file;
  fit = λ f. subst FitsFile (sym (all_new MOST_FILES f)) fits_new;
  terminals = length-replicate {A = Held} TERMINALS map.empty;
  held = λ t n jfn there. absurd (not_both (map.get map.empty n) jfn (map.get-empty nat_cmp n) (ap (λ (h : Held). map.get h n) (sym (none_held TERMINALS t)) ∙ there));
}
  where
    all_new : (k f : ℕ) → file_at (replicate k new_file) f ≡ new_file
    all_new zero f = refl
    all_new (suc k) zero = refl
    all_new (suc k) (suc f) = all_new k f

    none_held : (k t : ℕ) → jfns_of (replicate k map.empty) t ≡ map.empty
    none_held zero t = refl
    none_held (suc k) zero = refl
    none_held (suc k) (suc t) = none_held k t

pub no_open_jobs : (m : Files) → jobs_named m no_jfns ≡ no_jobs
unfolding no_jfns no_jobs
no_open_jobs m = none TERMINALS
  where
    none : (k : ℕ) → jobs_named m (replicate k map.empty) ≡ replicate k map.empty
    none zero = refl
    none (suc k) = λ i. open_none m i ∷ none k i
