-- What a change of one file makes of the files by name, and of the JFNs.
use Rattle.std.proofs.Common.{◌≡◌, ◌≢◌, ℕ, ◌<◌, true, false, List, Some, None, sym, ◌∙◌, ap, arith, get_or-set_same, get_or-set_other}
use Rattle.std.specs.Prelude.{is_some, slice_set}
use Rattle.std.specs.FinMap as map
use Rattle.number_map.proofs.Keys.{get_gone_other, get_put_other}
use Rattle.plain_files.specs.declared.jfn.Jfn.{Jfn}
use Rattle.machine_names.specs.declared.names.TheConstants.{MOST_FILES}
use Rattle.plain_files.specs.Sizes.{PlainFile, file_at, new_file}
use Rattle.plain_files.specs.Directory.{Files, IsAbsent}
use Rattle.plain_files.specs.JobFiles.{Held}
use Rattle.plain_files.specs.Jobs.{names_in_all}
use Rattle.plain_files.specs.NamedFiles.{AreTables, files_named, jobs_named}
use Rattle.file_tables.proofs.Kept.{nobody_holds}
use Rattle.file_tables.proofs.Names.{by_name_gone, by_name_put, by_name_set}
use Rattle.file_tables.proofs.Opened.{jobs_same}

module _ (m : Files) (files : List PlainFile) (jobs : List Held) (is : AreTables m files jobs) (f : ℕ) (name : List ℕ) where
  other_file : (file : PlainFile) (g : ℕ) → g ≢ f → file_at (slice_set files f file) g ≡ file_at files g
  other_file file g ne = get_or-set_other files f g file new_file ne

  this_file : (file : PlainFile) → f < MOST_FILES → file_at (slice_set files f file) f ≡ file
  this_file file below = get_or-set_same files f file new_file (omega (arith, below, is.size))

  pub sized_files : (file : PlainFile) → map.get m f ≡ Some name → files_named m (slice_set files f file) ≡ map.insert (files_named m files) name file
  sized_files file there =
      by_name_set m is.numbers f name there (file_at (slice_set files f file)) (file_at files) (other_file file)
      ∙ ap (map.insert (files_named m files) name) (this_file file (is.numbers.below f name there))

  pub gone_files : map.get m f ≡ Some name → files_named (map.remove m f) files ≡ map.remove (files_named m files) name
  gone_files there = by_name_gone m is.numbers f name there (file_at files)

  pub gone_jobs : names_in_all jobs f ≡ 0 → jobs_named (map.remove m f) jobs ≡ jobs_named m jobs
  gone_jobs none = jobs_same (map.remove m f) m jobs (λ t k jfn held. get_gone_other m f jfn.file.0 (nobody_holds jobs f none t k jfn held))

  pub made_files : f < MOST_FILES → map.get m f ≡ None → IsAbsent m name
      → files_named (map.insert m f name) (slice_set files f new_file) ≡ map.insert (files_named m files) name new_file
  made_files below free absent =
      by_name_put m is.numbers f name below free absent (file_at (slice_set files f new_file)) (file_at files) (other_file new_file)
      ∙ ap (map.insert (files_named m files) name) (this_file new_file below)

  pub made_jobs : map.get m f ≡ None → jobs_named (map.insert m f name) jobs ≡ jobs_named m jobs
  made_jobs free = jobs_same (map.insert m f name) m jobs (λ t k jfn held. get_put_other m f jfn.file.0 name (other jfn (is.held t k jfn held).there))
    where
      other : (jfn : Jfn) → map.contains_key m jfn.file.0 ≡ true → jfn.file.0 ≢ f
      other jfn there e = absurd (let not_there : false ≡ true = sym (ap is_some (ap (λ k. map.get m k) e ∙ free)) ∙ there in cc not_there)
