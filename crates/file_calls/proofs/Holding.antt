-- Jobs with the JFNs that tables have for them.
use Rattle.std.proofs.Common.{◌≡◌, ◌≢◌, ℕ, ◌<◌, List, length, Option, Some, None, refl, sym, ◌∙◌, ap, arith, get_or-set_same, get_or-set_other, ◌⊎◌, inl, inr}
use Rattle.std.specs.Prelude.{slice_set}
use Rattle.std.specs.Option.{option_map, option_map_or}
use Rattle.std.specs.Cmp.{nat_cmp_total}
use Rattle.std.proofs.lemmas.Bool.{cases_eq}
use Rattle.std.proofs.lemmas.List.{length-map}
use Rattle.std.specs.FinMap as map
use Rattle.std.specs.FinMap.{nat_cmp-IsAntisymmetric}
use Rattle.number_map.proofs.Keys.{get_put, get_put_other, same}
use Rattle.machine_names.specs.Bounds.{IsTerminal}
use Rattle.machine_names.specs.declared.names.Tty.{Tty}
use Rattle.plain_files.specs.NamedFiles.{open_named}
use Rattle.plain_files.specs.OpenFiles.{OpenFiles, open_at}
use Rattle.plain_model.specs.State.{PlainJob}
use Rattle.plain_model.specs.FileCalls.{Jobs, held_at, with_held}
use Rattle.file_tables.specs.declared.tables.FileTables.{FileTables}
use Rattle.file_tables.specs.Tables.{Changes, jfns_at, open_of}
use Rattle.file_tables.proofs.Rekeyed.{rekeyed_at}
use Rattle.file_calls.specs.Jobs.{AreHeld, OthersHold, holding, jobs_holding}

pub named : (jobs : Jobs) (opens : List OpenFiles) (t : ℕ) → map.get (jobs_holding jobs opens) t ≡ option_map (holding opens t) (map.get jobs t)
unfolding jobs_holding
named jobs opens t = rekeyed_at nat_cmp_total nat_cmp-IsAntisymmetric nat_cmp_total (λ k j. k) (λ k j. holding opens k j) t jobs t (λ e there. refl)

module _ (jobs : Jobs) (opens : List OpenFiles) where
  pub job_holding : (t : ℕ) → map.get (jobs_holding jobs opens) t ≡ option_map (holding opens t) (map.get jobs t)
  job_holding t = named jobs opens t

  -- the job at a terminal holds the JFNs of the terminal
  pub holds_them : (t : Tty) → AreHeld jobs opens → held_at (jobs_holding jobs opens) t ≡ open_at opens t.0
  holds_them t held = ap (λ (o : Option PlainJob). option_map_or (λ j. j.jfns) o map.empty) (job_holding t.0) ∙ by (map.get jobs t.0) refl
    where
      by : (o : Option PlainJob) → map.get jobs t.0 ≡ o → option_map_or (λ (j : PlainJob). j.jfns) (option_map (holding opens t.0) o) map.empty ≡ open_at opens t.0
      by None is = sym (held t.0 is)
      by (Some j) is = refl

  -- other JFNs of one terminal are other JFNs of its job
  module _ (t : Tty) (there : t.0 < length opens) (change : OpenFiles → OpenFiles) where
    set_at : (k : ℕ) → k ≢ t.0 → open_at (slice_set opens t.0 (change (open_at opens t.0))) k ≡ open_at opens k
    set_at k ne = get_or-set_other opens t.0 k (change (open_at opens t.0)) map.empty ne

    set_here : open_at (slice_set opens t.0 (change (open_at opens t.0))) t.0 ≡ change (open_at opens t.0)
    set_here = get_or-set_same opens t.0 (change (open_at opens t.0)) map.empty there

    abbrev changed : List OpenFiles
    changed = slice_set opens t.0 (change (open_at opens t.0))

    abbrev put_in : Option PlainJob → Jobs
    put_in o = option_map_or (λ j. map.insert (jobs_holding jobs opens) t.0 (record j { jfns = change j.jfns })) o (jobs_holding jobs opens)

    in_job : (o : Option PlainJob) (k : ℕ) → k ≢ t.0 → option_map (holding changed k) o ≡ option_map (holding opens k) o
    in_job o k ne = ap (λ (m : OpenFiles). option_map (λ (j : PlainJob). record j { jfns = m }) o) (set_at k ne)

    other_job : (k : ℕ) → k ≢ t.0 → map.get (jobs_holding jobs changed) k ≡ map.get (jobs_holding jobs opens) k
    other_job k ne = named jobs changed k ∙ (in_job (map.get jobs k) k ne ∙ sym (job_holding k))

    at : (o : Option PlainJob) → map.get jobs t.0 ≡ o → (k : ℕ) → (k ≡ t.0) ⊎ (k ≢ t.0) → map.get (jobs_holding jobs changed) k ≡ map.get (put_in (option_map (holding opens t.0) o)) k
    at None is k (inl e) = named jobs changed k ∙ (none_at (holding changed k) ∙ sym (none_at (holding opens k)) ∙ sym (job_holding k))
      where
        none_at : (f : PlainJob → PlainJob) → option_map f (map.get jobs k) ≡ None
        none_at f = ap (λ q. option_map f (map.get jobs q)) e ∙ ap (option_map f) is
    at None is k (inr ne) = other_job k ne
    at (Some j) is k (inl e) =
        named jobs changed k ∙ ap (λ q. option_map (holding changed q) (map.get jobs q)) e ∙ ap (option_map (holding changed t.0)) is
        ∙ ap (λ (m : OpenFiles). Some (record j { jfns = m })) set_here
        ∙ sym (get_put (jobs_holding jobs opens) t.0 k (record (holding opens t.0 j) { jfns = change (open_at opens t.0) }) e)
    at (Some j) is k (inr ne) = other_job k ne ∙ sym (get_put_other (jobs_holding jobs opens) t.0 k (record (holding opens t.0 j) { jfns = change (open_at opens t.0) }) ne)

    pub other_jfns : jobs_holding jobs changed ≡ with_held (jobs_holding jobs opens) t change
    other_jfns =
        same (jobs_holding jobs changed) (put_in (option_map (holding opens t.0) (map.get jobs t.0))) (λ k. at (map.get jobs t.0) refl k (cases_eq k t.0))
        ∙ ap put_in (sym (job_holding t.0))

-- what a change of one terminal's JFNs leaves
module _ (old new : FileTables) (t : Tty) (terminal : IsTerminal t) (jfns : OpenFiles) (changes : Changes old new t.0 jfns) where
  within : t.0 < length (open_of old)
  within = omega (arith, terminal, old.sound.terminals, length-map old.jobs (open_named old.dir))

  pub others_hold : OthersHold t old new
  others_hold u ne = ap (λ opens. open_at opens u) changes ∙ get_or-set_other (open_of old) t.0 u jfns map.empty ne

  pub jobs_changed : (jobs : Jobs) (change : OpenFiles → OpenFiles) → jfns ≡ change (jfns_at old t.0) → jobs_holding jobs (open_of new) ≡ with_held (jobs_holding jobs (open_of old)) t change
  jobs_changed jobs change is = ap (jobs_holding jobs) (changes ∙ ap (slice_set (open_of old) t.0) is) ∙ other_jfns jobs (open_of old) t within change
