-- JFNs of jobs by the names of their files.
use Rattle.std.proofs.Common.{◌≡◌, ◌≢◌, ℕ, suc, List, [], ◌∷◌, map as each, get_or, Option, Some, None, refl, sym, ◌∙◌, ap, subst, ◌⊎◌, inl, inr}
use Rattle.std.specs.Prelude.{IsSome, slice_set}
use Rattle.std.specs.Option.{option_map, unwrap_or}
use Rattle.std.specs.Ordering.{nat_cmp}
use Rattle.std.specs.Cmp.{nat_cmp_total}
use Rattle.std.proofs.lemmas.Bool.{cases_eq}
use Rattle.std.proofs.lemmas.List.{map-set}
use Rattle.std.proofs.Math.ListN.{get_or-map}
use Rattle.std.specs.FinMap as map
use Rattle.std.specs.FinMap.{nat_cmp-IsAntisymmetric}
use Rattle.number_map.specs.Numbers.{AreTaken, IsLeastFree}
use Rattle.number_map.proofs.Keys.{same, get_gone, get_gone_other, get_put, get_put_other}
use Rattle.plain_files.specs.declared.jfn.Jfn.{Jfn}
use Rattle.plain_files.specs.Directory.{Files}
use Rattle.plain_files.specs.JobFiles.{Held}
use Rattle.plain_files.specs.Jobs.{jfns_of}
use Rattle.plain_files.specs.NamedFiles.{jobs_named, open_file, open_named}
use Rattle.plain_files.specs.OpenFiles.{OpenFile, OpenFiles, open_at}
use Rattle.file_tables.proofs.Rekeyed.{rekeyed_at}

module _ (m : Files) where
  pub open_get : (held : Held) (n : ℕ) → map.get (open_named m held) n ≡ option_map (open_file m) (map.get held n)
  unfolding open_named
  open_get held n = rekeyed_at nat_cmp_total nat_cmp-IsAntisymmetric nat_cmp_total (λ k jfn. k) (λ k jfn. open_file m jfn) n held n (λ e there. refl)

  pub open_put : (held : Held) (n : ℕ) (jfn : Jfn) → open_named m (map.insert held n jfn) ≡ map.insert (open_named m held) n (open_file m jfn)
  open_put held n jfn = same (open_named m (map.insert held n jfn)) (map.insert (open_named m held) n (open_file m jfn)) (λ q. at q (cases_eq q n))
    where
      at : (q : ℕ) → (q ≡ n) ⊎ (q ≢ n) → map.get (open_named m (map.insert held n jfn)) q ≡ map.get (map.insert (open_named m held) n (open_file m jfn)) q
      at q (inl e) =
          open_get (map.insert held n jfn) q ∙ (ap (option_map (open_file m)) (get_put held n q jfn e)
          ∙ sym (get_put (open_named m held) n q (open_file m jfn) e))
      at q (inr ne) =
          open_get (map.insert held n jfn) q ∙ (ap (option_map (open_file m)) (get_put_other held n q jfn ne)
          ∙ sym (get_put_other (open_named m held) n q (open_file m jfn) ne ∙ open_get held q))

  pub open_gone : (held : Held) (n : ℕ) → open_named m (map.remove held n) ≡ map.remove (open_named m held) n
  open_gone held n = same (open_named m (map.remove held n)) (map.remove (open_named m held) n) (λ q. at q (cases_eq q n))
    where
      at : (q : ℕ) → (q ≡ n) ⊎ (q ≢ n) → map.get (open_named m (map.remove held n)) q ≡ map.get (map.remove (open_named m held) n) q
      at q (inl e) =
          open_get (map.remove held n) q ∙ (ap (option_map (open_file m)) (get_gone held n q e) ∙ sym (get_gone (open_named m held) n q e))
      at q (inr ne) =
          open_get (map.remove held n) q ∙ (ap (option_map (open_file m)) (get_gone_other held n q ne)
          ∙ sym (get_gone_other (open_named m held) n q ne ∙ open_get held q))

  pub open_none : open_named m map.empty ≡ map.empty
  open_none = same (open_named m map.empty) map.empty (λ q. open_get map.empty q
      ∙ (ap (option_map (open_file m)) (map.get-empty {X = Jfn} nat_cmp q) ∙ sym (map.get-empty {X = OpenFile} nat_cmp q)))

  -- a number is free, or taken, by name as by number
  some_open : (held : Held) (n : ℕ) → IsSome (map.get held n) → IsSome (map.get (open_named m held) n)
  some_open held n there = subst IsSome (sym (open_get held n)) (by (map.get held n) there)
    where
      by : (o : Option Jfn) → IsSome o → IsSome (option_map (open_file m) o)
      by None some = some
      by (Some jfn) some = some

  none_open : (held : Held) (n : ℕ) → map.get held n ≡ None → map.get (open_named m held) n ≡ None
  none_open held n none = open_get held n ∙ ap (option_map (open_file m)) none

  pub none_held : (held : Held) (n : ℕ) → map.get (open_named m held) n ≡ None → map.get held n ≡ None
  none_held held n none = by (map.get held n) refl
    where
      by : (o : Option Jfn) → map.get held n ≡ o → map.get held n ≡ None
      by None is = is
      by (Some jfn) is = absurd (let both : Some (open_file m jfn) ≡ None = sym (open_get held n ∙ ap (option_map (open_file m)) is) ∙ none in cc both)

  pub taken_open : (held : Held) (from to : ℕ) → AreTaken held from to → AreTaken (open_named m held) from to
  taken_open held from to taken k low high = some_open held k (taken k low high)

  pub least_open : (held : Held) (from n : ℕ) → IsLeastFree held from n → IsLeastFree (open_named m held) from n
  least_open held from n least = record { after = least.after; free = none_open held n least.free; taken = taken_open held from n least.taken }

  -- the JFNs of the job at a terminal
  pub open_job : (jobs : List Held) (t : ℕ) → open_at (jobs_named m jobs) t ≡ open_named m (jfns_of jobs t)
  open_job jobs t = ap (λ d. get_or (each (open_named m) jobs) t d) (sym open_none) ∙ get_or-map (open_named m) jobs t map.empty

  pub job_jfn : (jobs : List Held) (t n : ℕ) → map.get (open_at (jobs_named m jobs) t) n ≡ option_map (open_file m) (map.get (jfns_of jobs t) n)
  job_jfn jobs t n = ap (λ (h : OpenFiles). map.get h n) (open_job jobs t) ∙ open_get (jfns_of jobs t) n

  -- other JFNs of the job at a terminal
  pub job_set : (jobs : List Held) (t : ℕ) (held : Held) → jobs_named m (slice_set jobs t held) ≡ slice_set (jobs_named m jobs) t (open_named m held)
  job_set jobs t held = map-set (open_named m) jobs t held

-- a JFN for a file of this name, if it has one
abbrev named : Jfn → Option (List ℕ) → OpenFile
named jfn o = record { file = unwrap_or o []; mode = jfn.mode; at = jfn.at; size = jfn.size }

-- Where a file has the same name under two numberings, a JFN for it stands for the same
module _ (m n : Files) where
  abbrev pub AgreesAt : Jfn → Type 0
  AgreesAt jfn = map.get m jfn.file.0 ≡ map.get n jfn.file.0

  open_same : (held : Held) → ((k : ℕ) (jfn : Jfn) → map.get held k ≡ Some jfn → AgreesAt jfn) → open_named m held ≡ open_named n held
  open_same held agree = same (open_named m held) (open_named n held) (λ q. open_get m held q ∙ (at q (map.get held q) refl ∙ sym (open_get n held q)))
    where
      at : (q : ℕ) (o : Option Jfn) → map.get held q ≡ o → option_map (open_file m) (map.get held q) ≡ option_map (open_file n) (map.get held q)
      at q None is = ap (option_map (open_file m)) is ∙ sym (ap (option_map (open_file n)) is)
      at q (Some jfn) is =
          ap (option_map (open_file m)) is
          ∙ (ap (λ (o : Option (List ℕ)). Some (named jfn o)) (agree q jfn is) ∙ sym (ap (option_map (open_file n)) is))

  pub jobs_same : (jobs : List Held) → ((t k : ℕ) (jfn : Jfn) → map.get (jfns_of jobs t) k ≡ Some jfn → AgreesAt jfn) → jobs_named m jobs ≡ jobs_named n jobs
  jobs_same [] agree = refl
  jobs_same (held ∷ jobs) agree = λ i. open_same held (agree 0) i ∷ jobs_same jobs (λ t. agree (suc t)) i
