-- Jobs, looked up in a machine's plain state.
use Rattle.std.proofs.Common.{◌≡◌, ◌⊎◌, ℕ, ◌<◌, List, length, set, true, cond, Option, None, Some, inl, inr, refl, sym, ◌∙◌, ap, arith, get_or-set_same, get_or-set_other}
use Rattle.std.proofs.lemmas.Bool.{cases_eq}
use Rattle.std.proofs.lemmas.List.{set-get_or}
use Rattle.number_map.proofs.Keys.{get_put, get_put_other}
use Rattle.std.specs.declared.cmp.Ordering.{Ordering}
use Rattle.std.specs.Ordering.{nat_cmp, eq_by_cmp, is_eq}
use Rattle.std.specs.Cmp.{IsTotalOrder, nat_cmp_total}
use Rattle.std.proofs.lemmas.Cmp.{tied_itself}
use Rattle.std.specs.FinMap as fin
use Rattle.plain_files.specs.OpenFiles.{OpenFiles, open_at}
use Rattle.plain_model.specs.State.{PlainJob}
use Rattle.monitor_calls.specs.declared.job.Job.{Job}
use Rattle.monitor_calls.specs.declared.typing.Typing.{Typing}
use Rattle.monitor_calls.specs.Jobs.{jobs_of, job_at, plain_job}
use Rattle.monitor_calls.specs.Typings.{new_typing, typing_at}
use Rattle.monitor_calls.proofs.MapFrom.{Ranked, with_key, found, map_from_set}

jobs_ranked : (js : List (Option Job)) → Ranked (λ (t : ℕ) (j : Job). t) (λ q. q) 0 js
jobs_ranked js i x e = refl

alike : {K : Type 0} {R : K → K → Ordering} → IsTotalOrder R → (x : K) → eq_by_cmp R x x ≡ true
alike o x = ap is_eq (tied_itself o x)

module _ (held : List OpenFiles) (typed : List Typing) where
  abbrev told_job : ℕ → Job → PlainJob
  told_job u k = plain_job (open_at held u) (typing_at typed u) k

  pub job_found : (js : List (Option Job)) (t : ℕ) (j : Job) → job_at js t ≡ Some j → fin.get (jobs_of held typed js) t ≡ Some (told_job t j)
  job_found js t j at =
      found nat_cmp_total fin.nat_cmp-IsAntisymmetric (λ (u : ℕ) (k : Job). u) told_job (λ q. q) 0 js t t (jobs_ranked js) (omega arith)
      ∙ ap (λ e. with_key nat_cmp (λ (u : ℕ) (k : Job). u) told_job t t e) at
      ∙ ap (λ b. cond b (Some (told_job t j)) None) (alike nat_cmp_total t)

  pub job_missing : (js : List (Option Job)) (t : ℕ) → job_at js t ≡ None → fin.get (jobs_of held typed js) t ≡ None
  job_missing js t at =
      found nat_cmp_total fin.nat_cmp-IsAntisymmetric (λ (u : ℕ) (k : Job). u) told_job (λ q. q) 0 js t t (jobs_ranked js) (omega arith)
      ∙ ap (λ e. with_key nat_cmp (λ (u : ℕ) (k : Job). u) told_job t t e) at

  -- another job in a terminal's place is another entry of the map
  pub jobs_set : (js : List (Option Job)) (t : ℕ) (j : Job) → t < length js → jobs_of held typed (set js t (Some j)) ≡ fin.insert (jobs_of held typed js) t (told_job t j)
  jobs_set js t j within =
      map_from_set nat_cmp_total fin.nat_cmp-IsAntisymmetric (λ (u : ℕ) (k : Job). u) told_job (λ q. q) js t j (jobs_ranked js) (jobs_ranked (set js t (Some j))) within (λ x e. refl)

-- a job of a terminal is other, and so are its JFNs, and what was typed there
module _ (held now : List OpenFiles) (typed : List Typing) (js : List (Option Job)) (t : ℕ) (y : Typing) (j : Job) (others : (u : ℕ) → (u ≡ t → ⊥) → open_at now u ≡ open_at held u) (within : t < length js) (room : t < length typed) where
  abbrev jobs_now : fin.FinMap nat_cmp PlainJob
  jobs_now = jobs_of now (set typed t y) (set js t (Some j))

  abbrev job_now : PlainJob
  job_now = plain_job (open_at now t) y j

  -- at another terminal nothing is other
  other_job : (u : ℕ) → (u ≡ t → ⊥) → fin.get jobs_now u ≡ fin.get (jobs_of held typed js) u
  other_job u ne = by (job_at js u) refl
    where
      same : job_at (set js t (Some j)) u ≡ job_at js u
      same = get_or-set_other js t u (Some j) None ne

      by : (o : Option Job) → job_at js u ≡ o → fin.get jobs_now u ≡ fin.get (jobs_of held typed js) u
      by None is = job_missing now (set typed t y) (set js t (Some j)) u (same ∙ is) ∙ sym (job_missing held typed js u is)
      by (Some k) is =
          job_found now (set typed t y) (set js t (Some j)) u k (same ∙ is)
          ∙ (λ i. Some (plain_job (others u ne i) (get_or-set_other typed t u y new_typing ne i) k))
          ∙ sym (job_found held typed js u k is)

  this_job : fin.get jobs_now t ≡ Some job_now
  this_job = job_found now (set typed t y) (set js t (Some j)) t j (get_or-set_same js t (Some j) None within) ∙ ap (λ x. Some (plain_job (open_at now t) x j)) (get_or-set_same typed t y new_typing room)

  pub jobs_put : jobs_of now (set typed t y) (set js t (Some j)) ≡ fin.insert (jobs_of held typed js) t (plain_job (open_at now t) y j)
  jobs_put = fin.same_map nat_cmp_total fin.nat_cmp-IsAntisymmetric jobs_now (fin.insert (jobs_of held typed js) t job_now) (λ u. by u (cases_eq u t))
    where
      by : (u : ℕ) → (u ≡ t) ⊎ (u ≡ t → ⊥) → fin.get jobs_now u ≡ fin.get (fin.insert (jobs_of held typed js) t job_now) u
      by u (inl same) = ap (fin.get jobs_now) same ∙ this_job ∙ sym (get_put (jobs_of held typed js) t u job_now same)
      by u (inr ne) = other_job u ne ∙ sym (get_put_other (jobs_of held typed js) t u job_now ne)

  -- the job itself stays
  pub jobs_typed : job_at js t ≡ Some j → jobs_of now (set typed t y) js ≡ fin.insert (jobs_of held typed js) t (plain_job (open_at now t) y j)
  jobs_typed there = ap (jobs_of now (set typed t y)) (sym (ap (set js t) (sym there) ∙ set-get_or js t None)) ∙ jobs_put
