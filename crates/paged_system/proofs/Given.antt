-- What is given over each drum over which it can be given; and that a terminal's job is in the plain state.
use Rattle.std.proofs.Common.{◌≡◌, ℕ, List, [], Option, None, Some, refl, sym, ◌∙◌, ap}
use Rattle.std.specs.Prelude.{Result, Ok, Err, OnErr, OnOk, is_some}
use Rattle.std.specs.FinMap as fin
use Rattle.file_tables.specs.Tables.{open_of}
use Rattle.event_items.specs.Giving.{TookOver}
use Rattle.monitor_calls.proofs.Lookups.{job_found, job_missing}
use Rattle.monitor_calls.specs.declared.job.Job.{Job}
use Rattle.monitor_calls.specs.Jobs.{job_at}
use Rattle.monitor_core.specs.declared.system.System.{System}
use Rattle.monitor_core.specs.Systems.{state_of}
use Rattle.page_contracts.specs.DrumWords.{DrumWords}
use Rattle.script_texts.specs.declared.event.Item.{Item}
use Rattle.script_texts.specs.declared.event.Step.{Step}
use Rattle.script_texts.specs.Taker.{GoesOn, IsCut}

-- what is told of a result over each of many is told of it over all of them
pub ok_all : {X E A : Type 0} (Q : A → Type 0) (r : Result X E) → ((a : A) → OnOk r (Q a)) → OnOk r ((a : A) → Q a)
ok_all Q (Ok x) each = each
ok_all Q (Err e) each = tt

pub err_all : {X E A : Type 0} (Q : A → Type 0) (r : Result X E) → ((a : A) → OnErr r (Q a)) → OnErr r ((a : A) → Q a)
err_all Q (Ok x) each = tt
err_all Q (Err e) each = each

-- where two facts are premises
module _ {T X E : Type 0} (fits gives : DrumWords → Type 0) (faults : T → ℕ) (onward : T → T → Type 0) (stands cut : T → T → List Item → List Step → Type 0) (old new : T) (r : Result X E) (items : DrumWords → List Item) (steps : List Step)
    (took : TookOver (λ d. fits d × gives d) faults onward stands cut old new r items steps) where
  pub given_ok : OnOk r ((d : DrumWords) → fits d → gives d → GoesOn stands old new (items d) steps)
  given_ok =
      ok_all (λ d. fits d → gives d → GoesOn stands old new (items d) steps) r
      (λ d. ok_all (λ (f : fits d). gives d → GoesOn stands old new (items d) steps) r (λ f. ok_all (λ (g : gives d). GoesOn stands old new (items d) steps) r (λ g. (took.given d (f, g)).ok)))

  pub given_err : OnErr r ((d : DrumWords) → fits d → gives d → IsCut stands cut old new (items d) steps)
  given_err =
      err_all (λ d. fits d → gives d → IsCut stands cut old new (items d) steps) r
      (λ d. err_all (λ (f : fits d). gives d → IsCut stands cut old new (items d) steps) r (λ f. err_all (λ (g : gives d). IsCut stands cut old new (items d) steps) r (λ g. (took.given d (f, g)).err)))

-- a terminal has a job exactly where it has one over the words of a drum
pub job_there : {P : Type 0} {b : _} (m : System P b) (d : DrumWords) (t : ℕ) → is_some (job_at m.jobs.items t) ≡ is_some (fin.get (state_of m d).jobs t)
job_there m d t = by (job_at m.jobs.items t) refl
  where
    by : (o : Option Job) → job_at m.jobs.items t ≡ o → is_some (job_at m.jobs.items t) ≡ is_some (fin.get (state_of m d).jobs t)
    by None none = ap is_some none ∙ sym (ap is_some (job_missing (open_of m.files) m.typed.items m.jobs.items t none))
    by (Some j) at = ap is_some at ∙ sym (ap is_some (job_found (open_of m.files) m.typed.items m.jobs.items t j at))
