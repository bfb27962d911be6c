-- TYPE: the characters of a text, over the plain state of a system.
use Rattle.std.proofs.Common.{◌≡◌, ℕ, List, true, Option, Some, None, is_some, refl, ◌∙◌, ap}
use Rattle.std.specs.Option.{option_map_or}
use Rattle.machine_names.specs.declared.names.Tty.{Tty}
use Rattle.script_texts.specs.declared.event.Event.TheVariants.{TypeIn}
use Rattle.script_texts.specs.declared.event.Refusal.TheVariants.{NoJob}
use Rattle.script_texts.specs.declared.event.Step.TheVariants.{Outer}
use Rattle.page_contracts.specs.DrumWords.{DrumWords}
use Rattle.file_tables.specs.Tables.{open_of}
use Rattle.plain_model.specs.Events.{outer}
use Rattle.plain_model.specs.Run.{apply}
use Rattle.plain_model.specs.State.{PlainJob}
use Rattle.plain_model.specs.TypeEvents.{typed_all}
use Rattle.plain_model.specs.Unit.{refused}
use Rattle.plain_model.proofs.Equations.{apply_outer, outer_type_in}
use Rattle.monitor_calls.specs.declared.job.Job.{Job}
use Rattle.monitor_calls.specs.Jobs.{job_at}
use Rattle.monitor_calls.proofs.Lookups.{job_found, job_missing}
use Rattle.monitor_core.specs.declared.system.System.{System}
use Rattle.monitor_core.specs.Systems.{state_of}

module _ {P : Type 0} {b : _} (m : System P b) (t : Tty) (text : List ℕ) (d : DrumWords) where
  -- without a job it is refused
  pub types_nothing : job_at m.jobs.items t.0 ≡ None → outer (state_of m d) (TypeIn t text) ≡ refused (state_of m d) (NoJob t)
  types_nothing free =
      let s = state_of m d in
      outer_type_in s t text ∙ ap (λ (o : Option PlainJob). option_map_or (λ j. typed_all s t text) o (refused s (NoJob t))) (job_missing (open_of m.files) m.typed.items m.jobs.items t.0 free)

  -- else it is what the characters do
  pub types_all : (j : Job) → job_at m.jobs.items t.0 ≡ Some j → apply (state_of m d) (Outer (TypeIn t text)) ≡ typed_all (state_of m d) t text
  types_all j at =
      let s = state_of m d in
      apply_outer s (TypeIn t text) ∙ outer_type_in s t text
      ∙ ap (λ (o : Option PlainJob). option_map_or (λ k. typed_all s t text) o (refused s (NoJob t))) (job_found (open_of m.files) m.typed.items m.jobs.items t.0 j at)

-- what is there
pub has_one : {X : Type 0} (o : Option X) → is_some o ≡ true → (x : X) × (o ≡ Some x)
has_one None h = absurd (cc h)
has_one (Some x) h = (x, refl)
