-- What is done to a system by a part of what is typed, and what is shown.
use Rattle.std.specs.Prelude.{◌≡◌, ℕ, List, Some, true}
use Rattle.machine_names.specs.declared.names.Tty.{Tty}
use Rattle.machine_names.specs.declared.names.ForkName.{ForkName}
use Rattle.plain_model.specs.declared.fork.TerminalMode.{TerminalMode}
use Rattle.plain_model.specs.declared.fork.TerminalMode.TheVariants.{Command, Program}
use Rattle.plain_model.specs.Trees.{PlainTree}
use Rattle.fork_tree.specs.Changes.{with_mark_of}
use Rattle.script_texts.specs.declared.event.Item.{Item}
use Rattle.page_contracts.specs.DrumWords.{DrumWords}
use Rattle.page_contracts.specs.Pages.{MayLose}
use Rattle.plain_files.specs.OpenFiles.{open_at}
use Rattle.plain_model.specs.State.{PlainJob, PlainState}
use Rattle.plain_model.specs.Unit.{Effect}
use Rattle.file_tables.specs.Tables.{open_of}
use Rattle.monitor_calls.specs.declared.job.Job.{Job}
use Rattle.monitor_core.specs.declared.system.System.{System}
use Rattle.monitor_calls.specs.Jobs.{job_at, plain_job}
use Rattle.monitor_core.specs.Systems.{FitsPages, IsWithin, state_of}
use Rattle.monitor_calls.specs.Typings.{typing_at}

-- an effect is had, in which no unit runs and no page is made: over each drum that fits, the system stands for the state that it leaves, and
-- these items are what it shows; what is queued and held may have become less
pub record Has {P : Type 0} {b : _} (old new : System P b) (effect : PlainState → Effect) (items : PlainState → List Item) : Type 0 where
  pub each : (d : DrumWords) → FitsPages old d
      → FitsPages new d × (state_of new d ≡ (effect (state_of old d)).state) × (items (state_of new d) ≡ (effect (state_of old d)).items)
  pub within : (entries : ℕ) → IsWithin old entries → IsWithin new entries
  pub most : b.means.most new.pages ≡ b.means.most old.pages
  pub loses : MayLose b.means old.pages new.pages

-- a job of a terminal as the plain machine has it
abbrev pub job_in : {P : Type 0} {b : _} → System P b → Tty → Job → PlainJob
job_in m t j = plain_job (open_at (open_of m.files) t.0) (typing_at m.typed.items t.0) j

-- a terminal's job is this one
abbrev pub HasJobAt : {P : Type 0} {b : _} → System P b → Tty → Job → Type 0
HasJobAt m t j = job_at m.jobs.items t.0 ≡ Some j

-- a tree once a terminal's job is stopped: its top fork has the freeze mark, where the forks of the job read the terminal
abbrev pub stopped_tree : TerminalMode → PlainTree → ForkName → PlainTree
stopped_tree Program tree top = with_mark_of tree top true
stopped_tree Command tree top = tree
