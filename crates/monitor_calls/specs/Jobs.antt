-- The jobs of a machine as the plain machine's finite map.
use Rattle.std.specs.Prelude.{◌≡◌, ℕ, ◌+◌, List, [], ◌∷◌, Bool, Option, None, Some, if◌then◌else◌, slice_index_or, slice_set, replicate}
use Rattle.std.specs.Ordering.{nat_cmp}
use Rattle.std.specs.Option.{option_map, option_map_or}
use Rattle.word36.specs.Words.{right}
use Rattle.std.specs.declared.cmp.Ordering.{Ordering}
use Rattle.std.specs.FinMap as map
use Rattle.plain_model.specs.declared.fork.TerminalMode.TheVariants.{Command}
use Rattle.plain_files.specs.OpenFiles.{OpenFiles, open_at}
use Rattle.plain_model.specs.State.{PlainJob}
use Rattle.monitor_calls.specs.declared.job.Job.{Job}
use Rattle.monitor_calls.specs.declared.typing.Typing.{Typing}
use Rattle.monitor_calls.specs.Typings.{typing_at}

-- an entry of a table of options in a map, under a key of its number and itself
abbrev pub with_entry : {K X V : Type 0} {R : K → K → Ordering} → (ℕ → X → K) → (ℕ → X → V) → ℕ → Option X → map.FinMap R V → map.FinMap R V
with_entry key value n None m = m
with_entry key value n (Some x) m = map.insert m (key n x) (value n x)

-- the whole table as a map, its entries numbered from this number on
abbrev pub map_from : {K X V : Type 0} {R : K → K → Ordering} → (ℕ → X → K) → (ℕ → X → V) → ℕ → List (Option X) → map.FinMap R V
map_from key value n [] = map.empty
map_from key value n (o ∷ os) = with_entry key value n o (map_from key value (n + 1) os)

-- a job as the plain machine has it, with its JFNs and what was typed at its terminal
abbrev pub plain_job : OpenFiles → Typing → Job → PlainJob
plain_job jfns y j = record { user = j.user; top = j.top; mode = j.mode; line = y.line.items; start = option_map right j.start; jfns = jfns; input = y.input.input; codes = y.input.codes }

-- the jobs by terminal, each with the JFNs that are held there, and what was typed there
abbrev pub jobs_of : List OpenFiles → List Typing → List (Option Job) → map.FinMap nat_cmp PlainJob
jobs_of held typed jobs = map_from (λ t j. t) (λ t j. plain_job (open_at held t) (typing_at typed t) j) 0 jobs

-- the job of a terminal
abbrev pub job_at : List (Option Job) → ℕ → Option Job
job_at jobs t = slice_index_or jobs t None

-- the jobs once the monitor reads a terminal, where its job's top fork has stopped
abbrev pub jobs_left : List (Option Job) → ℕ → Bool → List (Option Job)
jobs_left jobs t stops = if stops then option_map_or (λ j. slice_set jobs t (Some (record j { mode = Command }))) (job_at jobs t) jobs else jobs

-- no JFN is held where no job is
abbrev pub AreUnheld : List OpenFiles → List (Option Job) → Type 0
AreUnheld held jobs = (t : ℕ) → job_at jobs t ≡ None → map.len (open_at held t) ≡ 0

-- no job at so many terminals
unfoldable pub no_jobs : ℕ → List (Option Job)
no_jobs n = replicate n None
