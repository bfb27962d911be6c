-- Jobs with the JFNs that tables have for them.
use Rattle.std.specs.Prelude.{◌≡◌, ◌≢◌, ℕ, List, None, map as each}
use Rattle.std.specs.FinMap as map
use Rattle.machine_names.specs.declared.names.Tty.{Tty}
use Rattle.plain_files.specs.OpenFiles.{OpenFiles, open_at}
use Rattle.plain_model.specs.State.{PlainJob}
use Rattle.plain_model.specs.FileCalls.{Jobs}
use Rattle.file_tables.specs.declared.tables.FileTables.{FileTables}
use Rattle.file_tables.specs.Tables.{jfns_at}

-- a job with the JFNs of its terminal
abbrev pub holding : List OpenFiles → ℕ → PlainJob → PlainJob
holding opens t job = record job { jfns = open_at opens t }

-- the jobs, each with the JFNs of its terminal
unfoldable pub jobs_holding : Jobs → List OpenFiles → Jobs
jobs_holding jobs opens = map.from_entries (each (λ e. (e.0, holding opens e.0 e.1)) (map.entries jobs))

-- a terminal without a job has no JFN
abbrev pub AreHeld : Jobs → List OpenFiles → Type 0
AreHeld jobs opens = (t : ℕ) → map.get jobs t ≡ None → open_at opens t ≡ map.empty

-- every job but that at a terminal has the JFNs that it had
abbrev pub OthersHold : Tty → FileTables → FileTables → Type 0
OthersHold t old new = (u : ℕ) → u ≢ t.0 → jfns_at new u ≡ jfns_at old u
