-- The JFNs of all jobs.
use Rattle.std.specs.Prelude.{ℕ, List, replicate, slice_index_or}
use Rattle.std.specs.List.{sum_by}
use Rattle.std.specs.FinMap as map
use Rattle.machine_names.specs.declared.names.TheConstants.{TERMINALS}
use Rattle.plain_files.specs.JobFiles.{Held, names_in}

-- the JFNs of the job at a terminal
abbrev pub jfns_of : List Held → ℕ → Held
jfns_of jobs t = slice_index_or jobs t map.empty

-- no job holds a JFN
unfoldable pub no_jfns : List Held
no_jfns = replicate TERMINALS map.empty

-- how many JFNs of all jobs name a file
abbrev pub names_in_all : List Held → ℕ → ℕ
names_in_all jobs f = sum_by (λ m. names_in m f) jobs
