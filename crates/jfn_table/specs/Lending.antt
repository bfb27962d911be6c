-- The JFNs of one job are lent out of those of all.
use Rattle.std.specs.Prelude.{ℕ, List, slice_set}
use Rattle.std.specs.Borrow.{Fml, Lends, MutBor}
use Rattle.jfn_table.specs.contracts.job_jfns.JobJfns.{the_row}
use Rattle.jfn_table.specs.contracts.jfns.Jfns.{the_row as jfns_row}
use Rattle.plain_files.specs.JobFiles.{Held}

-- the job at this terminal then holds the JFNs that were left there, and every other job those it held
abbrev pub LendsJfns : MutBor (List Held) → ℕ → MutBor Held → Fml
LendsJfns jobs t jfns = Lends the_row jfns_row jobs jfns (slice_set jobs.now t)
