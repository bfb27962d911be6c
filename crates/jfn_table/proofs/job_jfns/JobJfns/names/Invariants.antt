use Rattle.std.proofs.Common.{◌≡◌, ◌≤◌, ◌*◌, take, sum_by}
use Rattle.plain_files.specs.JobFiles.{names_in}
use Rattle.jfn_table.proofs.job_jfns.JobJfns.names.Given as goal

abbrev pub invariant-loop-jfns : goal.invariant-loop-jfns
invariant-loop-jfns l =
    (l.names ≡ sum_by (λ m. names_in m l.f.0) (take l.jfns-index l.jfns-items)) × (l.names ≤ 20 * l.jfns-index)
