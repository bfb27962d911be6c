use Rattle.std.proofs.Common.{◌≡◌, replicate}
use Rattle.std.specs.FinMap as map
use Rattle.jfn_table.proofs.job_jfns.JobJfns.boot.Given as goal

abbrev pub invariant-loop-terminal : goal.invariant-loop-terminal
invariant-loop-terminal l = l.jobs.items ≡ replicate l._terminal map.empty
