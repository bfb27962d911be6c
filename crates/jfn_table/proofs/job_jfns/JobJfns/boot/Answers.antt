use Rattle.std.proofs.Common.{◌≡◌, ◌∙◌, replicate, ap, arith}
use Rattle.std.specs.FinMap as map
use Rattle.machine_names.specs.declared.names.TheConstants.{TERMINALS}
use Rattle.plain_files.specs.JobFiles.{Held}
use Rattle.plain_files.specs.Jobs.{no_jfns}
use Rattle.jfn_table.proofs.job_jfns.JobJfns.boot.Goals as goal

pub returns : goal.returns
unfolding no_jfns
returns c =
    let all : c.loop-terminal._terminal ≡ TERMINALS = omega arith in
    let none : Held = map.empty in
    c.loop-terminal.invariant ∙ ap (λ n. replicate n none) all
