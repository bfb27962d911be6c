use Rattle.std.proofs.Common.{◌∙◌, sym, arith}
use Rattle.std.specs.Ordering.{nat_cmp}
use Rattle.std.specs.FinMap as map
use Rattle.tty_lines.proofs.Assigned.{below_gone, below_all, none_beyond}
use Rattle.tty_lines.proofs.line.unassign_all.Goals as goal

pub loop-code-preserved : goal.loop-code-preserved
loop-code-preserved c =
    rw c.remove.ensures.gone (below_gone map.empty c.args.codes.now c.loop-code.codes c.loop-code.code c.loop-code.invariant (map.get-empty nat_cmp c.loop-code.code))

pub returns : goal.returns
returns c =
    below_all map.empty c.args.codes.now c.loop-code.codes c.loop-code.code c.loop-code.invariant
    (λ k h. none_beyond c.args.codes.now c.requires k (omega arith) ∙ sym (map.get-empty nat_cmp k))
