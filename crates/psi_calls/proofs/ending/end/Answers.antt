use Rattle.psi_calls.proofs.Ended.{done_ends, other_ends}
use Rattle.psi_calls.proofs.ending.end.Goals as goal
use Rattle.psi_calls.proofs.ending.end.Goals.{in-Done, in_default}

pub returns-clause-told : goal.returns-clause-told
returns-clause-told c =
    let tree = c.args.tree.now in
    let line = c.args.line.now in
    let t = c.args.who.tty in
    let e = c.args.ending in
    elim c.match-ending.branch [
      | in-Done w ↦ rw (w.tree-is, w.line-is) (done_ends tree w.change.new.tree line w.change.new.line t e w.in-Done.what w.in-Done.regs w.in-Done.out w.in-Done.post w.in-Done.is w.change.ensures.told)
      | in_default w ↦ other_ends tree c.match-ending.tree line c.match-ending.line t e w.in_default.not-Done w.tree-is w.line-is
    ]
