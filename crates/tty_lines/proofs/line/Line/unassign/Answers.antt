use Rattle.tty_lines.proofs.Assigned.{assigned_gone}
use Rattle.tty_lines.proofs.line.Line.unassign.Goals as goal

pub invariant_of-self : goal.invariant_of-self
invariant_of-self c =
    let line = c.self.invariant.1 in
    let assigned = assigned_gone c.self.inside.codes c.args.code line.assigned in
    (c.self.invariant.0, record { few = line.few; small = line.small; assigned = rw (c.remove.ensures.gone, c.from.ensures) assigned })
