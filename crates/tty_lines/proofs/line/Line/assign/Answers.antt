use Rattle.tty_lines.proofs.Assigned.{assigned_put}
use Rattle.tty_lines.proofs.line.Line.assign.Goals as goal

pub invariant_of-self : goal.invariant_of-self
invariant_of-self c =
    let line = c.self.invariant.1 in
    let assigned = assigned_put c.self.inside.codes c.args.code c.args.fork c.args.channel line.assigned c.requires.code c.requires.channel in
    (c.self.invariant.0, record { few = line.few; small = line.small; assigned = rw (c.insert.ensures.put, c.from.ensures) assigned })
