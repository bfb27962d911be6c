use Rattle.std.proofs.Common.{◌∙◌, ap}
use Rattle.tty_lines.proofs.Assigned.{none_is_line}
use Rattle.tty_lines.proofs.line.Line.clear.Goals as goal

pub invariant_of-self : goal.invariant_of-self
invariant_of-self c =
    let line = none_is_line c.clear.new.self.items c.unassign_all.new.codes (ap (λ b. b.items) c.clear.ensures) c.unassign_all.ensures in
    (ap (λ b. b.capacity) c.clear.ensures ∙ c.self.invariant.0, line)
