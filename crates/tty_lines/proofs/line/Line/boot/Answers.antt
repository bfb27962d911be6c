use Rattle.std.proofs.Common.{ap}
use Rattle.tty_lines.proofs.Assigned.{none_is_line}
use Rattle.tty_lines.proofs.line.Line.boot.Goals as goal

pub invariant_of-result : goal.invariant_of-result
invariant_of-result c =
    let buffer = c.in_ok-with_capacity.field-0 in
    (ap (λ b. b.capacity) c.in_ok-with_capacity.ensures, none_is_line buffer.items c.in_ok-boot.field-0 (ap (λ b. b.items) c.in_ok-with_capacity.ensures) c.in_ok-boot.ensures)
