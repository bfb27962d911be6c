use Rattle.std.proofs.Common.{◌≡◌, arith}
use Rattle.record_reader.proofs.Digits.{same_number}
use Rattle.record_reader.proofs.OneLine.{units_begin, units_middle, units_only}
use Rattle.record_reader.proofs.line.units.Goals.{then-terminal-via-then-terminal, then-terminal-via-else-terminal+then-serial-lt1, then-terminal-via-else-terminal+else-serial-lt1+then-serial}
use Rattle.record_reader.proofs.line.units.Goals.{then-count-lt1-via-then-count-lt1, then-count-lt1-via-else-count-lt1+then-count-gt-MOST_TURNS}
use Rattle.record_reader.proofs.line.units.Goals as goal

pub returns-in_err-terminal : goal.returns-in_err-terminal
returns-in_err-terminal c = rw c.from_residual.ensures (λ l h. units_begin c.args.rest.now l h c.in_err-terminal.ensures)

pub returns-in_err-serial : goal.returns-in_err-serial
returns-in_err-serial c = rw c.from_residual-in_err-serial.ensures (λ l h. units_middle c.args.rest.now c.in_ok-terminal.terminal.now c.in_ok-terminal.rest.now l h c.in_ok-terminal.ensures c.in_err-serial.ensures)

pub returns-in_err-terminal-2 : goal.returns-in_err-terminal-2
returns-in_err-terminal-2 c = rw c.from_residual-in_err-terminal-2.ensures (λ l h.
    let u = units_only c.args.rest.now c.in_ok-terminal.terminal.now c.in_ok-terminal.rest.now c.in_ok-serial.serial.now c.in_ok-serial.count.now l h c.in_ok-terminal.ensures c.in_ok-serial.ensures in
    c.in_err-terminal-2.ensures u.0.tty.0 u.2.tty)

pub returns-in_err-serial-2 : goal.returns-in_err-serial-2
returns-in_err-serial-2 c = rw c.from_residual-in_err-serial-2.ensures (λ l h.
    let u = units_only c.args.rest.now c.in_ok-terminal.terminal.now c.in_ok-terminal.rest.now c.in_ok-serial.serial.now c.in_ok-serial.count.now l h c.in_ok-terminal.ensures c.in_ok-serial.ensures in
    c.in_err-serial-2.ensures u.0.serial u.2.serial)

pub returns-in_err-count : goal.returns-in_err-count
returns-in_err-count c = rw c.from_residual-in_err-count.ensures (λ l h.
    let u = units_only c.args.rest.now c.in_ok-terminal.terminal.now c.in_ok-terminal.rest.now c.in_ok-serial.serial.now c.in_ok-serial.count.now l h c.in_ok-terminal.ensures c.in_ok-serial.ensures in
    c.in_err-count.ensures u.1 u.2.count)

pub returns-then-terminal : goal.returns-then-terminal
returns-then-terminal c l h =
    let u = units_only c.args.rest.now c.in_ok-terminal.terminal.now c.in_ok-terminal.rest.now c.in_ok-serial.serial.now c.in_ok-serial.count.now l h c.in_ok-terminal.ensures c.in_ok-serial.ensures in
    let tty : c.in_ok-terminal-2.terminal ≡ u.0.tty.0 = same_number c.in_ok-terminal.terminal.now c.in_ok-terminal-2.terminal u.0.tty.0 c.in_ok-terminal-2.ensures u.2.tty in
    let serial : c.in_ok-serial-2.serial ≡ u.0.serial = same_number c.in_ok-serial.serial.now c.in_ok-serial-2.serial u.0.serial c.in_ok-serial-2.ensures u.2.serial in
    elim c.then-terminal.branch [
      | then-terminal-via-then-terminal w ↦ absurd (omega (arith, tty, u.2.name.0, w.if-terminal.true))
      | then-terminal-via-else-terminal+then-serial-lt1 w ↦ absurd (omega (arith, serial, u.2.name.1, w.if-serial-lt1.true))
      | then-terminal-via-else-terminal+else-serial-lt1+then-serial w ↦ absurd (omega (arith, serial, u.2.name.2, w.if-serial.true))
    ]

pub returns-then-count-lt1 : goal.returns-then-count-lt1
returns-then-count-lt1 c l h =
    let u = units_only c.args.rest.now c.in_ok-terminal.terminal.now c.in_ok-terminal.rest.now c.in_ok-serial.serial.now c.in_ok-serial.count.now l h c.in_ok-terminal.ensures c.in_ok-serial.ensures in
    let count : c.in_ok-count.count ≡ u.1 = same_number c.in_ok-serial.count.now c.in_ok-count.count u.1 c.in_ok-count.ensures u.2.count in
    elim c.then-count-lt1.branch [
      | then-count-lt1-via-then-count-lt1 w ↦ absurd (omega (arith, count, u.2.some, w.if-count-lt1.true))
      | then-count-lt1-via-else-count-lt1+then-count-gt-MOST_TURNS w ↦ absurd (omega (arith, count, u.2.few, w.if-count-gt-MOST_TURNS.true))
    ]
