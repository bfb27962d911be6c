use Rattle.std.proofs.Common.{◌≡◌, sym, ◌∙◌, ap, subst, arith, get_or}
use Rattle.std.proofs.lemmas.List.{get_or_read}
use Rattle.plain_model.specs.Forks.{ForkMap}
use Rattle.machine_names.specs.Bounds.{IsTerminal}
use Rattle.fork_tree.specs.Waking.{NoneWaits, may_wait, quiet_notes}
use Rattle.fork_tree.specs.declared.notes.Notes.{Notes}
use Rattle.fork_tree.proofs.Reading.{by_notes, none_beyond}
use Rattle.fork_tree.proofs.tree.Tree.may_wait.Goals as goal

pub returns-then-tty-ge-TERMINALS : goal.returns-then-tty-ge-TERMINALS
returns-then-tty-ge-TERMINALS c =
    let t = c.self.inside in
    subst (λ (m : ForkMap). NoneWaits c.args.awaited m c.args.tty) (ap (λ tree. tree.forks) c.self.view_is)
    (none_beyond t.forks c.self.invariant.tree.slotted c.args.tty c.if-tty-ge-TERMINALS.true c.args.awaited)

pub returns : goal.returns
returns c =
    let t = c.self.inside in
    let tty = c.args.tty in
    let awaited = c.args.awaited in
    let notes = t.notes.items in
    let n = c.index.result.now in
    let is : n ≡ get_or notes tty.0 quiet_notes =
    get_or_read notes c.from.result n (omega (arith, c.from.ensures, c.self.invariant.terminals, c.if-tty-ge-TERMINALS.false)) c.index.ensures quiet_notes ∙ ap (λ i. get_or notes i quiet_notes) c.from.ensures in
    by_notes c.may_wait.result (IsTerminal tty) (NoneWaits awaited c.args.self.now.forks tty) (omega (arith, c.if-tty-ge-TERMINALS.false)) (λ off.
    subst (λ (m : ForkMap). NoneWaits awaited m tty) (ap (λ tree. tree.forks) c.self.view_is)
    (c.self.invariant.quiet tty awaited (sym (c.may_wait.ensures ∙ ap (λ (m : Notes). may_wait m awaited) is) ∙ off)))
