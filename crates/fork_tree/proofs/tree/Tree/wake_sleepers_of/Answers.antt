use Rattle.std.proofs.Common.{◌∙◌, ap, sym}
use Rattle.fork_tree.specs.declared.notes.Awaited.TheVariants.{Moment}
use Rattle.fork_tree.proofs.Reading.{nobody_freed}
use Rattle.fork_tree.proofs.tree.Tree.wake_sleepers_of.Goals as goal

pub returns-then-may_wait : goal.returns-then-may_wait
returns-then-may_wait c = c.note_sleepers.ensures ∙ c.wake_all.ensures

pub returns-else-may_wait : goal.returns-else-may_wait
returns-else-may_wait c =
    let tree = c.args.self.now in
    ap (λ m. record tree { forks = m }) (sym (nobody_freed tree.forks c.are_trees.ensures.slotted c.args.tty (Moment c.args.clock) c.if-may_wait.ensures))
