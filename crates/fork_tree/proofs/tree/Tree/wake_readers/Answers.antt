use Rattle.std.proofs.Common.{◌∙◌, ap, subst, sym}
use Rattle.plain_model.specs.Trees.{PlainTree, readers_woken}
use Rattle.fork_tree.specs.declared.notes.Awaited.TheVariants.{Character}
use Rattle.fork_tree.specs.Waking.{NoneWaits}
use Rattle.fork_tree.proofs.Reading.{nobody_freed}
use Rattle.fork_tree.proofs.Waking.{none_reads}
use Rattle.fork_tree.proofs.tree.Tree.wake_readers.Goals as goal

pub note_readers-requires-clause-none : goal.note_readers-requires-clause-none
unfolding readers_woken
note_readers-requires-clause-none c = subst (λ (tree : PlainTree). NoneWaits Character tree.forks c.args.tty) (sym c.wake_all.ensures) (none_reads c.args.self.now c.are_trees.ensures c.args.tty)

pub returns-clause-woken : goal.returns-clause-woken
unfolding readers_woken
returns-clause-woken c = c.note_readers.ensures ∙ c.wake_all.ensures

pub returns-then-not-may_wait-clause-woken : goal.returns-then-not-may_wait-clause-woken
unfolding readers_woken
returns-then-not-may_wait-clause-woken c =
    let tree = c.args.self.now in
    ap (λ m. record tree { forks = m }) (sym (nobody_freed tree.forks c.are_trees.ensures.slotted c.args.tty Character c.if-not-may_wait.ensures))
