use Rattle.std.proofs.Common.{sym, ◌∙◌, ap, subst, arith, get_or}
use Rattle.std.proofs.lemmas.List.{get_or_read}
use Rattle.fork_tree.specs.Trees.{Lives}
use Rattle.fork_tree.proofs.Tables.{under_last}
use Rattle.fork_tree.proofs.fork_table.ForkTable.last.Goals as goal

pub returns-clause-above : goal.returns-clause-above
returns-clause-above c = λ f e tty.
    let t = c.self.inside in
    let is = get_or_read t.lasts.items c.from.result c.index.result.now (omega (arith, c.from.ensures, c.self.invariant.table.all_jobs)) c.index.ensures 0
    ∙ ap (λ i. get_or t.lasts.items i 0) (c.from.ensures ∙ sym tty) in
    omega (arith, is, under_last t.places.items t.slots.items t.lasts.items c.self.invariant.table f (subst (λ m. Lives m f) (sym c.self.view_is) e))

pub returns-clause-most : goal.returns-clause-most
returns-clause-most c =
    let t = c.self.inside in
    let is = get_or_read t.lasts.items c.from.result c.index.result.now (omega (arith, c.from.ensures, c.self.invariant.table.all_jobs)) c.index.ensures 0 in
    omega (arith, is, c.self.invariant.table.few c.from.result (omega (arith, c.from.ensures)))
