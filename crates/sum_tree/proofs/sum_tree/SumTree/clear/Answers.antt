use Rattle.std.proofs.Common.{◌≡◌, ◌-◌, ◌<◌, Bool, List, length, false, true, get_or, set, map as each, sym, ap, subst, ◌∙◌}
use Rattle.std.proofs.lemmas.List.{get_or_default}
use Rattle.std.specs.Prelude.{slice_index}
use Rattle.sum_tree.specs.Marks.{one_if}
use Rattle.sum_tree.proofs.Levels.{counted_at, mark_changed}
use Rattle.sum_tree.proofs.sum_tree.SumTree.clear.Goals as goal

pub invariant_of-self : goal.invariant_of-self
invariant_of-self c =
    let marks = c.self.inside.marks.items in
    let inside : c.args.n < length marks = subst (λ (s : List Bool). c.args.n < length s) (sym c.self.view_is) c.requires in
    let marked : get_or marks c.args.n false ≡ true = get_or_default marks c.args.n false c.index.result.now inside ∙ sym c.index.ensures ∙ c.if-index.true in
    let one : slice_index (each one_if marks) c.args.n - 1 ≡ 0 = ap (λ k. k - 1) (counted_at marks c.args.n ∙ ap one_if marked) in
    c.take_one.ensures ∙ ap (λ l. set l c.args.n (slice_index l c.args.n - 1)) c.self.invariant
    ∙ ap (set (each one_if marks) c.args.n) one ∙ mark_changed marks c.args.n false
