use Rattle.std.proofs.Common.{rules, ◌≡◌, ◌+◌, ◌<◌, ◌^◌, ℕ, Bool, List, length, false, true, get_or, set, slice_index, map as each, sym, ap, subst, ◌∙◌, arith}
use Rattle.std.proofs.lemmas.List.{get_or_default}
use Rattle.sum_tree.specs.Marks.{one_if, marks_below}
use Rattle.sum_tree.specs.Sums.{first_counts}
use Rattle.sum_tree.proofs.Levels.{counted_at, each_length, fewer_marks, mark_changed, marks_counted}
use Rattle.sum_tree.proofs.sum_tree.SumTree.set.Goals as goal

pub add_one-requires-clause-few : goal.add_one-requires-clause-few
add_one-requires-clause-few c =
    let marks = c.self.inside.marks.items in
    let inside : c.args.n < length marks = subst (λ (s : List Bool). c.args.n < length s) (sym c.self.view_is) c.requires in
    let clear : get_or marks c.args.n false ≡ false = get_or_default marks c.args.n false c.index.result.now inside ∙ sym c.index.ensures ∙ c.if-not-index.true in
    let long : length marks < 2 ^ 64 = search rules in
    let told : first_counts (slice_index c.self.inside.sums) (length c.self.inside.sums) ≡ marks_below marks (length marks) =
    ap (λ (l : List ℕ). first_counts (slice_index l) (length l)) c.self.invariant ∙ marks_counted marks (length (each one_if marks)) ∙ ap (marks_below marks) (each_length marks) in
    omega (arith, told, fewer_marks marks c.args.n inside clear, long)

pub invariant_of-self : goal.invariant_of-self
invariant_of-self c =
    let marks = c.self.inside.marks.items in
    let inside : c.args.n < length marks = subst (λ (s : List Bool). c.args.n < length s) (sym c.self.view_is) c.requires in
    let clear : get_or marks c.args.n false ≡ false = get_or_default marks c.args.n false c.index.result.now inside ∙ sym c.index.ensures ∙ c.if-not-index.true in
    let one : slice_index (each one_if marks) c.args.n + 1 ≡ 1 = ap (λ k. k + 1) (counted_at marks c.args.n ∙ ap one_if clear) in
    c.add_one.ensures ∙ ap (λ l. set l c.args.n (slice_index l c.args.n + 1)) c.self.invariant
    ∙ ap (set (each one_if marks) c.args.n) one ∙ mark_changed marks c.args.n true
