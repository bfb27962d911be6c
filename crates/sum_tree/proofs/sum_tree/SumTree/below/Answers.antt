use Rattle.std.proofs.Common.{rules, ◌≡◌, ◌<◌, ◌^◌, ℕ, Bool, List, length, slice_index, map as each, ap, subst, ◌∙◌, arith}
use Rattle.sum_tree.specs.Marks.{one_if, marks_below}
use Rattle.sum_tree.specs.Sums.{first_counts}
use Rattle.sum_tree.proofs.Levels.{marks_counted, few_marks}
use Rattle.sum_tree.proofs.sum_tree.SumTree.below.Goals as goal

pub below-requires-clause-few : goal.below-requires-clause-few
below-requires-clause-few c =
    let marks = c.self.inside.marks.items in
    let long : length marks < 2 ^ 64 = search rules in
    let told = ap (λ (l : List ℕ). first_counts (slice_index l) (length l)) c.self.invariant ∙ marks_counted marks (length (each one_if marks)) in
    omega (arith, told, few_marks marks (length (each one_if marks)), long)

pub returns : goal.returns
returns c =
    let marks = c.self.inside.marks.items in
    subst (λ (s : List Bool). c.below.result ≡ marks_below s c.args.n) c.self.view_is
    (c.below.ensures ∙ ap (λ (l : List ℕ). first_counts (slice_index l) c.args.n) c.self.invariant ∙ marks_counted marks c.args.n)
