use Rattle.std.proofs.Common.{rules, ◌≡◌, false, replicate, sym, ap, ◌∙◌, map as each}
use Rattle.sum_tree.specs.Marks.{one_if}
use Rattle.sum_tree.proofs.Levels.{none_marked}
use Rattle.sum_tree.proofs.sum_tree.SumTree.boot.Goals as goal

pub invariant_of-result : goal.invariant_of-result
invariant_of-result c =
    let marks : c.in_ok-vec.field-0.items ≡ replicate c.args.bound false = search rules in
    c.in_ok-boot.ensures ∙ sym (none_marked c.args.bound) ∙ ap (each one_if) (sym marks)
