use Rattle.std.proofs.Common.{rules, ◌≡◌, ◌+◌, ◌<◌, ◌≤◌, ◌^◌, ℕ, List, length, MatchOption, slice_index, arith, sym, subst}
use Rattle.std.proofs.lemmas.Grind.{get_or_default_zero}
use Rattle.sum_tree.specs.Sums.{AreSumsAbove, first_counts}
use Rattle.sum_tree.proofs.Levels.{all_alike, one_of}
use Rattle.sum_tree.proofs.sums.Sums.+add_one.Goals as goal

pub overflow_add-index_mut : goal.overflow_add-index_mut
overflow_add-index_mut t c =
    let counts = c.self.inside.counts.items in
    let inside : c.args.n < length counts = subst (λ (s : List ℕ). c.args.n < length s) (sym c.self.view_is) c.requires.within in
    let few : first_counts (slice_index counts) (length counts) + 1 < 2 ^ 64 = subst (λ (s : List ℕ). first_counts (slice_index s) (length s) + 1 < 2 ^ 64) (sym c.self.view_is) c.requires.few in
    omega (arith, c.index_mut.ensures.value, get_or_default_zero counts c.args.n c.index_mut.result.now inside, one_of (slice_index counts) c.args.n (length counts) inside, few)

pub add_one-requires : goal.add_one-requires
add_one-requires t c =
    let counts = c.self.inside.counts.items in
    let inside : c.args.n < length counts = subst (λ (s : List ℕ). c.args.n < length s) (sym c.self.view_is) c.requires.within in
    let few : first_counts (slice_index counts) (length counts) + 1 < 2 ^ 64 = subst (λ (s : List ℕ). first_counts (slice_index s) (length s) + 1 < 2 ^ 64) (sym c.self.view_is) c.requires.few in
    let level : AreSumsAbove counts c.in-Some.above.value = subst (λ o. MatchOption o (length counts ≤ 1) (λ u. AreSumsAbove counts u.value)) c.in-Some.is c.self.invariant in
    let above : c.deref_mut.result.now ≡ c.in-Some.above.value = c.deref_mut.ensures.value in
    let same = all_alike counts c.in-Some.above.value level in
    (search rules, (rw above (omega (arith, level.size, inside)), rw above (omega (arith, same, few))))
