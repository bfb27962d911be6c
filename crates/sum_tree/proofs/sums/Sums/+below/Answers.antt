use Rattle.std.proofs.Common.{rules, ◌≡◌, ◌+◌, ◌-◌, ◌/◌, ◌<◌, ◌≤◌, ◌^◌, ℕ, List, length, MatchOption, slice_index, arith, sym, subst, ap, ◌∙◌}
use Rattle.std.proofs.lemmas.Grind.{get_or_default_zero}
use Rattle.sum_tree.specs.Sums.{AreSumsAbove, first_counts}
use Rattle.sum_tree.proofs.Levels.{all_alike, no_more, below_even, below_odd}
use Rattle.sum_tree.proofs.sums.Sums.+below.Goals as goal
use Rattle.sum_tree.proofs.sums.Sums.+below.Goals.{then-n-eq1, else-n-eq1}

pub below-requires : goal.below-requires
below-requires t c =
    let counts = c.self.inside.counts.items in
    let inside : c.args.n ≤ length counts = subst (λ (s : List ℕ). c.args.n ≤ length s) (sym c.self.view_is) c.requires.within in
    let few : first_counts (slice_index counts) (length counts) < 2 ^ 64 = subst (λ (s : List ℕ). first_counts (slice_index s) (length s) < 2 ^ 64) (sym c.self.view_is) c.requires.few in
    let level : AreSumsAbove counts c.in-Some.above.value = subst (λ o. MatchOption o (length counts ≤ 1) (λ u. AreSumsAbove counts u.value)) c.in-Some.is c.self.invariant in
    let above : c.deref.result.now ≡ c.in-Some.above.value = c.deref.ensures in
    let same = all_alike counts c.in-Some.above.value level in
    (search rules, (rw above (omega (arith, level.size, inside)), rw above (omega (arith, same, few))))

pub returns-in-Some : goal.returns-in-Some
returns-in-Some t c =
    let counts = c.self.inside.counts.items in
    let inside : c.args.n ≤ length counts = subst (λ (s : List ℕ). c.args.n ≤ length s) (sym c.self.view_is) c.requires.within in
    let level : AreSumsAbove counts c.in-Some.above.value = subst (λ o. MatchOption o (length counts ≤ 1) (λ u. AreSumsAbove counts u.value)) c.in-Some.is c.self.invariant in
    let told : c.below.result ≡ first_counts (slice_index c.in-Some.above.value) (c.args.n / 2) = c.below.ensures ∙ ap (λ (l : List ℕ). first_counts (slice_index l) (c.args.n / 2)) c.deref.ensures in
    subst (λ (s : List ℕ). c.below.result + c.if-n-eq1.odd ≡ first_counts (slice_index s) c.args.n) c.self.view_is
    (elim c.if-n-eq1.branch [
      | then-n-eq1 w ↦
          let last = get_or_default_zero counts (c.args.n - 1) w.index.result.now (omega (arith, inside, w.if-n-eq1.true)) in
          omega (arith, told, below_odd counts c.in-Some.above.value level c.args.n w.if-n-eq1.true, w.index.ensures, last, w.odd-is)
      | else-n-eq1 w ↦ omega (arith, told, below_even counts c.in-Some.above.value level c.args.n w.if-n-eq1.false, w.odd-is)
    ])

pub overflow_add-result : goal.overflow_add-result
overflow_add-result t c =
    let counts = c.self.inside.counts.items in
    let inside : c.args.n ≤ length counts = subst (λ (s : List ℕ). c.args.n ≤ length s) (sym c.self.view_is) c.requires.within in
    let few : first_counts (slice_index counts) (length counts) < 2 ^ 64 = subst (λ (s : List ℕ). first_counts (slice_index s) (length s) < 2 ^ 64) (sym c.self.view_is) c.requires.few in
    let sum : c.below.result + c.if-n-eq1.odd ≡ first_counts (slice_index counts) c.args.n = subst (λ (s : List ℕ). c.below.result + c.if-n-eq1.odd ≡ first_counts (slice_index s) c.args.n) (sym c.self.view_is) (returns-in-Some t c) in
    omega (arith, sum, few, no_more (slice_index counts) c.args.n (length counts) inside)
