use Rattle.std.proofs.Common.{◌≡◌, ◌∙◌, ◌-◌, ◌+◌, ◌||◌, sym, ap, arith}
use Rattle.std.specs.Option.{option_copied}
use Rattle.plain_model.specs.Forks.{superior_of, any_upward}
use Rattle.plain_model.specs.declared.fork.Fork.{Fork}
use Rattle.fork_tree.proofs.Upward.{look_none, look_over, look_some}
use Rattle.fork_tree.proofs.tree.Tree.is_frozen.Goals as goal

pub returns-in_default : goal.returns-in_default
returns-in_default c =
    let m = c.args.self.now.forks in
    let n = 30 - c.loop-ancestor._ancestor in
    sym (c.loop-ancestor.invariant
    ∙ (ap (λ o. any_upward (λ k. k.frozen) n m (option_copied o)) c.in_default.is ∙ look_none (λ k. k.frozen) m n))

pub returns-then-fork : goal.returns-then-fork
returns-then-fork c =
    let m = c.args.self.now.forks in
    let n = 30 - c.loop-ancestor._ancestor in
    let f = c.in-Some.fork.now in
    sym (c.loop-ancestor.invariant
    ∙ (ap (λ o. any_upward (λ k. k.frozen) n m (option_copied o)) c.in-Some.is
    ∙ (look_some (λ k. k.frozen) m n f (omega arith) ∙ ap (λ b. b || any_upward (λ k. k.frozen) (n - 1) m (superior_of m f)) c.if-fork.true)))

pub loop-ancestor-preserved : goal.loop-ancestor-preserved
loop-ancestor-preserved c =
    let m = c.args.self.now.forks in
    let n = 30 - c.loop-ancestor._ancestor in
    let f = c.in-Some.fork.now in
    let fewer : n - 1 ≡ 30 - (c.loop-ancestor._ancestor + 1) = omega arith in
    c.loop-ancestor.invariant
    ∙ (ap (λ o. any_upward (λ k. k.frozen) n m (option_copied o)) c.in-Some.is
    ∙ (look_some (λ k. k.frozen) m n f (omega arith)
    ∙ (ap (λ b. b || any_upward (λ k. k.frozen) (n - 1) m (superior_of m f)) c.if-fork.false
    ∙ (ap (λ k. any_upward (λ (x : Fork). x.frozen) k m (superior_of m f)) fewer
    ∙ ap (any_upward (λ k. k.frozen) (30 - (c.loop-ancestor._ancestor + 1)) m) (sym c.superior-next.ensures)))))

pub returns : goal.returns
returns c =
    let m = c.args.self.now.forks in
    let n = 30 - c.loop-ancestor._ancestor in
    sym (c.loop-ancestor.invariant ∙ look_over (λ k. k.frozen) m n (option_copied c.loop-ancestor.next) (omega arith))
