use Rattle.std.proofs.Common.{◌≡◌, ◌∙◌, ◌-◌, ◌+◌, ◌||◌, sym, ap, arith}
use Rattle.std.specs.Option.{option_copied}
use Rattle.plain_model.specs.Forks.{superior_of}
use Rattle.machine_names.specs.Orders.{same_fork}
use Rattle.plain_model.specs.Inferiors.{is_within}
use Rattle.fork_tree.proofs.Upward.{look_none, look_over, look_some}
use Rattle.fork_tree.proofs.tree.Tree.has_superior.Goals as goal

pub returns-in_default : goal.returns-in_default
returns-in_default c =
    let m = c.args.self.now.forks in
    let n = 30 - c.loop-superior._superior in
    sym (c.loop-superior.invariant ∙ (ap (λ o. is_within n m c.args.who (option_copied o)) c.in_default.is ∙ look_none (λ k. same_fork k.name c.args.who) m n))

pub returns-then-eq : goal.returns-then-eq
returns-then-eq c =
    let m = c.args.self.now.forks in
    let n = 30 - c.loop-superior._superior in
    let over = c.in-Some.over.now in
    sym (c.loop-superior.invariant
    ∙ (ap (λ o. is_within n m c.args.who (option_copied o)) c.in-Some.is
    ∙ (look_some (λ k. same_fork k.name c.args.who) m n over (omega arith)
    ∙ ap (λ b. b || is_within (n - 1) m c.args.who (superior_of m over)) (sym c.if-eq.ensures))))

pub loop-superior-preserved : goal.loop-superior-preserved
loop-superior-preserved c =
    let m = c.args.self.now.forks in
    let n = 30 - c.loop-superior._superior in
    let over = c.in-Some.over.now in
    let fewer : n - 1 ≡ 30 - (c.loop-superior._superior + 1) = omega arith in
    c.loop-superior.invariant
    ∙ (ap (λ o. is_within n m c.args.who (option_copied o)) c.in-Some.is
    ∙ (look_some (λ k. same_fork k.name c.args.who) m n over (omega arith)
    ∙ (ap (λ b. b || is_within (n - 1) m c.args.who (superior_of m over)) (sym c.if-eq.ensures)
    ∙ (ap (λ k. is_within k m c.args.who (superior_of m over)) fewer
    ∙ ap (is_within (30 - (c.loop-superior._superior + 1)) m c.args.who) (sym c.superior-next-in-loop-superior.ensures)))))

pub returns : goal.returns
returns c =
    let m = c.args.self.now.forks in
    let n = 30 - c.loop-superior._superior in
    sym (c.loop-superior.invariant ∙ look_over (λ k. same_fork k.name c.args.who) m n (option_copied c.loop-superior.next) (omega arith))
