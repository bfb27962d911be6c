use Rattle.std.proofs.Common.{◌≡◌, ℕ, sym, ◌∙◌, ap, arith}
use Rattle.std.specs.Prelude.{Result, Ok}
use Rattle.std.proofs.lemmas.Grind.{common_steps}
use Rattle.plain_units.specs.Deeds.{in_ac}
use Rattle.plain_model.specs.declared.call.InterruptChange.{InterruptChange}
use Rattle.plain_model.specs.declared.fork.Fork.{Fork}
use Rattle.plain_model.specs.Calls.{ends, given, returning}
use Rattle.plain_model.specs.ForkCalls.{own_named}
use Rattle.job_forks.specs.Asking.{asked}
use Rattle.psi_calls.specs.Steps.{posts_to}
use Rattle.psi_calls.proofs.calls.iic.Goals as goal

pub returns-clause-turn : goal.returns-clause-turn
returns-clause-turn c =
    let regs = c.args.regs.now in
    let who = c.args.who in
    let a = asked who regs c.args.tree.now in
    let f = c.in_ok-fork.fork in
    let word : c.index-regs-2.result ≡ in_ac regs 2 = grind (arith, common_steps, c.index-regs-2.is) in
    let posts : c.posting.result ≡ posts_to who (in_ac regs 2) f = c.posting.ensures.posts ∙ ap (λ (w : ℕ). posts_to who w f) (sym c.index-regs-2.is ∙ word) in
    let named : own_named a ≡ Ok f = sym c.own_named.ensures.named ∙ c.in_ok-fork.was in
    ap ends (c.returning.ensures.end ∙ ap (λ (x : InterruptChange). returning x regs) posts)
    ∙ sym (ap (λ (o : Result Fork ℕ). given o (λ k. ends (returning (posts_to who (in_ac regs 2) k) regs))) named)
