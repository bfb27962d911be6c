use Rattle.std.proofs.Common.{◌≡◌, true, cond, sym, ◌∙◌, ap}
use Rattle.machine_names.specs.Orders.{same_fork}
use Rattle.plain_model.specs.declared.call.InterruptChange.TheVariants.{Become, Post}
use Rattle.plain_model.specs.Interrupts.{channels_of, posted_all}
use Rattle.psi_calls.proofs.calls.posting.Goals as goal

pub returns-then-eq-clause-posts : goal.returns-then-eq-clause-posts
returns-then-eq-clause-posts c =
    let f = c.args.fork in
    let same : same_fork f.name c.args.who ≡ true = sym c.eq.ensures ∙ c.if-eq.true in
    ap (λ b. Become f.name b) c.posted.ensures.posted ∙ sym (ap (λ b. cond b (Become f.name (posted_all f (channels_of c.args.channels)).body) (Post f.name c.args.channels)) same)
