use Rattle.std.proofs.Common.{sym, ◌∙◌, ap}
use Rattle.std.specs.Option.{option_and_then}
use Rattle.plain_units.specs.declared.channel.TheConstants.{INFERIOR_ENDED}
use Rattle.plain_model.specs.Forks.{fork_in}
use Rattle.plain_model.specs.Interrupts.{posted}
use Rattle.plain_model.specs.Trees.{changed}
use Rattle.fork_tree.proofs.Posted.{body_left}
use Rattle.fork_tree.proofs.tree.Tree.tell_superior.Goals as goal

pub returns-then-is_some : goal.returns-then-is_some
returns-then-is_some c =
    let forks = c.args.self.now.forks in
    let found = body_left forks (λ k. posted k INFERIOR_ENDED) c.post.new.body c.body_at.result.now (fork_in forks c.args.tty c.in-Some.slot) c.body_at.ensures.body c.post.ensures.fork in
    let at = ap (λ slot. changed forks (λ k. posted k INFERIOR_ENDED) (option_and_then (fork_in forks c.args.tty) slot)) (sym c.in-Some.is) in
    ap (λ m. record c.args.self.now { forks = m }) (found ∙ at)
