use Rattle.std.proofs.Common.{sym, ◌∙◌, ap}
use Rattle.plain_model.specs.Trees.{with_body}
use Rattle.monitor_calls.specs.ForkUnit.{answered}
use Rattle.monitor_calls.proofs.calls.left.Goals as goal

pub returns-in-After-clause-fork : goal.returns-in-After-clause-fork
returns-in-After-clause-fork c f = c.post_if.ensures.fork f ∙ ap (answered (with_body c.args.body.now f)) (sym c.in-After.is)

pub returns-in-Halt-clause-fork : goal.returns-in-Halt-clause-fork
returns-in-Halt-clause-fork c f = c.halt.ensures.fork f ∙ ap (answered (with_body c.args.body.now f)) (sym c.in-Halt.is)

pub returns-in-Refused-clause-fork : goal.returns-in-Refused-clause-fork
returns-in-Refused-clause-fork c f = c.post_channel.ensures.fork f ∙ ap (answered (with_body c.args.body.now f)) (sym c.in-Refused.is)

pub returns-in-Failed-clause-fork : goal.returns-in-Failed-clause-fork
returns-in-Failed-clause-fork c f = c.fail.ensures.fork f ∙ ap (answered (with_body c.args.body.now f)) (sym c.in-Failed.is)

pub returns-in-Trap-clause-fork : goal.returns-in-Trap-clause-fork
returns-in-Trap-clause-fork c f = c.post_channel-in-Trap.ensures.fork f ∙ ap (answered (with_body c.args.body.now f)) (sym c.in-Trap.is)
