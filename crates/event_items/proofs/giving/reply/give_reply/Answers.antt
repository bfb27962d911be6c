use Rattle.std.proofs.Common.{[], sym, subst}
use Rattle.plain_model.specs.Trees.{PlainTree}
use Rattle.event_items.specs.Giving.{TookItems, TookOver}
use Rattle.step_shown.specs.Replies.{fork_items, reply_items}
use Rattle.monitor_core.specs.Needing.{ShownAt}
use Rattle.monitor_core.specs.Systems.{FitsPages, state_of}
use Rattle.event_items.proofs.Given.{over_drums}
use Rattle.event_items.proofs.giving.reply.give_reply.Goals as goal

pub returns-in-Forks : goal.returns-in-Forks
returns-in-Forks g c =
    subst (λ r. TookOver (λ d. FitsPages c.args.system.now d × ShownAt c.args.system.now d c.args.reply) g.T.Taker.fault_count g.T.Taker.onward g.T.Taker.stands g.T.Taker.cut c.args.out.now c.give_forks.new.out c.give_forks.result (λ d. reply_items (state_of c.args.system.now d) r) []) (sym c.in-Forks.is)
    (over_drums (λ d. FitsPages c.args.system.now d × ShownAt c.args.system.now d c.args.reply) g.T.Taker.fault_count g.T.Taker.onward g.T.Taker.stands g.T.Taker.cut
    (subst (λ (x : PlainTree). TookItems g.T.Taker.fault_count g.T.Taker.onward g.T.Taker.stands g.T.Taker.cut c.args.out.now c.give_forks.new.out c.give_forks.result (λ d. fork_items x.forks c.in-Forks.t)) c.forks.ensures.forks c.give_forks.ensures))

pub returns-in-Ran : goal.returns-in-Ran
returns-in-Ran g c =
    subst (λ r. TookOver (λ d. FitsPages c.args.system.now d × ShownAt c.args.system.now d c.args.reply) g.T.Taker.fault_count g.T.Taker.onward g.T.Taker.stands g.T.Taker.cut c.args.out.now c.give_ran.new.out c.give_ran.result (λ d. reply_items (state_of c.args.system.now d) r) []) (sym c.in-Ran.is)
    (over_drums (λ d. FitsPages c.args.system.now d × ShownAt c.args.system.now d c.args.reply) g.T.Taker.fault_count g.T.Taker.onward g.T.Taker.stands g.T.Taker.cut c.give_ran.ensures)
